use Rattle.message_parts.proofs.Common.{rules, to_z-of_z}
use mir.Syntax.{w32}
use mir.Val.{SFits}
use Rattle.message_parts.proofs.Appending.{object_written}

pub returns : Rattle.message_parts.proofs.exited.ExitedPart.write.Goals.returns
returns c =
    let fits : SFits w32 c.args.self.now.exit_code = search rules in
    let code = rw (to_z-of_z w32 c.args.self.now.exit_code fits) at c.in_ok-signed.ensures in
    object_written c.end_object.result c.in_ok-begin_object.ensures code c.end_object.ensures
