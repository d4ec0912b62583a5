use Rattle.std.proofs.lemmas.Result.{on_ok_weaker}
use Rattle.message_parts.proofs.Appending.{and_then, if_then}

pub returns : Rattle.requests.proofs.arguments.variables.Goals.returns
returns c = on_ok_weaker c.write_one.result (λ last. if_then _ _ c.args.a.now.count c.in_ok-part_if.ensures (if_then _ _ c.args.a.now.filter c.in_ok-filter_if.ensures (and_then c.in_ok-part.ensures last))) c.write_one.ensures
