use Rattle.std.proofs.lemmas.Result.{on_ok_weaker}
use Rattle.message_parts.proofs.Appending.{and_then, if_then}

pub returns : Rattle.requests.proofs.arguments.stack_trace.Goals.returns
returns c = on_ok_weaker c.write_one.result (λ last. if_then _ _ c.args.a.now.levels c.in_ok-part_if.ensures (and_then c.in_ok-part.ensures last)) c.write_one.ensures
