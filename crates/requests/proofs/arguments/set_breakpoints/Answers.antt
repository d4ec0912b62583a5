use Rattle.std.proofs.lemmas.Result.{on_ok_weaker}
use Rattle.message_parts.proofs.Appending.{and_then}

pub returns : Rattle.requests.proofs.arguments.set_breakpoints.Goals.returns
returns c = on_ok_weaker c.write_one.result (λ last. and_then c.in_ok-write_list.ensures last) c.write_one.ensures
