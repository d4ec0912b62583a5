use Rattle.std.proofs.lemmas.Result.{on_ok_weaker}
use Rattle.message_parts.proofs.Appending.{and_then}

pub returns : Rattle.requests.proofs.arguments.disassemble.Goals.returns
returns c = on_ok_weaker c.write_one-2.result (λ last. and_then c.in_ok-part.ensures (and_then c.in_ok-write_one.ensures (and_then c.in_ok-part-2.ensures last))) c.write_one-2.ensures
