use Rattle.std.proofs.lemmas.Result.{on_ok_weaker}
use Rattle.message_parts.proofs.Appending.{and_then}

pub returns : Rattle.requests.proofs.arguments.step.Goals.returns
returns c = on_ok_weaker c.write_one.result (λ last. and_then (rw c.granularity_name.ensures at c.in_ok-text.ensures) last) c.write_one.ensures
