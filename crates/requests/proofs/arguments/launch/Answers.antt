use Rattle.std.proofs.lemmas.Result.{on_ok_weaker}
use Rattle.message_parts.proofs.Appending.{and_then}

pub returns : Rattle.requests.proofs.arguments.launch.Goals.returns
returns c = on_ok_weaker c.truth.result (λ last. and_then c.in_ok-part.ensures last) c.truth.ensures
