use Rattle.std.proofs.lemmas.Result.{on_ok_weaker}
use Rattle.message_parts.proofs.Appending.{and_then}

pub returns : Rattle.requests.proofs.arguments.initialize.Goals.returns
returns c = on_ok_weaker c.truth-2.result (λ last. and_then c.in_ok-text.ensures (and_then c.in_ok-truth.ensures last)) c.truth-2.ensures
