use Rattle.std.proofs.lemmas.Result.{on_ok_weaker}
use Rattle.message_parts.proofs.Appending.{and_then}

pub returns : Rattle.replies.proofs.writing.last_members.Goals.returns
returns c =
    on_ok_weaker c.text.result
    (λ last. and_then c.in_ok-number.ensures (and_then c.in_ok-number-2.ensures (and_then c.in_ok-truth.ensures last)))
    c.text.ensures
