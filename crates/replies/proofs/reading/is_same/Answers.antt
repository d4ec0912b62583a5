use Rattle.std.proofs.Common.{◌∙◌}
use Rattle.replies.proofs.Bodies.{read-from_json_of}
use Rattle.replies.proofs.Sameness.{bytes_eq-texts}
use Rattle.replies.proofs.Values.{has_float-message_data}

pub returns : Rattle.replies.proofs.reading.is_same.Goals.returns
returns c =
    let text = c.in_ok-text.ensures in
    let written = c.in_ok-written.ensures in
    c.eq.ensures
    ∙ rw (c.as_slice.ensures.value, c.as_slice-2.ensures.value)
    (bytes_eq-texts _ _ _ _ (text.reads_back c.requires) (read-from_json_of _ _ written.value) text.text written.text
    (has_float-message_data c.args.seq c.args.message.now))
