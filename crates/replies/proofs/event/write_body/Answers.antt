use Rattle.message_parts.proofs.Appending.{member_if_written}

pub returns-in_ok-key-in-Continued : Rattle.replies.proofs.event.write_body.Goals.returns-in_ok-key-in-Continued
returns-in_ok-key-in-Continued c =
    rw c.in-Continued.is (member_if_written _ _ c.body.result c.in_ok-key-in-Continued.ensures c.body.ensures)
