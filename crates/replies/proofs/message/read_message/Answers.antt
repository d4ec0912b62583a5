use Rattle.std.proofs.Common.{inl, sym, ◌∙◌}
use Rattle.protocol.proofs.JsonTexts.{json_of-is_utf8}
use Rattle.replies.proofs.Finding.{reading_of-value, ReadsAs-reading_of, reading_of-message_data}
use Rattle.replies.proofs.message.read_message.Goals as goal

pub returns-in-Ok-clause-reads : goal.returns-in-Ok-clause-reads
returns-in-Ok-clause-reads c =
    let exact = reading_of-value _ _ _ c.in_ok-value.ensures.value c.in-Ok.ensures in
    rw exact at (ReadsAs-reading_of c.args.body.now)

pub returns-in-Ok-clause-written : goal.returns-in-Ok-clause-written
returns-in-Ok-clause-written c =
    let exact = reading_of-value _ _ _ c.in_ok-value.ensures.value c.in-Ok.ensures in
    λ seq message number proper json. inl (sym exact ∙ reading_of-message_data _ seq message number proper json)

pub returns-in-Err-Bad-clause-reads : goal.returns-in-Err-Bad-clause-reads
returns-in-Err-Bad-clause-reads c =
    let exact = reading_of-value _ _ _ c.in_ok-value.ensures.value (c.in-Err-Bad.ensures c.in-Err-Bad.field-0-is) in
    rw exact at (ReadsAs-reading_of c.args.body.now)

pub returns-in-Err-Bad-clause-written : goal.returns-in-Err-Bad-clause-written
returns-in-Err-Bad-clause-written c =
    let exact = reading_of-value _ _ _ c.in_ok-value.ensures.value (c.in-Err-Bad.ensures c.in-Err-Bad.field-0-is) in
    λ seq message number proper json. inl (sym exact ∙ reading_of-message_data _ seq message number proper json)

pub returns-clause-memory : goal.returns-clause-memory
returns-clause-memory c e = json_of-is_utf8 c.args.body.now _ c.in_ok-value.ensures.value
