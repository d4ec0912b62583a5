-- What the library says of a read is what the body is as JSON.
use Rattle.std.proofs.Common.{Err, subst, sym, ap, ◌∙◌}
use Rattle.serde_json.specs.Read.{read}
use Rattle.protocol.specs.declared.request.MessageError.{MessageError}
use Rattle.protocol.specs.Json.{GivesValue, json_of}
use Rattle.protocol.proofs.JsonTexts.{gives_fault, json_of-text, json_of-unread}
use Rattle.protocol.proofs.json.json_value.Goals as goal

pub returns-in_default-clause-value : goal.returns-in_default-clause-value
returns-in_default-clause-value c = json_of-unread c.args.body.now (λ is. absurd (c.in_default.ensures.cases.0 is))

pub returns-in-Ok-from_str-clause-value : goal.returns-in-Ok-from_str-clause-value
returns-in-Ok-from_str-clause-value c =
    let text = c.in-Ok.ensures.cases in
    json_of-text c.args.body.now text.1 ∙ ap read (sym text.0) ∙ c.in-Ok-from_str.ensures.ok

pub returns-in-Err-clause-value : goal.returns-in-Err-clause-value
returns-in-Err-clause-value c =
    let text = c.in-Ok.ensures.cases in
    subst (λ (e : MessageError). GivesValue (Err e) (json_of c.args.body.now)) (sym c.fault_of.ensures)
    (gives_fault c.classify.result (json_of c.args.body.now)
    (λ other. json_of-unread c.args.body.now
    (λ is. ap read (sym text.0) ∙ c.in-Err.ensures.err (λ memory. other (c.classify.ensures.memory.1 memory)))))
