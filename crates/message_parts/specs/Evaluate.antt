-- The body that answers `evaluate`: the value of the expression (DAP specification, `EvaluateResponse`). It has no
-- variables of its own, which the reference 0 says.
use Rattle.std.specs.Prelude.{Some, codes}
use Rattle.serde_json.specs.Data.{number, unsigned}
use Rattle.message_parts.specs.Addresses.{address}
use Rattle.message_parts.specs.Forms.{Form, object_of, none, field, fixed, made_of}
use Rattle.message_parts.specs.declared.evaluate.Evaluate.{Evaluate}

abbrev pub evaluate : Form Evaluate
evaluate = made_of (λ b. (b.result, tt)) (λ p. Some (record { result = p.0 }))
    (object_of (field (codes "result") address (fixed (codes "variablesReference") (number (unsigned 0)) none)))
