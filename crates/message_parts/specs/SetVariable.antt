-- The body that answers `setVariable`: the value that the variable has now (DAP specification, `SetVariableResponse`).
use Rattle.std.specs.Prelude.{Some, codes}
use Rattle.message_parts.specs.Addresses.{address}
use Rattle.message_parts.specs.Forms.{Form, object_of, none, field, made_of}
use Rattle.message_parts.specs.declared.set_variable.SetVariable.{SetVariable}

abbrev pub set_variable : Form SetVariable
set_variable = made_of (λ b. (b.value, tt)) (λ p. Some (record { value = p.0 }))
    (object_of (field (codes "value") address none))
