-- The body that answers `variables`: names and their values (DAP specification, `VariablesResponse`, `Variable`).
--
-- A variable is a register or a word of the stack. It has no variables of its own, which the reference 0 says.
use Rattle.std.specs.Prelude.{Some, codes}
use Rattle.serde_json.specs.Data.{number, unsigned}
use Rattle.message_parts.specs.Addresses.{address}
use Rattle.message_parts.specs.Forms.{Form, object_of, none, field, fixed, made_of, text, list}
use Rattle.message_parts.specs.declared.variables.Variable.{Variable}
use Rattle.message_parts.specs.declared.variables.Variables.{Variables}

-- a variable
abbrev pub variable : Form Variable
variable = made_of (λ v. (v.name, (v.value, tt))) (λ p. Some (record { name = p.0; value = p.1.0 }))
    (object_of (field (codes "name") text
    (field (codes "value") address
    (fixed (codes "variablesReference") (number (unsigned 0)) none))))

-- the body
abbrev pub variables : Form Variables
variables = made_of (λ v. (v.variables, tt)) (λ p. Some (record { variables = p.0 }))
    (object_of (field (codes "variables") (list variable) none))
