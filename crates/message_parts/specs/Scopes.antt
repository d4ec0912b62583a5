-- The body that answers `scopes`: the groups of variables of a frame (DAP specification, `ScopesResponse`, `Scope`).
--
-- There are two: the registers of the hart, and the words of the stack. Each has a number by which a request names it.
-- Neither is expensive to show. An editor may know the registers by their hint (`Scope.presentationHint`).
use Rattle.std.specs.Prelude.{ℕ, Option, Some, Bool, ◌⊎◌, false, codes, bytes_eq, option_map}
use mathlib.Core.Logic.{inl, inr}
use Rattle.serde_json.specs.Data.{Data, boolean, string}
use Rattle.serde_json.specs.Find.{get, as_str}
use Rattle.protocol.specs.Properties.{◌>>=◌}
use Rattle.message_parts.specs.Forms.{Form, Fields, object_of, none, field, fixed, either, made_of, whole, list}
use Rattle.message_parts.specs.declared.scopes.Scope.{Scope}
use Rattle.message_parts.specs.declared.scopes.Scope.TheVariants.{Registers, Stack}
use Rattle.message_parts.specs.declared.scopes.Scopes.{Scopes}

-- the registers
abbrev pub registers : Fields (ℕ × Unit {0})
registers = fixed (codes "expensive") (boolean false)
    (fixed (codes "name") (string (codes "Registers"))
    (fixed (codes "presentationHint") (string (codes "registers"))
    (field (codes "variablesReference") whole none)))

-- the words of the stack
abbrev pub stack : Fields (ℕ × Unit {0})
stack = fixed (codes "expensive") (boolean false)
    (fixed (codes "name") (string (codes "Stack"))
    (field (codes "variablesReference") whole none))

abbrev pub are_registers : Data → Option Bool
are_registers value = option_map (λ name. bytes_eq name (codes "Registers")) (get (codes "name") value >>= as_str)

abbrev pub parts : Scope → (ℕ × Unit {0}) ⊎ (ℕ × Unit {0})
parts (Registers reference) = inl (reference, tt)
parts (Stack reference) = inr (reference, tt)

abbrev pub made : (ℕ × Unit {0}) ⊎ (ℕ × Unit {0}) → Option Scope
made (inl p) = Some (Registers p.0)
made (inr p) = Some (Stack p.0)

-- a group
abbrev pub scope : Form Scope
scope = made_of parts made (either are_registers registers stack)

-- the body
abbrev pub scopes : Form Scopes
scopes = made_of (λ s. (s.scopes, tt)) (λ p. Some (record { scopes = p.0 }))
    (object_of (field (codes "scopes") (list scope) none))
