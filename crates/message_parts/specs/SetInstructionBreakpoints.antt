-- The body that answers `setInstructionBreakpoints`: what became of each breakpoint, in the order in which they were
-- asked for (DAP specification, `SetInstructionBreakpointsResponse`, `Breakpoint`).
--
-- One that is set has a number, by which a stop names it, and its address. One that is not says for people why.
use Rattle.std.specs.Prelude.{ℕ, List, Option, Some, ◌⊎◌, true, false, codes}
use mathlib.Core.Logic.{inl, inr}
use Rattle.serde_json.specs.Data.{boolean}
use Rattle.message_parts.specs.Addresses.{address}
use Rattle.message_parts.specs.Breakpoints.{is_verified}
use Rattle.message_parts.specs.Forms.{Form, Fields, object_of, none, field, fixed, either, made_of, whole, text, list}
use Rattle.message_parts.specs.declared.set_instruction_breakpoints.InstructionBreakpoint.{InstructionBreakpoint}
use Rattle.message_parts.specs.declared.set_instruction_breakpoints.InstructionBreakpoint.TheVariants.{Verified, Unverified}
use Rattle.message_parts.specs.declared.set_instruction_breakpoints.SetInstructionBreakpoints.{SetInstructionBreakpoints}

-- a breakpoint that is set
abbrev pub verified : Fields (ℕ × (ℕ × Unit {0}))
verified = field (codes "id") whole
    (field (codes "instructionReference") address
    (fixed (codes "verified") (boolean true) none))

-- one that is not
abbrev pub unverified : Fields (List ℕ × Unit {0})
unverified = field (codes "message") text (fixed (codes "verified") (boolean false) none)

abbrev pub parts : InstructionBreakpoint → (ℕ × (ℕ × Unit {0})) ⊎ (List ℕ × Unit {0})
parts (Verified id address) = inl (id, (address, tt))
parts (Unverified message) = inr (message, tt)

abbrev pub made : (ℕ × (ℕ × Unit {0})) ⊎ (List ℕ × Unit {0}) → Option InstructionBreakpoint
made (inl p) = Some (Verified p.0 p.1.0)
made (inr p) = Some (Unverified p.0)

-- what became of a breakpoint
abbrev pub instruction_breakpoint : Form InstructionBreakpoint
instruction_breakpoint = made_of parts made (either is_verified verified unverified)

-- the body
abbrev pub set_instruction_breakpoints : Form SetInstructionBreakpoints
set_instruction_breakpoints = made_of (λ b. (b.breakpoints, tt)) (λ p. Some (record { breakpoints = p.0 }))
    (object_of (field (codes "breakpoints") (list instruction_breakpoint) none))
