-- The body that answers `setBreakpoints`: what became of each breakpoint, in the order in which they were asked for
-- (DAP specification, `SetBreakpointsResponse`, `Breakpoint`).
--
-- One that is set has a number, by which a stop names it, the address at which it stops, and the line of that address.
-- One that is not has the line that was asked for, and says for people why.
use Rattle.std.specs.Prelude.{ℕ, List, Option, Some, ◌⊎◌, true, false, codes}
use mathlib.Core.Logic.{inl, inr}
use Rattle.serde_json.specs.Data.{boolean}
use Rattle.message_parts.specs.Addresses.{address}
use Rattle.message_parts.specs.Breakpoints.{is_verified}
use Rattle.message_parts.specs.Forms.{Form, Fields, object_of, none, field, fixed, either, made_of, whole, text, list}
use Rattle.message_parts.specs.declared.set_breakpoints.SourceBreakpoint.{SourceBreakpoint}
use Rattle.message_parts.specs.declared.set_breakpoints.SourceBreakpoint.TheVariants.{Verified, Unverified}
use Rattle.message_parts.specs.declared.set_breakpoints.SetBreakpoints.{SetBreakpoints}

-- a breakpoint that is set
abbrev pub verified : Fields (ℕ × (ℕ × (ℕ × Unit {0})))
verified = field (codes "id") whole
    (field (codes "instructionReference") address
    (field (codes "line") whole
    (fixed (codes "verified") (boolean true) none)))

-- one that is not
abbrev pub unverified : Fields (ℕ × (List ℕ × Unit {0}))
unverified = field (codes "line") whole (field (codes "message") text (fixed (codes "verified") (boolean false) none))

abbrev pub parts : SourceBreakpoint → (ℕ × (ℕ × (ℕ × Unit {0}))) ⊎ (ℕ × (List ℕ × Unit {0}))
parts (Verified id address line) = inl (id, (address, (line, tt)))
parts (Unverified line message) = inr (line, (message, tt))

abbrev pub made : (ℕ × (ℕ × (ℕ × Unit {0}))) ⊎ (ℕ × (List ℕ × Unit {0})) → Option SourceBreakpoint
made (inl p) = Some (Verified p.0 p.1.0 p.1.1.0)
made (inr p) = Some (Unverified p.0 p.1.0)

-- what became of a breakpoint
abbrev pub source_breakpoint : Form SourceBreakpoint
source_breakpoint = made_of parts made (either is_verified verified unverified)

-- the body
abbrev pub set_breakpoints : Form SetBreakpoints
set_breakpoints = made_of (λ b. (b.breakpoints, tt)) (λ p. Some (record { breakpoints = p.0 }))
    (object_of (field (codes "breakpoints") (list source_breakpoint) none))
