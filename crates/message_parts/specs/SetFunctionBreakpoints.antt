-- The body that answers `setFunctionBreakpoints`: what became of each breakpoint, in the order in which they were
-- asked for (DAP specification, `SetFunctionBreakpointsResponse`, `Breakpoint`).
--
-- What became of one is told as of a breakpoint at an address: that of the function's first instruction.
use Rattle.std.specs.Prelude.{Some, codes}
use Rattle.message_parts.specs.Forms.{Form, object_of, none, field, made_of, list}
use Rattle.message_parts.specs.SetInstructionBreakpoints.{instruction_breakpoint}
use Rattle.message_parts.specs.declared.set_function_breakpoints.SetFunctionBreakpoints.{SetFunctionBreakpoints}

-- the body
abbrev pub set_function_breakpoints : Form SetFunctionBreakpoints
set_function_breakpoints = made_of (λ b. (b.breakpoints, tt)) (λ p. Some (record { breakpoints = p.0 }))
    (object_of (field (codes "breakpoints") (list instruction_breakpoint) none))
