use Rattle.std.proofs.Common.{◌≡◌, ◌++◌, map, drop}
use Rattle.protocol.specs.SetBreakpoints.{at_line}

-- the breakpoints so far, and then those at the lines that are left
abbrev pub invariant-loop-line : Rattle.protocol.proofs.set_breakpoints.at_lines.Given.invariant-loop-line
invariant-loop-line l = l.breakpoints.items ++ map at_line (drop l.line-index l.lines) ≡ map at_line l.lines
