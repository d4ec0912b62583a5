use Rattle.std.proofs.Common.{◌≡◌, ◌++◌, drop, string_bytes}
use Rattle.execution.specs.Registers.{lines_from, registers_text}

abbrev pub invariant-loop-number : Rattle.execution.proofs.registers.registers_text.Given.invariant-loop-number
invariant-loop-number l = string_bytes l.told ++ lines_from l.number (drop l.number l.hart.x) ≡ registers_text l.hart
