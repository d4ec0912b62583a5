use Rattle.std.proofs.Common.{◌≡◌, ◌-◌, ◌*◌, ◌++◌, pos, ◌+ℤ◌}
use Rattle.answers.specs.Disassemble as spec

abbrev pub invariant-loop-index : Rattle.answers.proofs.disassemble.entries_from.Given.invariant-loop-index
invariant-loop-index l =
    l.entries.items ++ spec.entries_from l.memory (l.first +ℤ pos (4 * l.index)) (l.count - l.index)
    ≡ spec.entries_from l.memory l.first l.count
