use Rattle.variables.proofs.Common.{map, range_with_len, ◌≡◌, ◌≤◌}
use Rattle.variables.specs.Registers.{register}

abbrev pub invariant-loop-number : Rattle.variables.proofs.register.registers.Given.invariant-loop-number
invariant-loop-number l = record {
  listed : l.variables.items ≡ map (register l.hart) (range_with_len 0 l.number);
  within : l.number ≤ 32;
}
