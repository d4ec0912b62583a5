use Rattle.rv32i.proofs.Common.{bytes_eq, find, name_of, number_named, ◌-◌, ◌≡◌}
use Rattle.std.specs.List.{range_with_len}

abbrev pub invariant-loop-number : Rattle.rv32i.proofs.names.reg_named.Given.invariant-loop-number
invariant-loop-number l = record {
  found : find (λ number. bytes_eq (name_of number) l.name) (range_with_len l.number (32 - l.number)) ≡ number_named l.name;
}
