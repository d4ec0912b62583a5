use Rattle.assembler.proofs.Common.{bytes_eq, drop, list_any, start, ◌≡◌}

abbrev pub invariant-loop-name : Rattle.assembler.proofs.layout.has_start.Given.invariant-loop-name
invariant-loop-name l = list_any (λ name. bytes_eq name start) l.names ≡ list_any (λ name. bytes_eq name start) (drop l.name-index l.names)
