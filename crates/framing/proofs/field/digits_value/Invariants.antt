use Rattle.framing.proofs.Common.{digits_value, take, ◌≡◌}

abbrev pub invariant-loop-digit : Rattle.framing.proofs.field.digits_value.Given.invariant-loop-digit
invariant-loop-digit l = l.value ≡ digits_value 10 (take l.digit-index l.digits)
