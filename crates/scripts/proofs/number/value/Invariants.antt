use Rattle.scripts.proofs.Common.{digits_value, digits_value_after, drop, ◌<◌, ◌^◌, ◌≡◌}

abbrev pub invariant-loop-digit : Rattle.scripts.proofs.number.value.Given.invariant-loop-digit
invariant-loop-digit l = record {
  small : l.value < 2 ^ 64;
  same : digits_value 10 l.digits ≡ digits_value_after 10 l.value (drop l.digit-index l.digits);
}
