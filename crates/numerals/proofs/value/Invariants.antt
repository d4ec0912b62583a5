use Rattle.std.proofs.Common.{◌≡◌, ◌≤◌, drop}
use Rattle.std.specs.Str.Parse.{digits_value, digits_value_after}

abbrev pub invariant-loop-digit : Rattle.numerals.proofs.value.Given.invariant-loop-digit
invariant-loop-digit l = record {
  small : l.value ≤ 4294967295;
  same : digits_value l.radix l.digits ≡ digits_value_after l.radix l.value (drop l.digit-index l.digits);
}
