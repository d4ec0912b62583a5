use Rattle.std.proofs.Common.{◌≡◌, ◌+◌, ◌*◌, ◌<◌, drop, slice_index_or, sym, arith}
use Rattle.std.specs.Char.{digit_value}
use Rattle.std.specs.Str.Parse.{digits_value, digits_value_after}
use Rattle.numerals.proofs.Values.{value_past, too_large}

pub returns-then-value-from : Rattle.numerals.proofs.value.Goals.returns-then-value-from
returns-then-value-from c =
    let v = c.loop-digit.value in
    let ds = c.args.digits.now in
    let i = c.loop-digit.digit-index in
    let past = value_past c.args.radix v i ds (omega (arith, c.requires.low)) c.loop-digit-test.true in
    let same : digits_value c.args.radix ds ≡ digits_value_after c.args.radix v (drop i ds) = c.loop-digit.invariant.same in
    let d : c.digit_value.result ≡ digit_value (slice_index_or ds i 0) = c.digit_value.ensures.value in
    let r : c.from.result ≡ c.args.radix = c.from.ensures in
    let above : c.from-in-loop-digit-2.result < v * c.args.radix + digit_value (slice_index_or ds i 0) = rw (sym r)
    (rw (sym d) (rw (sym c.from-in-loop-digit.ensures) c.if-value-from.true)) in
    sym (too_large _ (omega (arith, above, c.from-in-loop-digit-2.ensures, same, past)))
