use Rattle.framing.proofs.Common.{arith}
use Rattle.framing.proofs.Digits.{value_step}
use Rattle.framing.proofs.field.digits_value.Goals as goal

pub overflow_mul-value : goal.overflow_mul-value
overflow_mul-value c =
    omega (
      arith,
      value_step c.args.digits.now c.loop-digit.digit-index c.loop-digit.value c.requires.all_digits c.requires.few
          c.loop-digit-test.true c.loop-digit.invariant,
    )

pub overflow_add-value : goal.overflow_add-value
overflow_add-value c =
    omega (
      arith,
      value_step c.args.digits.now c.loop-digit.digit-index c.loop-digit.value c.requires.all_digits c.requires.few
          c.loop-digit-test.true c.loop-digit.invariant,
      c.from.ensures,
    )

pub loop-digit-preserved : goal.loop-digit-preserved
loop-digit-preserved c =
    omega (
      arith,
      value_step c.args.digits.now c.loop-digit.digit-index c.loop-digit.value c.requires.all_digits c.requires.few
          c.loop-digit-test.true c.loop-digit.invariant,
      c.from.ensures,
    )
