use Rattle.scripts.proofs.Common.{ap, arith, digits_value_after, fitting, sym, ◌∙◌}
use Rattle.std.proofs.lemmas.List.{at_drop_all}
use Rattle.scripts.proofs.Digits.{fits, past}
use Rattle.scripts.proofs.number.value.Goals as goal

pub returns-in-None : goal.returns-in-None
returns-in-None c =
    past c.loop-digit.value c.loop-digit.digit-index c.args.digits.now c.loop-digit-test.true c.in-None.ensures
    ∙ ap fitting (sym c.loop-digit.invariant.same)

pub returns : goal.returns
returns c =
    let value = c.loop-digit.value in
    let whole = at_drop_all (digits_value_after 10 value) c.args.digits.now c.loop-digit.digit-index (omega arith) in
    fits value c.loop-digit.invariant.small ∙ ap fitting (sym (c.loop-digit.invariant.same ∙ whole))
