use Rattle.statements.proofs.Fields.{more}
use Rattle.statements.proofs.operands.operands_in.Goals as goal

pub returns-then-are_operands-clause-some : goal.returns-then-are_operands-clause-some
returns-then-are_operands-clause-some c =
    more c.args.text.now c.in-Some.text.now c.in-Some-after.text.now c.in-Some-after-2.text.now _ _ _ c.if-is_empty.ensures
    (rw c.in-Some.is at c.in_ok-first.ensures.some)
    (rw c.in-Some-after.is at c.in_ok-second.ensures.some)
    (rw c.in-Some-after-2.is at c.in_ok-third.ensures.some)
