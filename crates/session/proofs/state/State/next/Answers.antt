use Rattle.session.proofs.Common.{sym, ◌∙◌}
use Rattle.session.proofs.Deciding.{marks_there, checks_there, limits_there, free_there, is_ready}
use Rattle.session.proofs.state.State.next.Goals as goal

pub returns-in-Some-mark : goal.returns-in-Some-mark
returns-in-Some-mark c =
    let r = is_ready _ c.args.self.now c.in-Some.program _ _ _ _ c.self.view_is c.in-Some.is c.owed.ensures c.in_default-owed.is
    c.run.ensures c.is_given_time.ensures c.if-not-is_given_time.false c.len.ensures c.if-len-gt-FULL.false in
    rw c.why.ensures
    (marks_there c.args.self.now c.in-Some.program c.in-Some-mark.mark c.args.more r (sym c.mark.ensures ∙ c.in-Some-mark.is))

pub returns-then-is_check_due : goal.returns-then-is_check_due
returns-then-is_check_due c =
    let r = is_ready _ c.args.self.now c.in-Some.program _ _ _ _ c.self.view_is c.in-Some.is c.owed.ensures c.in_default-owed.is
    c.run.ensures c.is_given_time.ensures c.if-not-is_given_time.false c.len.ensures c.if-len-gt-FULL.false in
    checks_there c.args.self.now c.in-Some.program c.args.more r (sym c.mark.ensures ∙ c.in_default-mark.is)
    (sym c.is_check_due.ensures ∙ c.if-is_check_due.true)

pub returns-then-is_at_limit : goal.returns-then-is_at_limit
returns-then-is_at_limit c =
    let r = is_ready _ c.args.self.now c.in-Some.program _ _ _ _ c.self.view_is c.in-Some.is c.owed.ensures c.in_default-owed.is
    c.run.ensures c.is_given_time.ensures c.if-not-is_given_time.false c.len.ensures c.if-len-gt-FULL.false in
    limits_there c.args.self.now c.in-Some.program c.args.more r (sym c.mark.ensures ∙ c.in_default-mark.is)
    (sym c.is_check_due.ensures ∙ c.if-is_check_due.false) c.if-not-more.false (sym c.is_at_limit.ensures ∙ c.if-is_at_limit.true)

pub returns : goal.returns
returns c =
    let r = is_ready _ c.args.self.now c.in-Some.program _ _ _ _ c.self.view_is c.in-Some.is c.owed.ensures c.in_default-owed.is
    c.run.ensures c.is_given_time.ensures c.if-not-is_given_time.false c.len.ensures c.if-len-gt-FULL.false in
    free_there c.args.self.now c.in-Some.program c.args.more r (sym c.mark.ensures ∙ c.in_default-mark.is)
    (sym c.is_check_due.ensures ∙ c.if-is_check_due.false) c.if-not-more.false (sym c.is_at_limit.ensures ∙ c.if-is_at_limit.false)
