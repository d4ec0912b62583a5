use Rattle.variables.proofs.Common.{All, ap, has, List, map, number_from, Numbers, rules, subst, sym, Target, true, with_all, ◌+◌, ◌∙◌, ◌≡◌, ◌≤◌}
use Rattle.variables.proofs.Standing.{all_issued, no_memory, none_issued}
use Rattle.variables.proofs.Targets.{all_there}
use Rattle.variables.proofs.handles.Handles.issue.Goals as goal

pub returns-then-count_new-left-clause-past : goal.returns-then-count_new-left-clause-past
returns-then-count_new-left-clause-past c =
    none_issued c.args.self.now c.self.inside.last c.next.result c.count_new.result c.deref.result.now c.args.targets.now
    (c.deref.ensures.value ∙ ap (λ (n : Numbers). n.targets) c.self.view_is)
    (ap (λ (n : Numbers). n.last) c.self.view_is) c.next.ensures.kept c.count_new.ensures c.if-count_new-left.true

pub returns-in_err-all-clause-past : goal.returns-in_err-all-clause-past
returns-in_err-all-clause-past c =
    no_memory c.args.self.now c.self.inside.last c.next.result c.count_new.result c.deref.result.now c.args.targets.now c.from_residual.result (c.deref.ensures.value ∙ ap (λ (n : Numbers). n.targets) c.self.view_is) (ap (λ (n : Numbers). n.last) c.self.view_is) c.next.ensures.kept (subst (λ (n : Numbers). c.next.result ≤ n.last + 1) (sym c.self.view_is) c.next.ensures.within) c.count_new.ensures c.if-count_new-left.false (search rules)

pub numbers_from-requires-clause-known : goal.numbers_from-requires-clause-known
numbers_from-requires-clause-known c =
    subst (λ (all : List Target). All (λ (target : Target). has target all ≡ true) c.args.targets.now)
    (sym (c.deref-3.ensures.value ∙ c.in_ok-all.ensures)) (all_there c.deref-2.result.now c.args.targets.now)

pub returns-in_err-numbers-clause-past : goal.returns-in_err-numbers-clause-past
returns-in_err-numbers-clause-past c =
    no_memory c.args.self.now c.self.inside.last c.next.result c.count_new.result c.deref.result.now c.args.targets.now c.from_residual-in_err-numbers.result (c.deref.ensures.value ∙ ap (λ (n : Numbers). n.targets) c.self.view_is) (ap (λ (n : Numbers). n.last) c.self.view_is) c.next.ensures.kept (subst (λ (n : Numbers). c.next.result ≤ n.last + 1) (sym c.self.view_is) c.next.ensures.within) c.count_new.ensures c.if-count_new-left.false (search rules)

pub returns-clause-past : goal.returns-clause-past
returns-clause-past c =
    all_issued c.args.self.now c.self.inside.first c.self.inside.last c.next.result c.count_new.result c.deref.result.now c.args.targets.now c.in_ok-all.all.items c.in_ok-numbers.numbers.items (ap (λ (n : Numbers). n.first) c.self.view_is) (c.deref.ensures.value ∙ ap (λ (n : Numbers). n.targets) c.self.view_is) (ap (λ (n : Numbers). n.last) c.self.view_is) c.next.ensures.kept (subst (λ (n : Numbers). c.next.result ≤ n.last + 1) (sym c.self.view_is) c.next.ensures.within) c.count_new.ensures c.if-count_new-left.false (c.in_ok-all.ensures ∙ ap (λ (l : List Target). with_all l c.args.targets.now) (c.deref-2.ensures.value ∙ sym c.deref.ensures.value)) (c.in_ok-numbers.ensures ∙ ap (λ (l : List Target). map (λ (target : Target). number_from c.self.inside.first target l) c.args.targets.now) c.deref-3.ensures.value)
