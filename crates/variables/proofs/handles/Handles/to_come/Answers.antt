use Rattle.variables.proofs.Common.{All, ap, arith, has, length, List, subst, sym, Target, true, with_all, ◌+◌, ◌∙◌, ◌≡◌, ◌≤◌}
use Rattle.variables.proofs.Targets.{all_there, with_all-short}
use Rattle.variables.proofs.handles.Handles.to_come.Goals as goal

pub numbers_from-requires-clause-fits : goal.numbers_from-requires-clause-fits
numbers_from-requires-clause-fits c =
    let known = c.deref.result.now in
    let first = c.self.inside.first in
    let kept : first + length c.self.inside.targets.items ≤ c.self.inside.last + 1 = c.self.invariant.1 in
    let last : c.self.inside.last ≤ 2147483647 = c.self.invariant.2 in
    let same : length known ≡ length c.self.inside.targets.items = ap length c.deref.ensures.value in
    let all : length c.deref-2.result.now ≡ length (with_all known c.args.targets.now) = ap length
    (c.deref-2.ensures.value ∙ c.in_ok-all.ensures) in
    let short : length (with_all known c.args.targets.now) ≤ length known + length c.args.targets.now = with_all-short known c.args.targets.now in
    let few = c.requires in
    omega (arith, kept, last, same, all, short, few)

pub numbers_from-requires-clause-known : goal.numbers_from-requires-clause-known
numbers_from-requires-clause-known c =
    subst (λ (all : List Target). All (λ (target : Target). has target all ≡ true) c.args.targets.now)
    (sym (c.deref-2.ensures.value ∙ c.in_ok-all.ensures)) (all_there c.deref.result.now c.args.targets.now)
