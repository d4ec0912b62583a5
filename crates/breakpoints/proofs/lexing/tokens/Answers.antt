use Rattle.breakpoints.proofs.Common.{arith, drop, get_or, is_blank, length, subst, sym, take, Takes, ◌-◌, ◌∙◌}
use Rattle.breakpoints.proofs.Scanned.{at_end, ended_at, ends, failed_at, fails_at_end, kept_at, next_within}
use Rattle.breakpoints.proofs.lexing.tokens.Goals as goal
use Rattle.breakpoints.proofs.lexing.tokens.Goals.{then-not-is_lexeme+in_ok-take+else-not-branch, else-not-is_lexeme}

pub returns-then-not-branch : goal.returns-then-not-branch
returns-then-not-branch c =
    let taken = subst (λ t. Takes
    (take (c.loop-end.end - c.loop-end.start)
    (drop c.loop-end.start c.args.text.now)) c.loop-end.tokens.items c.take.new.tokens.items t) c.if-not-branch.true c.in_ok-take.ensures in
    failed_at _ _ _ _ _ c.loop-end.invariant.from c.loop-end-test.true
    (sym c.is_lexeme.ensures ∙ c.if-not-is_lexeme.true) c.loop-end.invariant.so_far taken

pub loop-end-preserved : goal.loop-end-preserved
loop-end-preserved c =
    let text = c.args.text.now in
    let s = c.loop-end.start in
    let i = c.loop-end.end in
    elim c.if-not-is_lexeme.branch [
      | then-not-is_lexeme+in_ok-take+else-not-branch w ↦
          let taken = subst (λ t. Takes
          (take (i - s) (drop s text)) c.loop-end.tokens.items w.take.new.tokens.items t) w.if-not-branch.false w.in_ok-take.ensures in
          let next = w.next_start-start.ensures in
          let so = ended_at text _ _ s i _ c.loop-end.invariant.from c.loop-end-test.true
          (sym c.is_lexeme.ensures ∙ w.if-not-is_lexeme.true) c.loop-end.invariant.so_far taken next in
          rw w.tokens-is (rw w.start-is (record { from = next_within i _ (is_blank (get_or text i 0)) next; so_far = so }))
      | else-not-is_lexeme w ↦
          let from = c.loop-end.invariant.from in
          let so = kept_at text _ s i from c.loop-end-test.true
          (sym c.is_lexeme.ensures ∙ w.if-not-is_lexeme.false) c.loop-end.invariant.so_far in
          rw w.tokens-is (rw w.start-is (record { from = omega (arith, from); so_far = so }))
    ]

pub returns-then-branch : goal.returns-then-branch
returns-then-branch c =
    let text = c.args.text.now in
    let s = c.loop-end.start in
    let so = at_end text c.loop-end.tokens.items s c.loop-end.end c.loop-end.auto.end-end c.loop-end-test.false c.loop-end.invariant.so_far in
    let taken = subst (λ t. Takes
    (take (length text - s) (drop s text)) c.loop-end.tokens.items c.take-2.new.tokens.items t) c.if-branch.true c.in_ok-take-2.ensures in
    ends text _ _ _ so taken

pub returns-else-branch : goal.returns-else-branch
returns-else-branch c =
    let text = c.args.text.now in
    let s = c.loop-end.start in
    let so = at_end text c.loop-end.tokens.items s c.loop-end.end c.loop-end.auto.end-end c.loop-end-test.false c.loop-end.invariant.so_far in
    let taken = subst (λ t. Takes
    (take (length text - s) (drop s text)) c.loop-end.tokens.items c.take-2.new.tokens.items t) c.if-branch.false c.in_ok-take-2.ensures in
    fails_at_end text _ _ _ so taken
