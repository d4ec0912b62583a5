-- What comes next in a slice.
use Rattle.session.proofs.Common.{arith, beat, Bool, Decides, false, FULL, is_at_limit, is_runnable_by, IsFree, keepings, Kept, length, ltb, Mark, moves, nat_tests, None, Option, Program, Run, Some, Tick, true, why_marked, ℕ, ◌≡◌, ◌≤◌}
use Rattle.debuggee.specs.declared.run.Why.TheVariants as why
use Rattle.session.specs.declared.slices.Next.TheVariants as next

-- where nothing is owed, and the program is given time and room
pub record IsReady (p : Program) (k : Kept) : Type 0 where
  pub program : k.now.debuggee.program ≡ Some p
  pub owed : p.owed ≡ None
  pub runnable : is_runnable_by k.now.link p.run ≡ true
  pub room : ltb FULL (length k.waiting) ≡ false

-- by what the code has found
pub is_ready : (inside k : Kept) (p : Program) (owed : Option Tick) (run : Run) (runs : Bool) (len : ℕ) → inside ≡ k
    → inside.now.debuggee.program ≡ Some p → owed ≡ p.owed → owed ≡ None → run ≡ p.run → runs ≡ is_runnable_by k.now.link run
    → runs ≡ true → len ≡ length inside.waiting → len ≤ 65536 → IsReady p k
is_ready inside k p owed run runs len same is owes none running given on counts few =
    let waits : len ≡ length k.waiting = cc in
    record { program = cc; owed = cc; runnable = cc; room = grind (arith, nat_tests) }

pub marks_there : (k : Kept) (p : Program) (mark : Mark) (more : Bool) → IsReady p k → p.mark ≡ Some mark
    → Decides (next.Stop (why_marked mark)) k more
marks_there k p mark more r e = (p, (r.program, cc))

pub checks_there : (k : Kept) (p : Program) (more : Bool) → IsReady p k → p.mark ≡ None → p.machine.check_due ≡ true
    → Decides next.Check k more
checks_there k p more r e due = (p, (r.program, (cc, (due, r.owed))))

pub limits_there : (k : Kept) (p : Program) (more : Bool) → IsReady p k → p.mark ≡ None → p.machine.check_due ≡ false → more ≡ true
    → is_at_limit k.now p ≡ true → Decides (next.Stop why.Limit) k more
limits_there k p more r e due going full = (p, (r.program, cc))

pub free_there : (k : Kept) (p : Program) (more : Bool) → IsReady p k → p.mark ≡ None → p.machine.check_due ≡ false → more ≡ true
    → is_at_limit k.now p ≡ false → Decides next.Advance k more
free_there k p more r e due going few = (going, (p, assumption))

-- the beat of a program that is free to move
pub free_beat : (p : Program) (k : Kept) → IsFree p (keepings.see k) → beat (keepings.see k) true ≡ moves k.now p
free_beat p k f = cc
