-- What holds over many checks.
use Rattle.std.specs.Prelude.{◌≡◌, ℕ, ◌+◌, ◌≤◌, Bool, nat_le, ◌&&◌, not, is_some, if◌then◌else◌, List, [], ◌∷◌}
use Rattle.rv32i.specs.declared.hart.Hart.{Hart}
use Rattle.breakpoints.specs.Stops.{counted, fresh, is_hit, logs, Placed, reset, stops, Wanted}

-- what a check looks at
pub record Check : Type 0 where
  pub pc : ℕ
  pub hart : Hart
  pub memory : List ℕ

-- a breakpoint after some checks, the first of them first
abbrev pub after_checks : List Check → Placed → Placed
after_checks [] b = b
after_checks (c ∷ checks) b = after_checks checks (counted c.pc c.hart c.memory b)

-- at how many of some checks it is hit
abbrev pub hits_among : List Check → Placed → ℕ
hits_among [] b = 0
hits_among (c ∷ checks) b = (if is_hit c.pc c.hart c.memory b then 1 else 0) + hits_among checks b

-- it is hit at a check, and with this hit it was hit as often as it was set to
abbrev pub is_reached_at : Placed → List Check → Check → Bool
is_reached_at b checks last =
    is_hit last.pc last.hart last.memory b && nat_le b.hit (hits_among checks b + 1)

-- A breakpoint that was set and then checked stops at a check exactly where it is hit there, and with this hit it was
-- hit as often as it was set to; a logpoint never does.
abbrev pub StopsFromItsHit : Type 0
StopsFromItsHit = (spec : Wanted) (checks : List Check) (last : Check) → spec.hit ≤ 4294967295 →
    stops last.pc last.hart last.memory (after_checks checks (fresh spec)) ≡
    (is_reached_at (fresh spec) checks last && not (is_some spec.log))

-- A logpoint says its text exactly where another breakpoint would stop.
abbrev pub LogsFromItsHit : Type 0
LogsFromItsHit = (spec : Wanted) (checks : List Check) (last : Check) → spec.hit ≤ 4294967295 →
    logs last.pc last.hart last.memory (after_checks checks (fresh spec)) ≡
    (is_reached_at (fresh spec) checks last && is_some spec.log)

-- One whose hits were taken away, however often it was hit, counts anew.
abbrev pub ResetCountsAnew : Type 0
ResetCountsAnew = (b : Placed) (checks : List Check) (last : Check) → b.hit ≤ 4294967295 →
    stops last.pc last.hart last.memory (after_checks checks (reset b)) ≡
    (is_reached_at (reset b) checks last && not (is_some b.log))
