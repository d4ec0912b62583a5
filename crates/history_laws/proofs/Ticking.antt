-- What a tick comes to and leaves: how it continues, and, where it goes back, the move that is undone.
use Rattle.history_laws.proofs.Common.{[], ap, arith, back_of, back_outcome, back_tick, Bool, cond, Course, course_of, Debugged, false, Goal, gone_back, Hit, Instr, LeadTo, Leaves, length, List, looked_at, Makes, move_leaves, moved, moved_as, moves_from_oldest, next_tick, Ok, oldest_of, one_tick, OneEarlier, Option, outcome_of, Position, position_of, Program, refl, settled, stays, Stepped, suc, take, the_tick, tick_of, true, turns_back, undone, undone_by, undone_to, ◌∙◌, ◌∷◌, ◌≡◌}

-- an instruction that retires does not trap
goes_on : (hit : Hit) (met : Bool) → stays (outcome_of hit met) ≡ false
goes_on hit met = grind arith

-- what is recorded after a move: that too, where its instruction retires
pub settled_past : (s : Stepped) (instr : Option Instr) (before after : Debugged) → after ≡ settled s instr before (moved_as before after)
    → after.past ≡ cond (stays (tick_of s instr before.hart.pc (moved_as before after)).outcome) before.past (take 65536 (position_of before ∷ before.past))
settled_past Stepped.Retired instr before after e = rw (goes_on _ _) (ap (λ (d : Debugged). d.past) e)
settled_past (Stepped.Printed number) instr before after e = rw (goes_on _ _) (ap (λ (d : Debugged). d.past) e)
settled_past s instr before after e = ap (λ (d : Debugged). d.past) e

-- that breakpoints are looked at moves nothing
pub looked_course : (g : Goal) (d : Debugged) → course_of (looked_at g d) ≡ course_of d
looked_course g d = grind arith

-- where the program goes back: what its tick comes to, and what it leaves
pub record Undoes (p : Program) : Type 0 where
  pub tick : next_tick p ≡ back_tick p.machine
  pub after : (moved p).machine ≡ looked_at p.machine.goal (undone p.machine)
  pub goes : stays (next_tick p).outcome ≡ false
  pub course : course_of (moved p).machine ≡ gone_back (course_of p.machine)
  pub leaves : Leaves p.machine (moved p).machine

back_goes : (g : Goal) (d : Debugged) → stays (back_outcome g d) ≡ false
back_goes g d = grind arith

undone_course : (past : List Position) (d : Debugged) → d.past ≡ past → course_of (undone_by past d) ≡ undone_to past (course_of d)
undone_course past d e = grind arith

pub undoes : (p : Program) → turns_back p.machine.goal ≡ true → p.machine.check_due ≡ false → Undoes p
undoes p turns due =
    let x = back_of p.machine (moved p).machine (Ok (next_tick p)) due turns (the_tick p.machine).is in
    let tick : next_tick p ≡ back_tick p.machine = one_tick (next_tick p) (back_tick p.machine) x.0 in
    let goes : stays (next_tick p).outcome ≡ false = rw tick (back_goes p.machine.goal (undone p.machine)) in
    let course = ap course_of x.1 ∙ looked_course p.machine.goal (undone p.machine) ∙ undone_course p.machine.past p.machine refl in
    record { tick = tick; after = x.1; goes = goes; course = course; leaves = move_leaves p due goes }

pub one_earlier : OneEarlier
one_earlier from n h long = by from.past from.now h long where
  by : (past : List Position) (now : Position) → LeadTo past now → length past ≡ suc n
      → (let c : Course = undone_to past (record { now = now; past = past }) in Makes n (oldest_of past now) c.now × (length c.past ≡ n))
  by [] now h e = absurd (omega (arith, e))
  by (before ∷ past) now h e =
      let same : length past ≡ n = omega (arith, e) in
      (rw same at (moves_from_oldest (record { now = before; past = past }) h.1), same)
