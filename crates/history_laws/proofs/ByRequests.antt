-- Back and forth by requests.
use Rattle.history_laws.proofs.Common.{[], ap, arith, at_address, Back, back, Backward, Beginning, Course, course_of, Debugged, decoded, false, Forward, gone_back, Happened, In, Instr, IsStep, IsWhereItWas, LeadTo, leaves, led_append, led_to, length, length-append, List, machine_of, MakesAgain, move_leaves, move_of, moved, moved_as, moved_on, moves_equal, moves_from_oldest, MovesTo, next_tick, None, OfProgram, Ok, one_fetched, one_tick, Option, Position, position_of, PrintsAgain, Program, program_of, Reached, Reason, refl, resumed, Retired, retired_after, retired_by, retired_of, Session, Some, start, stays, Stepped, Steps, Stopped, subst, suc, sym, take, take_all, the_tick, ThereAndBack, Tick, tick_of, true, undone_to, Went, word_at, zero, ℕ, ◌++◌, ◌+◌, ◌-◌, ◌∙◌, ◌∷◌, ◌≡◌, ◌≢◌, ◌≤◌}
use Rattle.history_laws.proofs.Again.{answers_equal, Comes, is_made}
use Rattle.history_laws.proofs.OneStep.{IsMoved, Starts, State, state_of, step_back_some, step_leaves}
use Rattle.history_laws.proofs.Recorded.{every_past_is_a_run}
use Rattle.history_laws.proofs.Ticking.{settled_past, undoes}
use Rattle.session_laws.proofs.Retiring.{is_fetched, last_off, past_is_remembered}
use Rattle.stepping.specs.Past.{RemembersPast, RetiredAt}
use Rattle.stepping.specs.Stopping.{has_retired}
use Rattle.stepping.specs.declared.goal.Granularity.TheVariants.{Instruction as Single}

-- ---- where a machine may be

-- its past leads there, and what has retired in it is known as far as that
record Good (t : State) : Type 0 where
  leads : LeadTo t.course.past t.course.now
  few : length t.course.past ≤ 65536
  count : length t.retired ≡ t.count
  past : RemembersPast t.course.past t.retired

-- the instruction at a position
abbrev at_position : Position → List Retired
at_position b = at_address b.hart.pc (decoded (word_at b.memory b.hart.pc))

-- one move leads from there to here
record Before (t u : State) : Type 0 where
  move : MovesTo t.course.now u.course.now
  past : u.course.past ≡ t.course.now ∷ t.course.past
  count : u.count ≡ t.count + 1
  retired : u.retired ≡ t.retired ++ at_position t.course.now

-- and this many, all recorded
abbrev Far : ℕ → State → State → Type 0
Far zero end t = Good t × (t ≡ end)
Far (suc n) end t = Good t × ((u : State) × (Before t u × Far n end u))

good_far : (n : ℕ) (end t : State) → Far n end t → Good t
good_far zero end t h = h.0
good_far (suc n) end t h = h.0

far_back : (n : ℕ) (end t : State) → Far n end t → t.course ≡ back n end.course
far_back zero end t h = ap (λ (x : State). x.course) h.1
far_back (suc n) end t h =
    let u = h.1.0 in
    sym (ap (λ (l : List Position). undone_to l u.course) h.1.1.0.past) ∙ ap gone_back (far_back n end u h.1.1.1)

-- ---- a step back

abbrev back_from : Program → Program
back_from p = resumed Back p

back_starts : (p : Program) → Starts (back_from p)
back_starts p =
    let u = undoes (back_from p) refl refl in record {
      due = refl;
      goes = u.goes;
      tells = λ e. (let no : Stopped Reason.Goal ≡ Went = sym (ap (λ (t : Tick). t.outcome) u.tick) ∙ e in cc);
    }

-- the last that retired is the one at the position before
last_is : (b : Position) (last : Retired) → RetiredAt b last → last ∷ [] ≡ at_position b
last_is b last h =
    let m = machine_of b.hart b.memory in
    ap (λ (pc : ℕ). at_address pc (Some last.instr)) h.0
    ∙ ap (at_address b.hart.pc) (one_fetched m (Some last.instr) (decoded (word_at m.memory m.pc)) h.1 (is_fetched m))

module _ (p : Program) (retired : List Retired) where
  abbrev after_back : State
  after_back = state_of (moved (back_from p)).machine (moved_on (back_from p).machine retired)

  undone_state : (b : Position) (past : List Position) (before : List Retired) (last : Retired) → p.machine.past ≡ b ∷ past
      → retired ≡ before ++ last ∷ []
      → after_back ≡ record { course = record { now = b; past = past }; count = p.machine.retired - 1; retired = before }
  undone_state b past before last e is = rw ((undoes (back_from p) refl refl).after, e, is, last_off before last)

  back_one : Good (state_of p.machine retired) → 1 ≤ length p.machine.past
      → Before after_back (state_of p.machine retired) × Good after_back
  back_one good some = by p.machine.past refl some good.leads good.few good.past where
    by : (past : List Position) → p.machine.past ≡ past → 1 ≤ length past → LeadTo past (position_of p.machine)
        → length past ≤ 65536 → RemembersPast past retired → Before after_back (state_of p.machine retired) × Good after_back
    by [] e some leads few known = absurd (omega (arith, some))
    by (b ∷ past) e some leads few known =
        let long : length retired ≡ length known.0 + 1 = ap length known.2.0 ∙ length-append known.0 (known.1 ∷ []) in
        let count = good.count in
        let retires = known.2.0 ∙ ap (λ (l : List Retired). known.0 ++ l) (last_is b known.1 known.2.3) in
        rw (undone_state b past known.0 known.1 e known.2.0) (
          record { move = leads.0; past = e; count = omega (arith, long, count); retired = retires },
          record { leads = leads.1; few = omega (arith, few); count = omega (arith, long, count); past = known.2.2 },
        )

-- ---- a step forth

abbrev forth_from : Program → Program
forth_from p = resumed (In Single) p

-- an instruction that retires does not trap, and where it meets its goal, the program does not continue
retired_halts : (s : Stepped) (instr : Option Instr) (pc : ℕ) (d : Debugged) → has_retired s ≡ true → d.goal ≡ In Single
    → (stays (tick_of s instr pc d).outcome ≡ false) × ((tick_of s instr pc d).outcome ≢ Went)
retired_halts s instr pc d h goal = (grind arith, λ e. grind arith)

-- where its position makes a move, that is made and recorded, and there is something to tell of it
record GoesForth (p : Program) : Type 0 where
  starts : Starts (forth_from p)
  past : (moved (forth_from p)).machine.past ≡ take 65536 (position_of p.machine ∷ p.machine.past)

goes_forth : (p : Program) (next : Position) → MovesTo (position_of p.machine) next → GoesForth p
goes_forth p next move =
    let before = (forth_from p).machine in
    let after = (moved (forth_from p)).machine in
    let m = move_of before after (Ok (next_tick (forth_from p))) refl refl (the_tick before).is in
    let answer = answers_equal (position_of before) next (position_of after) m.stepped move m.moved in
    let tick = retired_halts m.stepped m.instr before.hart.pc (moved_as before after) (sym (ap has_retired answer) ∙ move.retires) refl in
    let same : next_tick (forth_from p) ≡ tick_of m.stepped m.instr before.hart.pc (moved_as before after) = one_tick _ _ m.settles.0 in
    record {
      starts = record { due = refl; goes = rw same tick.0; tells = rw same tick.1 };
      past = rw tick.0 at (settled_past m.stepped m.instr before after m.settles.1);
    }

-- what the hart answers
forth_made : (p : Program) (retired : List Retired) (next : Position) → Good (state_of p.machine retired)
    → MovesTo (position_of p.machine) next → Comes (forth_from p).machine (moved (forth_from p)).machine (next_tick (forth_from p))
forth_made p retired next good move =
    is_made (forth_from p)
    (record { leads = good.leads; makes = moves_from_oldest (course_of p.machine) good.leads; few = good.few }) refl refl
    (goes_forth p next move).starts.goes

forth_one : (p : Program) (retired : List Retired) (u : State) → Good (state_of p.machine retired)
    → Before (state_of p.machine retired) u → Good u
    → state_of (moved (forth_from p)).machine (moved_on (forth_from p).machine retired) ≡ u
forth_one p retired u good before then =
    let a = goes_forth p u.course.now before.move in
    let made = forth_made p retired u.course.now good before.move in
    let now = moves_equal (position_of p.machine) (position_of (moved (forth_from p)).machine) u.course.now made.1.0.0 before.move in
    let past = a.past ∙ ap (take 65536) (sym before.past) ∙ take_all 65536 u.course.past then.few in
    let count = (move_leaves (forth_from p) refl a.starts.goes).retired refl ∙ sym before.count in
    λ j. record { course = record { now = now j; past = past j }; count = count j; retired = sym before.retired j }

-- ---- steps

-- this many steps forth lead to the end
abbrev Stands : ℕ → State → List Retired → Option Program → Type 0
Stands n end now program = OfProgram (λ p. Far n end (state_of p.machine now)) program

of_each : (P Q : Program → Type 0) → ((q : Program) → P q → Q q) → (program : Option Program) → OfProgram P program
    → OfProgram Q program
of_each P Q so None h = absurd h
of_each P Q so (Some q) h = so q h

-- what holds after events
abbrev After : List Happened → Session → List Retired → (List Retired → Option Program → Type 0) → Type 0
After happened s retired P = P (retired_after happened s retired) (program_of (led_to happened s))

step_back : (n : ℕ) (end : State) (s : Session) (happened : List Happened) (retired : List Retired) (program : Option Program)
    → program_of s ≡ program → IsStep Backward s happened → Stands n end retired program
    → After happened s retired (Stands (suc n) end)
step_back n end s happened retired None is x h = absurd h
step_back n end s happened retired (Some p) is x h =
    let one = back_one p retired (good_far n end (state_of p.machine retired) h) (step_back_some s happened p is x) in
    let now : List Retired = retired_after happened s retired in
    of_each (IsMoved (back_from p) retired now) (λ q. Far (suc n) end (state_of q.machine now))
    (λ q e. rw e (one.1, (state_of p.machine retired, (one.0, h)))) (program_of (led_to happened s))
    (step_leaves Backward s happened p retired is x (back_starts p))

step_forth : (n : ℕ) (end : State) (s : Session) (happened : List Happened) (retired : List Retired) (program : Option Program)
    → program_of s ≡ program → IsStep Forward s happened → Stands (suc n) end retired program
    → After happened s retired (Stands n end)
step_forth n end s happened retired None is x h = absurd h
step_forth n end s happened retired (Some p) is x h =
    let u = h.1.0 in
    let one = forth_one p retired u h.0 h.1.1.0 (good_far n end u h.1.1.1) in
    let now : List Retired = retired_after happened s retired in
    of_each (IsMoved (forth_from p) retired now) (λ q. Far n end (state_of q.machine now))
    (λ q e. subst (Far n end) (sym (e ∙ one)) h.1.1.1) (program_of (led_to happened s))
    (step_leaves Forward s happened p retired is x (goes_forth p u.course.now h.1.1.0.move).starts)

-- what holds after some, and then others, holds after all
joined : (P : List Retired → Session → Type 0) (xs ys : List Happened) (s : Session) (retired : List Retired)
    → P (retired_after ys (led_to xs s) (retired_after xs s retired)) (led_to ys (led_to xs s))
    → P (retired_after (xs ++ ys) s retired) (led_to (xs ++ ys) s)
joined P [] ys s retired h = h
joined P (x ∷ xs) ys s retired h = joined P xs ys (leaves s x) (retired_by s x retired) h

steps_back : (k n m : ℕ) (end : State) (s : Session) (happened : List Happened) (retired : List Retired) → m ≡ k + n
    → Steps Backward k s happened → Stands n end retired (program_of s) → After happened s retired (Stands m end)
steps_back zero n m end s happened retired sum are h = let same : m ≡ n = omega (arith, sum) in rw (are, same) h
steps_back (suc k) n m end s happened retired sum are h =
    rw are.2.0 (joined (λ l t. Stands m end l (program_of t)) are.0 are.1 s retired
    (steps_back k (suc n) m end (led_to are.0 s) are.1 (retired_after are.0 s retired) (omega (arith, sum)) are.2.1.1
    (step_back n end s are.0 retired (program_of s) refl are.2.1.0 h)))

steps_forth : (k n m : ℕ) (end : State) (s : Session) (happened : List Happened) (retired : List Retired) → m ≡ k + n
    → Steps Forward k s happened → Stands m end retired (program_of s) → After happened s retired (Stands n end)
steps_forth zero n m end s happened retired sum are h = let same : n ≡ m = omega (arith, sum) in rw (are, same) h
steps_forth (suc k) n m end s happened retired sum are h =
    let same : m ≡ suc (k + n) = omega (arith, sum) in
    rw are.2.0 (joined (λ l t. Stands n end l (program_of t)) are.0 are.1 s retired
    (steps_forth k n (k + n) end (led_to are.0 s) are.1 (retired_after are.0 s retired) refl are.2.1.1
    (step_forth (k + n) end s are.0 retired (program_of s) refl are.2.1.0 (rw same at h))))

-- ---- the laws

reached_good : (from : Beginning) (before : List Happened) (p : Program) → (Reached from before).now.debuggee.program ≡ Some p
    → Good (state_of p.machine (retired_of from before))
reached_good from before p is =
    let run = rw is at (every_past_is_a_run from before) in
    let known = rw is at (past_is_remembered from before) in
    record { leads = run.leads; few = run.few; count = known.count; past = known.past }

-- of n + k steps back k are made forth again
returns : (from : Beginning) (before there again : List Happened) (k n m : ℕ) (p : Program)
    → (Reached from before).now.debuggee.program ≡ Some p → m ≡ k + n
    → Steps Backward m (Reached from before) there → Steps Forward k (Reached from (before ++ there)) again
    → Stands n (state_of p.machine (retired_of from before)) (retired_of from (before ++ there ++ again))
    (program_of (Reached from (before ++ there ++ again)))
returns from before there again k n m p is sum backs forths =
    let s = Reached from before in
    let retired = retired_of from before in
    let end = state_of p.machine retired in
    let begins = subst (Stands 0 end retired) (sym is) (reached_good from before p is, refl) in
    joined (λ l t. Stands n end l (program_of t)) (before ++ there) again (start from) []
    (joined (λ l t. After again t l (Stands n end)) before there (start from) []
    (steps_forth k n m end (led_to there s) again (retired_after there s retired) sum
    (subst (λ (t : Session). Steps Forward k t again) (led_append before there (start from)) forths)
    (steps_back m 0 m end s there retired (omega arith) backs begins)))

where_it_was : (p : Program) (retired now : List Retired) (program : Option Program)
    → Stands 0 (state_of p.machine retired) now program → OfProgram (IsWhereItWas p) program × (now ≡ retired)
where_it_was p retired now None h = absurd h
where_it_was p retired now (Some q) h = (
  (ap (λ (t : State). t.course) h.1, ap (λ (t : State). t.count) h.1),
  ap (λ (t : State). t.retired) h.1,
)

pub there_and_back : ThereAndBack
there_and_back from before there again k p is backs forths =
    where_it_was p (retired_of from before) (retired_of from (before ++ there ++ again))
    (program_of (Reached from (before ++ there ++ again)))
    (returns from before there again k 0 k p is (omega arith) backs forths)

makes_again : (j : ℕ) (end : State) (now : List Retired) (q : Program) → Far (suc j) end (state_of q.machine now)
    → MakesAgain (back (suc j) end.course).now (back j end.course).now q
makes_again j end now q h =
    let u = h.1.0 in
    let made = forth_made q now u.course.now h.0 h.1.1.0.move in
    let here = ap (λ (c : Course). c.now) (far_back (suc j) end (state_of q.machine now) h) in
    let next = ap (λ (t : State). t.course.now) (forth_one q now u h.0 h.1.1.0 (good_far j end u h.1.1.1))
    ∙ ap (λ (c : Course). c.now) (far_back j end u h.1.1.1) in
    (made.0, (rw (← here, ← next) made.1.0, made.1.1))

pub prints_again : PrintsAgain
prints_again from before there again k j p is backs forths =
    let end : State = state_of p.machine (retired_of from before) in
    let now : List Retired = retired_of from (before ++ there ++ again) in
    of_each (λ q. Far (suc j) end (state_of q.machine now)) (MakesAgain (back (suc j) end.course).now (back j end.course).now)
    (λ q. makes_again j end now q) (program_of (Reached from (before ++ there ++ again)))
    (returns from before there again k (suc j) (k + suc j) p is refl backs forths)
