-- What a step by a request leaves: the machine after one tick, where a reason of the machine stopped the program.
use Rattle.history_laws.proofs.Common.{[], after_answer, and_next, and_retired, answer_to, answered, answering_debuggee, ap, AreQuiet, arith, Ask, asks_to_load, AsksFor, Backward, beats, Bool, by_turn, ByBeat, concluded, Course, course_of, Cut, Debugged, Debuggee, Direction, Effect, Ended, enough, Event, false, goal_by, halts_program, Happened, HasMet, histories, inl, inr, is_running, IsQuiet, IsStep, leaves, LeavesProgram, led_to, length, List, Mark, marked, marked_by, moved, moved_on, next_tick, None, OfProgram, on_program, Option, Outcome, owing_by, performed, Program, program_of, Reason, refl, resumed, Retired, retired_after, retired_by, retired_in, Run, Session, Slice, sliced, Some, start, stays, Stopped, StopsFor, subst, sym, telling, telling_program, the_tick, Tick, told, true, Turn, Went, Whole, Why, ℕ, ℤ, ◌∙◌, ◌∷◌, ◌≡◌, ◌≢◌, ◌≤◌}
use Rattle.history_laws.proofs.Beating.{on_event, slice_keeps, StandsOrGoes}
use Rattle.history_laws.proofs.GoingBack.{GivesGoal, owes_none, Resumes, turn_resumes}

-- ---- where a machine is

-- with its past, how many instructions have retired in it, and which
pub record State : Type 0 where
  pub course : Course
  pub count : ℕ
  pub retired : List Retired

abbrev pub state_of : Debugged → List Retired → State
state_of d retired = record { course = course_of d; count = d.retired; retired = retired }

-- ---- the turn that begins a step

asks_so : (d : Direction) (ask : Ask) → AsksFor d ask → GivesGoal (goal_by d) ask × (asks_to_load ask ≡ false)
asks_so d ask asks = grind arith

turn_begins : (d : Direction) (p : Program) (s : Session) (happened : List Happened) → program_of s ≡ Some p → (x : IsStep d s happened)
    → Resumes (goal_by d) (Some p) (program_of (Effect s (Turn x.file)))
turn_begins d p s happened is x =
    subst (λ (program : Option Program). Resumes (goal_by d) program (program_of (Effect s (Turn x.file)))) is
    ((rw x.answers at (turn_resumes s x.file (goal_by d))) (asks_so d x.request.request.ask x.asks).0 x.success)

-- ---- the step

-- no check is due, its next move is made, and there is something to tell of that
pub record Starts (p : Program) : Type 0 where
  pub due : p.machine.check_due ≡ false
  pub goes : stays (next_tick p).outcome ≡ false
  pub tells : (next_tick p).outcome ≢ Went

-- the machine is the one after the move, and what has retired is what has then
abbrev pub IsMoved : Program → List Retired → List Retired → Program → Type 0
IsMoved start retired now p = state_of p.machine now ≡ state_of (moved start).machine (moved_on start.machine retired)

-- its move is not made yet; or it is made, and to be told
abbrev IsOnTheWay : Program → List Retired → List Retired → Program → Option Tick → Type 0
IsOnTheWay start retired now p None = (p.machine ≡ start.machine) × (now ≡ retired)
IsOnTheWay start retired now p (Some tick) = (tick ≡ next_tick start) × IsMoved start retired now p

record Goes (start : Program) (retired now : List Retired) (p : Program) : Type 0 where
  runs : p.run ≡ Run.Running
  way : IsOnTheWay start retired now p p.owed

-- it stands still, and where its machine stopped it, the move is made
record Rests (start : Program) (retired now : List Retired) (p : Program) : Type 0 where
  owed : p.owed ≡ None
  cause : Why
  stands : p.run ≡ Run.Stopped cause
  made : (reason : Reason) → cause ≡ Why.Met reason → IsMoved start retired now p

owes_by : (printed : Option ℤ) (outcome : Outcome) (logs : List ℕ) → outcome ≢ Went
    → owing_by printed outcome logs ≡ Some (record { printed = printed; outcome = outcome })
owes_by printed outcome logs more = grind arith

unmet : (p : Program) (w : Why) (reason : Reason) → stays (next_tick p).outcome ≡ false → StopsFor p w → w ≡ Why.Met reason → ⊥
unmet p w reason goes why e = grind arith

module _ (start : Program) (retired : List Retired) (h : Starts start) where
  abbrev Way : List Retired → Option Program → Type 0
  Way now program = StandsOrGoes (Rests start retired) (Goes start retired) now program

  -- ---- a beat

  -- what is owed is told
  tell_way : (now : List Retired) (s : Session) (p : Program) (tick : Tick) → p.owed ≡ Some tick → Goes start retired now p
      → Way now (program_of (performed histories (telling s.now p tick) s))
  tell_way now s p tick owed g =
      let way = subst (IsOnTheWay start retired now p) owed g.way in
      rw (telling_program s.now p tick s, way.0) (by (next_tick start).outcome refl way.1) where
        by : (o : Outcome) → (next_tick start).outcome ≡ o → IsMoved start retired now p → Way now (Some (concluded o (told p)))
        by Went e m = absurd (h.tells e)
        by (Stopped reason) e m = inl (record { owed = refl; cause = Why.Met reason; stands = refl; made = λ _ _. m })
        by (Ended code) e m = absurd (let no : true ≡ false = sym (ap stays e) ∙ h.goes in cc)

  -- its move is made, or something else stops it before
  beat_way : (s : Session) (p : Program) (more : Bool) (now : List Retired) → program_of s ≡ Some p → Goes start retired now p
      → ByBeat (histories.see s) p more (λ b. Way (and_next b.moved (program_of s) now) (program_of (performed histories b.acts s)))
  beat_way s p more now is g = record {
    tells = λ tick owed. tell_way now s p tick owed g;
    ends_for = λ _ _ _. rw is (inr g);
    stops_for = λ cause owed e. rw (halts_program s.now p cause [] s)
        (inl (record { owed = owed; cause = cause; stands = refl; made = λ reason met. absurd (unmet p cause reason (goes owed) e met) }));
    exits_with = λ code owed _ e. absurd (let no : true ≡ false = sym (ap stays e) ∙ goes owed in cc);
    enters = λ owed _ due. absurd (let no : true ≡ false = sym due ∙ ap (λ (d : Debugged). d.check_due) (way owed).0 ∙ h.due in cc);
    moves = λ owed _ _ _ _. rw is (inr (record { runs = g.runs; way = moves owed }));
  } where
    way : p.owed ≡ None → IsOnTheWay start retired now p None
    way owed = subst (IsOnTheWay start retired now p) owed g.way

    goes : p.owed ≡ None → stays (next_tick p).outcome ≡ false
    goes owed = ap (λ (d : Debugged). stays (the_tick d).tick.outcome) (way owed).0 ∙ h.goes

    moves : p.owed ≡ None → IsOnTheWay start retired (moved_on p.machine now) (moved p) (moved p).owed
    moves owed =
        let owes : (moved p).owed ≡ Some (next_tick start) = rw (way owed).0
        (owes_by (next_tick start).printed (next_tick start).outcome (moved start).machine.lists.logs h.tells) in
        let made : IsMoved start retired (moved_on p.machine now) (moved p) = rw ((way owed).0, (way owed).1) in
        subst (IsOnTheWay start retired (moved_on p.machine now) (moved p)) (sym owes) (refl, made)

  -- ---- an event

  slice_way : (n k : ℕ) (s : Session) (now : List Retired) → Way now (program_of s)
      → Way (retired_in n k s now) (program_of (beats histories n k s).state)
  slice_way = slice_keeps (Rests start retired) (Goes start retired) (λ _ p r. (r.owed, ap is_running r.stands)) beat_way

  hold_way : (program : Option Program) (now : List Retired) → Way now program → Way now (on_program (marked Mark.Hold) program)
  hold_way None now w = w
  hold_way (Some p) now (inl r) = subst (λ (r : Run). Way now (Some (marked_by r Mark.Hold p))) (sym r.stands) (inl r)
  hold_way (Some p) now (inr g) =
      subst (λ (r : Run). Way now (Some (marked_by r Mark.Hold p))) (sym g.runs) (inr (record { runs = g.runs; way = g.way }))

  -- it owes what it owes
  tells_way : (now : List Retired) (s : Session) (p : Program) (tick : Tick) → p.owed ≡ Some tick → Way now (Some p)
      → Way now (program_of (performed histories (telling s.now p tick) s))
  tells_way now s p tick owed (inl r) = absurd (let no : None ≡ Some tick = sym r.owed ∙ owed in cc)
  tells_way now s p tick owed (inr g) = tell_way now s p tick owed g

  turn_way : (file : Option (List ℕ)) (now : List Retired) (s : Session) → Way now (program_of s)
      → LeavesProgram (answered (histories.see s) file) (program_of s)
      → Way (and_retired s (Turn file) now) (program_of (Effect s (Turn file)))
  turn_way file now s w = by_turn (histories.see s) file (λ a o. LeavesProgram a (program_of s)
      → Way (after_answer a now) (program_of (performed histories o.acts s))) (record {
        refused = λ _. w;
        tells = λ p tick is owed _. tells_way now s p tick owed (subst (Way now) is w);
        nothing = λ _ _. w;
        answers = λ l q quiet. rw quiet.0 (subst (Way now)
            (sym (ap (λ (d : Debuggee). d.program) (answering_debuggee (answer_to s.now l.terms file q) s) ∙ quiet.1)) w);
      }) s.now.link

  -- an event after which as much has retired
  other_way : (e : Event) (now : List Retired) (s : Session) → Way now (program_of s) → IsQuiet s (Whole e)
      → and_retired s e now ≡ now → Way now (program_of (Effect s e))
  other_way e now s w =
      on_event s (λ e program. IsQuiet s (Whole e) → and_retired s e now ≡ now → Way now program) (λ _ _ _. w)
      (λ file quiet is. subst (λ (l : List Retired). Way l (program_of (Effect s (Turn file)))) is (turn_way file now s w quiet))
      (λ n _ is. subst (λ (l : List Retired). Way l (program_of (sliced histories n s).state)) is (slice_way n (enough n) s now w))
      (λ _ _. hold_way (program_of s) now w) (λ quiet. absurd quiet) e

  quiet_way : (x : Happened) (now : List Retired) (s : Session) → IsQuiet s x → Way now (program_of s)
      → Way (retired_by s x now) (program_of (leaves s x))
  quiet_way (Whole (Turn file)) now s quiet w = turn_way file now s w quiet
  quiet_way (Whole (Slice n)) now s quiet w = slice_way n (enough n) s now w
  quiet_way (Whole e) now s quiet w = other_way e now s w quiet refl
  quiet_way (Cut n k) now s quiet w = slice_way n k s now w

  all_way : (quiet : List Happened) (now : List Retired) (s : Session) → AreQuiet quiet s → Way now (program_of s)
      → Way (retired_after quiet s now) (program_of (led_to quiet s))
  all_way [] now s are w = w
  all_way (x ∷ quiet) now s are w = all_way quiet (retired_by s x now) (leaves s x) are.1 (quiet_way x now s are.0 w)

  -- where a reason of its machine stopped it, the move is made
  met_way : (program : Option Program) (now : List Retired) → Way now program → OfProgram HasMet program
      → OfProgram (IsMoved start retired now) program
  met_way None now w has = absurd has
  met_way (Some p) now (inl r) has =
      r.made has.0 (let both : Run.Stopped r.cause ≡ Run.Stopped (Why.Met has.0) = sym r.stands ∙ has.1 in cc)
  met_way (Some p) now (inr g) has = absurd (let no : Run.Running ≡ Run.Stopped (Why.Met has.0) = sym g.runs ∙ has.1 in cc)

-- ---- what it leaves

pub step_back_some : (s : Session) (happened : List Happened) (p : Program) → program_of s ≡ Some p → IsStep Backward s happened
    → 1 ≤ length p.machine.past
step_back_some s happened p is x = (turn_begins Backward p s happened is x).some refl

pub step_leaves : (d : Direction) (s : Session) (happened : List Happened) (p : Program) (retired : List Retired) → program_of s ≡ Some p
    → IsStep d s happened → Starts (resumed (goal_by d) p)
    → OfProgram (IsMoved (resumed (goal_by d) p) retired (retired_after happened s retired)) (program_of (led_to happened s))
step_leaves d s happened p retired is x h =
    subst (λ (l : List Happened). OfProgram (IsMoved start retired (retired_after l s retired)) (program_of (led_to l s))) (sym x.are)
    (met_way start retired h (program_of (led_to x.after t)) (retired_after x.after t now)
    (all_way start retired h x.after now t x.quiet begins)
    (subst (λ (l : List Happened). OfProgram HasMet (program_of (led_to l s))) x.are x.ends)) where
      start : Program
      start = resumed (goal_by d) p

      t : Session
      t = Effect s (Turn x.file)

      now : List Retired
      now = and_retired s (Turn x.file) retired

      begins : Way start retired h now (program_of t)
      begins =
          let owed : p.owed ≡ None = rw is at (owes_none s.now.link (histories.see s) x.file x.request x.answers) in
          let same : now ≡ retired = rw (x.answers, (asks_so d x.request.request.ask x.asks).1) in
          subst (Way start retired h now) (sym (turn_begins d p s happened is x).is)
          (inr (record { runs = refl; way = subst (IsOnTheWay start retired now start) (sym owed) (refl, same) }))
