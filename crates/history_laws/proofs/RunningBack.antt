-- A run back stops where it has to.
use Rattle.history_laws.proofs.Common.{[], All, ap, arith, back_outcome, beats, Bool, ByBeat, concluded, Course, course_of, Cut, Debugged, Ended, enough, false, Goal, Happened, histories, Hit, inl, inr, is_running, IsTime, leaves, led_to, length, List, looked_at, moved, next_tick, None, OfProgram, Option, Outcome, outcome_or, owing_by, performed, Position, position_of, Program, program_of, Reason, refl, ReverseGo, Run, RunsBackStopThere, Session, Slice, Some, standing_in, start, stays, stop_at, Stopped, StopsBackThere, StopsFor, subst, sym, telling, telling_program, the_tick, Tick, told, true, turned_from, turns_back, TurnsTo, undone, undone_by, unless_start, Went, Whole, Why, ℕ, ℤ, ◌∙◌, ◌∷◌, ◌≡◌, ◌≤◌, ◌⊎◌}
use Rattle.std.proofs.lemmas.List.Elements.{All-head, All-tail}
use Rattle.history_laws.proofs.Beating.{slice_keeps}
use Rattle.history_laws.proofs.Ticking.{Undoes, undoes}
use Rattle.stepping.proofs.Reversing.{runs_back_turn}

-- ---- where it is

-- a stop: where it is, and what stops there
abbrev Stop : Type 0
Stop = Course × Outcome

abbrev Ahead : Stop → Debugged → Type 0
Ahead stop d = (turned_from d ≡ stop.0) × (stop_at d.lists stop.0.now ≡ stop.1)

-- what a tick that came to this left: the same stop ahead, or the stop
abbrev TurnsBy : Outcome → Stop → Debugged → Type 0
TurnsBy Went stop d = Ahead stop d × (1 ≤ length d.past)
TurnsBy (Stopped reason) stop d = (course_of d ≡ stop.0) × (stop.1 ≡ Stopped reason)
TurnsBy (Ended code) stop d = ⊥

abbrev Way : Stop → Debugged → Option Tick → Type 0
Way stop d None = Ahead stop d × (1 ≤ length d.past)
Way stop d (Some tick) = TurnsBy tick.outcome stop d

-- it runs back to that stop, or stands there
record Turning (stop : Stop) (p : Program) : Type 0 where
  runs : p.run ≡ Run.Running
  goal : p.machine.goal ≡ ReverseGo
  due : p.machine.check_due ≡ false
  mark : p.mark ≡ None
  way : Way stop p.machine p.owed

record Stood (stop : Stop) (p : Program) : Type 0 where
  owed : p.owed ≡ None
  reason : Reason
  stands : p.run ≡ Run.Stopped (Why.Met reason)
  course : course_of p.machine ≡ stop.0
  why : stop.1 ≡ Stopped reason

abbrev Turns : Stop → Option Program → Type 0
Turns stop program = OfProgram (λ p. Stood stop p ⊎ Turning stop p) program

-- ---- a move

way_after : (stop : Stop) (d : Debugged) (printed : Option ℤ) (outcome : Outcome) (logs : List ℕ) → TurnsBy outcome stop d
    → Way stop d (owing_by printed outcome logs)
way_after stop d None Went [] h = h
way_after stop d printed outcome logs h = h

-- that a move is undone, and breakpoints are looked at, replaces none of them
undone_stands : (g : Goal) (past : List Position) (d : Debugged) (p : Position) → (stop_at (undone_by past d).lists p ≡ stop_at d.lists p)
    × (stop_at (looked_at g (undone_by past d)).lists p ≡ stop_at d.lists p)
undone_stands g past d p = (grind arith, grind arith)

-- a run back that stops does so for a breakpoint, or since nothing older is recorded
stop_reason : (hit : Hit) (past : List Position) (reason : Reason) → outcome_or hit (unless_start past) ≡ Stopped reason
    → outcome_or hit (Stopped Reason.Start) ≡ Stopped reason
stop_reason hit past reason e = grind arith

module _ (before after : Debugged) (outcome : Outcome) (came : outcome ≡ back_outcome ReverseGo (undone before))
    (left : after ≡ looked_at ReverseGo (undone before)) where
  reason_is : (stop : Stop) (reason : Reason) → Ahead stop before → course_of after ≡ stop.0 → outcome ≡ Stopped reason
      → stop.1 ≡ Stopped reason
  reason_is stop reason is course e =
      let back = undone before in
      let there : course_of back ≡ stop.0 = ap course_of (sym left) ∙ course in
      sym is.1 ∙ ap (λ (c : Course). stop_at before.lists c.now) (sym there)
      ∙ sym (undone_stands ReverseGo before.past before (position_of back)).0
      ∙ stop_reason (standing_in back.hart.pc back.hart back.memory back.lists) back.past reason (sym came ∙ e)

  turned_on : (stop : Stop) (o : Outcome) → outcome ≡ o → Ahead stop before → TurnsTo o before after → TurnsBy o stop after
  turned_on stop Went e is h = ((h.0 ∙ is.0, rw (left, (undone_stands ReverseGo before.past before stop.0.now).1) is.1), h.1)
  turned_on stop (Stopped reason) e is h = (h ∙ is.0, reason_is stop reason is (h ∙ is.0) e)
  turned_on stop (Ended code) e is h = h

-- ---- a beat

-- what is owed is told
tick_turns : (stop : Stop) (s : Session) (p : Program) (tick : Tick) → p.owed ≡ Some tick → Turning stop p
    → Turns stop (program_of (performed histories (telling s.now p tick) s))
tick_turns stop s p tick owed h =
    rw (telling_program s.now p tick s) (by tick.outcome (subst (Way stop p.machine) owed h.way)) where
      by : (outcome : Outcome) → TurnsBy outcome stop p.machine → Turns stop (Some (concluded outcome (told p)))
      by Went way = inr (record { runs = h.runs; goal = h.goal; due = h.due; mark = h.mark; way = way })
      by (Stopped reason) way = inl (record { owed = refl; reason = reason; stands = refl; course = way.0; why = way.1 })
      by (Ended code) way = absurd way

-- its move is made, and undoes one
turns_on : (stop : Stop) (s : Session) (p : Program) (more : Bool) → program_of s ≡ Some p → Turning stop p
    → ByBeat (histories.see s) p more (λ b. Turns stop (program_of (performed histories b.acts s)))
turns_on stop s p more is h = record {
  tells = λ tick owed. tick_turns stop s p tick owed h;
  ends_for = λ _ _ _. rw is (inr h);
  stops_for = λ w _. never_stops w;
  exits_with = λ code _ _ e. never (ap stays e);
  enters = λ _ _ due. absurd (let no : true ≡ false = sym due ∙ h.due in cc);
  moves = λ owed _ _ _ _. let way : Way stop p.machine None = subst (Way stop p.machine) owed h.way in inr (record {
    runs = h.runs;
    goal = u.leaves.goal ∙ h.goal;
    due = u.leaves.due ∙ h.due;
    mark = h.mark;
    way = way_after stop (moved p).machine (next_tick p).printed (next_tick p).outcome (moved p).machine.lists.logs
        (turned_on p.machine (moved p).machine (next_tick p).outcome came left stop (next_tick p).outcome refl way.0
        (runs_back_turn p.machine (moved p).machine (next_tick p) h.goal h.due way.1 (the_tick p.machine).is));
  });
} where
  u : Undoes p
  u = undoes p (ap turns_back h.goal) h.due

  came : (next_tick p).outcome ≡ back_outcome ReverseGo (undone p.machine)
  came = ap (λ (t : Tick). t.outcome) u.tick ∙ ap (λ (g : Goal). back_outcome g (undone p.machine)) h.goal

  left : (moved p).machine ≡ looked_at ReverseGo (undone p.machine)
  left = u.after ∙ ap (λ (g : Goal). looked_at g (undone p.machine)) h.goal

  never : {A : Type 0} → stays (next_tick p).outcome ≡ true → A
  never e = absurd (let no : true ≡ false = sym e ∙ u.goes in cc)

  never_stops : {A : Type 0} (w : Why) → StopsFor p w → A
  never_stops Why.Limit forward = absurd (let no : true ≡ false = sym (ap turns_back h.goal) ∙ forward in cc)
  never_stops (Why.Met reason) met = never (ap stays met.1 ∙ met.2)
  never_stops w m = absurd (let no : None ≡ Some m.0 = sym h.mark ∙ m.1 in cc)

-- ---- slices

slice_turns : (n k : ℕ) (s : Session) (stop : Stop) → Turns stop (program_of s) → Turns stop (program_of (beats histories n k s).state)
slice_turns n k s stop h =
    slice_keeps (λ _. Stood stop) (λ _. Turning stop) (λ _ p x. (x.owed, ap is_running x.stands))
    (λ t p more _. turns_on stop t p more) n k s [] h

time_turns : (x : Happened) (s : Session) (stop : Stop) → IsTime x → Turns stop (program_of s) → Turns stop (program_of (leaves s x))
time_turns (Whole (Slice n)) s stop is h = slice_turns n (enough n) s stop h
time_turns (Whole other) s stop is h = absurd is
time_turns (Cut n k) s stop is h = slice_turns n k s stop h

slices_turn : (slices : List Happened) (s : Session) (stop : Stop) → All IsTime slices → Turns stop (program_of s)
    → Turns stop (program_of (led_to slices s))
slices_turn [] s stop all h = h
slices_turn (x ∷ slices) s stop all h =
    slices_turn slices (leaves s x) stop (All-tail IsTime x slices all)
    (time_turns x s stop (All-head IsTime x slices all) h)

-- where a run back from a machine stops
abbrev stop_of : Debugged → Stop
stop_of start = (turned_from start, stop_at start.lists (turned_from start).now)

says_so : (program : Option Program) (start : Debugged) → Turns (stop_of start) program → OfProgram (StopsBackThere start) program
says_so None start h = absurd h
says_so (Some p) start (inl h) = inr (h.reason, (h.stands, (h.course, h.why)))
says_so (Some p) start (inr h) = inl h.runs

pub runs_back_stop_there : (s : Session) → RunsBackStopThere s
runs_back_stop_there s p from slices is h time =
    says_so (program_of (led_to slices s)) p.machine (slices_turn slices s (stop_of p.machine) time
    (subst (Turns (stop_of p.machine)) (sym is) (inr (record {
      runs = h.runs;
      goal = h.goes;
      due = h.due;
      mark = h.mark;
      way = subst (Way (stop_of p.machine) p.machine) (sym h.owed)
          ((refl, refl), subst (λ (c : Course). 1 ≤ length c.past) (sym h.course) h.some);
    }))))
