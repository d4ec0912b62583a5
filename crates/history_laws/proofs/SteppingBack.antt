-- A step back goes one move back, whatever happens.
use Rattle.history_laws.proofs.Common.{[], answer_to, Answering, answering_debuggee, ap, arith, asks_to_start_or_end, Back, beats, Bool, by_success, by_turn, ByBeat, BySuccess, bytes_eq, Command, Course, Cut, Debuggee, demand_of, departed, Effect, ends, enough, false, first_mark, given_of, goes, goes_on, GoesBackFrom, gone_back, halts_program, Happened, HasEnded, HasSteppedBack, histories, if_keeps, inl, inr, intent_of, is_ended, is_running, is_success, is_to_end, is_to_stand, IsStartedOrEnded, IsUnderWay, leaves, left, List, Mark, marked, marked_by, Meets, moved, next_tick, None, not, Now, of_answer, OfEvent, OfProgram, on_program, Option, Pending, performed, Program, program_of, refl, Run, run_left, run_of, Session, SetBreakpoints, SetVariable, Some, starts_or_ends, StartsOrEnds, stays, step_made, steps, StepsBack, StepsBackIn, StepsGoOneBack, stopped, StopsFor, subst, sym, telling, telling_program, Terms, the_answered, Tick, true, Turn, turns_back, Wanted, Whole, Why, with_list, WriteMemory, ℕ, ◌&&◌, ◌∙◌, ◌∷◌, ◌≡◌, ◌≢◌, ◌⊎◌}
use Rattle.stepping.specs.Loading.{no_breakpoints}
use Rattle.history_laws.proofs.Beating.{on_event, slice_keeps}
use Rattle.history_laws.proofs.Ticking.{Undoes, undoes}
use Rattle.protocol.specs.Commands.{name_of}
use Rattle.protocol.specs.declared.disconnect.TheConstants.{NAME as DISCONNECT}
use Rattle.queues.specs.Arrivals.{name_asked}
use Rattle.std.proofs.lemmas.Bool.{and_parts}

-- it has stepped back, or steps back still
abbrev Steps : Course → Option Program → Type 0
Steps from program = OfProgram (λ p. HasSteppedBack from p ⊎ StepsBack from p) program

still_steps : (from : Course) (program : Option Program) → OfProgram (StepsBack from) program → Steps from program
still_steps from program h = grind arith

-- ---- a beat

-- what is owed is told
tick_steps : (from : Course) (s : Session) (p : Program) (tick : Tick) → p.owed ≡ Some tick → StepsBack from p
    → Steps from (program_of (performed histories (telling s.now p tick) s))
tick_steps from s p tick owed h =
    let way = subst (IsUnderWay from p) owed h.way in rw (telling_program s.now p tick s, way.0) (inl (refl, inl (refl, way.1)))

-- it stops at a mark, which is not that of its entry
paused : (p : Program) (w : Why) → turns_back p.machine.goal ≡ true → stays (next_tick p).outcome ≡ false → p.mark ≢ Some Mark.Entry
    → StopsFor p w
    → w ≡ Why.Pause
paused p w turns goes other h = grind arith

-- its move is made, and undoes one
steps_on : (from : Course) (s : Session) (p : Program) (more : Bool) → program_of s ≡ Some p → StepsBack from p
    → ByBeat (histories.see s) p more (λ b. Steps from (program_of (performed histories b.acts s)))
steps_on from s p more is h = record {
  tells = λ tick owed. tick_steps from s p tick owed h;
  ends_for = λ _ _ _. rw is (inr h);
  stops_for = λ w owed e. rw (halts_program s.now p w [] s)
      (inl (owed, inr (ap (λ (w : Why). Run.Stopped w) (paused p w turns u.goes h.mark e), subst (IsUnderWay from p) owed h.way)));
  exits_with = λ code _ _ e. absurd (let no : true ≡ false = sym (ap stays e) ∙ u.goes in cc);
  enters = λ _ _ due. absurd (let no : true ≡ false = sym due ∙ h.due in cc);
  moves = λ owed _ _ _ _. inr (record {
    runs = h.runs;
    goal = u.leaves.goal ∙ h.goal;
    due = u.leaves.due ∙ h.due;
    mark = h.mark;
    way = subst (IsUnderWay from (moved p)) (sym owes) (refl, u.course ∙ ap gone_back (subst (IsUnderWay from p) owed h.way));
  });
} where
  turns : turns_back p.machine.goal ≡ true
  turns = ap turns_back h.goal

  u : Undoes p
  u = undoes p turns h.due

  owes : (moved p).owed ≡ Some step_made
  owes = rw (u.tick, h.goal)

stands_by : (from : Course) (p : Program) → HasSteppedBack from p → is_running p.run ≡ false
stands_by from p h = grind arith

slice_steps : (n k : ℕ) (s : Session) (from : Course) → Steps from (program_of s) → Steps from (program_of (beats histories n k s).state)
slice_steps n k s from h =
    slice_keeps (λ _. HasSteppedBack from) (λ _. StepsBack from) (λ _ p x. (x.0, stands_by from p x))
    (λ t p more _. steps_on from t p more) n k s [] h

-- ---- an answer

on_steps : (f : Program → Program) (program : Option Program) (from : Course) → OfProgram (StepsBack from) program
    → ((p : Program) → StepsBack from p → Steps from (Some (f p))) → Steps from (on_program f program)
on_steps f program from h keeps = grind (arith, keeps)

no_entry : (m : Mark) (has : Option Mark) → has ≢ Some Mark.Entry → m ≢ Mark.Entry → first_mark has (Some m) ≢ Some Mark.Entry
no_entry m has h other = λ e. grind arith

marked_steps : (m : Mark) → m ≢ Mark.Entry → (from : Course) (p : Program) → StepsBack from p → Steps from (Some (marked m p))
marked_steps m other from p h =
    subst (λ (r : Run). Steps from (Some (marked_by r m p))) (sym h.runs)
    (inr (record { runs = h.runs; goal = h.goal; due = h.due; mark = no_entry m p.mark h.mark other; way = h.way }))

listed_steps : (c : Command) (list : List Wanted) (from : Course) (p : Program) → StepsBack from p → Steps from (Some (with_list c list p))
listed_steps (SetBreakpoints arguments) list from p h =
    inr (record { runs = h.runs; goal = h.goal; due = h.due; mark = h.mark; way = h.way })
listed_steps c list from p h =
    inr (record { runs = h.runs; goal = h.goal; due = h.due; mark = h.mark; way = h.way })

-- a request that wants the program to stand still is refused
no_step : {A : Type 0} (program : Option Program) (from : Course) → OfProgram (StepsBack from) program → goes_on (run_of program) ≡ false
    → A
no_step program from h stands = absurd (grind arith)

-- an editor goes: it steps back still, or its stop is made
left_steps : (from : Course) (p : Program) → StepsBack from p → Steps from (Some (left p))
left_steps from p h = by p.owed h.way where
  by : (owed : Option Tick) → IsUnderWay from p owed → Steps from (Some (record p {
    run = run_left owed p.run;
    mark = None;
    machine = record p.machine { lists = no_breakpoints };
    owed = None;
  }))
  by None way = inr (record { runs = h.runs; goal = h.goal; due = h.due; mark = λ e. cc; way = way })
  by (Some tick) way = inl (refl, inl (rw way.0, way.1))

-- a `disconnect` ends it, has it stand still, or lets it step back
departed_steps : (ends stands : Bool) (from : Course) (p : Program) → p.owed ≡ None → Steps from (Some p)
    → (is_ended (departed ends stands p).run ≡ true) ⊎ Steps from (Some (departed ends stands p))
departed_steps ends stands from p owed h =
    let P : Program → Type 0 = λ q. (is_ended q.run ≡ true) ⊎ Steps from (Some q) in
    if_keeps P (ends && not (is_ended p.run)) _ _ (λ _. inl refl)
    (λ _. if_keeps P (stands && is_running p.run) _ _ (λ e. inr (pauses h (and_parts stands _ e).1)) (λ _. inr h)) where
      pauses : Steps from (Some p) → is_running p.run ≡ true → Steps from (Some (stopped Why.Pause p))
      pauses (inl has) runs = absurd (let no : false ≡ true = sym (stands_by from p has) ∙ runs in cc)
      pauses (inr steps) runs = inl (owed, inr (refl, subst (IsUnderWay from p) owed steps.way))

leaves_by : (ends stands : Bool) (from : Course) (program : Option Program) → OfProgram (StepsBack from) program
    → (let after = on_program (λ p. departed ends stands (left p)) program in HasEnded after ⊎ Steps from after)
leaves_by ends stands from None h = absurd h
leaves_by ends stands from (Some p) h = departed_steps ends stands from (left p) refl (left_steps from p h)

-- the program begins anew or ends, or it steps back still
abbrev Comes : Course → List ℕ → Bool → Answering → Type 0
Comes from name starts a = (((starts && is_success a.outcome) ≡ true)
    ⊎ (((bytes_eq name DISCONNECT.now && is_success a.outcome) ≡ true) × HasEnded a.debuggee.program))
    ⊎ Steps from a.debuggee.program

abbrev ComesTaken : Course → Now → Command → Answering → Type 0
ComesTaken from now c a = Meets (run_of now.debuggee.program) (demand_of c) → Comes from (name_of c) (starts_or_ends (intent_of c)) a

module _ (from : Course) (now : Now) (terms : Terms) (h : OfProgram (StepsBack from) now.debuggee.program) where
  same : Steps from now.debuggee.program
  same = still_steps from now.debuggee.program h

  no_still : {A : Type 0} (c : Command) → (demand_of c).still ≡ true → Meets (run_of now.debuggee.program) (demand_of c) → A
  no_still c stands meets = no_step now.debuggee.program from h (rw stands at meets.still)

  departs : {A : Type 0} (program : Option Program) → HasEnded program ⊎ Steps from program
      → (A ⊎ ((true ≡ true) × HasEnded program)) ⊎ Steps from program
  departs program (inl has) = inl (inr (refl, has))
  departs program (inr steps) = inr steps

  successes_step : BySuccess (given_of now) terms (ComesTaken from now)
  successes_step = record {
    initialized = λ _ _. inr same;
    unreadable = λ _ _. inr same;
    loaded = λ _ _ _ _. inl (inl refl);
    wrong = λ _ _ _ _ _. inr same;
    attaches = λ _. inr same;
    begun = λ _ _. inl (inl refl);
    joined = λ _ _. inr same;
    agreed = λ _ _ _. inr same;
    restarts = λ _. inl (inl refl);
    terminates = λ _. inl (inl refl);
    leaves = λ arguments _. departs _ (leaves_by (is_to_end terms arguments) (is_to_stand terms arguments) from now.debuggee.program h);
    pauses = λ _ _. inr (on_steps (marked Mark.Pause) now.debuggee.program from h (marked_steps Mark.Pause (λ e. cc) from));
    stepped = λ c kind _ meets. no_still c kind.still meets;
    refused = λ _ _ _ _ _. inr same;
    sets_none = λ _ _ _ _ _ _ _ _. inr same;
    sets_list = λ c _ _ _ list _ _ _ _ _. inr (on_steps (with_list c list) now.debuggee.program from h (listed_steps c list from));
    shows = λ c kind _ _ _ _ _ _ meets. no_still c kind.still meets;
    sets_register = λ arguments _ _ _ _ _ meets. no_still (SetVariable arguments) refl meets;
    writes = λ arguments _ _ _ _ _ meets. no_still (WriteMemory arguments) refl meets;
  }

answer_steps : (from : Course) (now : Now) (terms : Terms) (file : Option (List ℕ)) (p : Pending)
    → OfProgram (StepsBack from) now.debuggee.program
    → Comes from (name_asked p.ask) (asks_to_start_or_end p.ask) (answer_to now terms file p)
answer_steps from now terms file p h =
    of_answer (λ ask a. Comes from (name_asked ask) (asks_to_start_or_end ask) a) now terms file p.ask p.fate
    (λ refusal _. inr (still_steps from now.debuggee.program h))
    (λ r taken meets. by_success (given_of now) terms (ComesTaken from now)
    (successes_step from now terms h) file r.command meets.loaded meets)

-- ---- an event

turn_passes : (file : Option (List ℕ)) (from : Course) (s : Session) → OfProgram (StepsBack from) (program_of s)
    → IsStartedOrEnded s (Turn file) ⊎ Steps from (program_of (Effect s (Turn file)))
turn_passes file from s h =
    by_turn (histories.see s) file (λ a o. StartsOrEnds a ⊎ Steps from (program_of (performed histories o.acts s))) (record {
      refused = inr (still_steps from (program_of s) h);
      tells = λ p tick is owed. inr (tick_steps from s p tick owed (rw is at h));
      nothing = λ _. inr (still_steps from (program_of s) h);
      answers = λ l p. subst (λ (d : Debuggee). StartsOrEnds (Some (the_answered (histories.see s) l file p)) ⊎ Steps from d.program)
          (sym (answering_debuggee (answer_to s.now l.terms file p) s)) (answer_steps from s.now l.terms file p h);
    }) s.now.link

passes : (x : Happened) (from : Course) (s : Session) → OfProgram (StepsBack from) (program_of s)
    → OfEvent (IsStartedOrEnded s) x ⊎ Steps from (program_of (leaves s x))
passes (Cut n k) from s h = inr (slice_steps n k s from (still_steps from (program_of s) h))
passes (Whole e) from s h =
    let same = still_steps from (program_of s) h in
    on_event s (λ e program. IsStartedOrEnded s e ⊎ Steps from program) (λ _. inr same) (λ file. turn_passes file from s h)
    (λ n. inr (slice_steps n (enough n) s from same))
    (inr (on_steps (marked Mark.Hold) (program_of s) from h (marked_steps Mark.Hold (λ e. cc) from)))
    (inr (on_steps left (program_of s) from h (left_steps from))) e

goes_on_back : (x : Happened) (happened : List Happened) (from : Course) (s : Session)
    → (OfProgram (StepsBack from) (program_of (leaves s x)) → StepsBackIn from happened (leaves s x))
    → OfEvent (IsStartedOrEnded s) x ⊎ Steps from (program_of (leaves s x)) → StepsBackIn from (x ∷ happened) s
goes_on_back x happened from s rest h = grind arith

steps_back_in : (happened : List Happened) (from : Course) (s : Session) → OfProgram (StepsBack from) (program_of s)
    → StepsBackIn from happened s
steps_back_in [] from s h = tt
steps_back_in (x ∷ happened) from s h = goes_on_back x happened from s (steps_back_in happened from (leaves s x)) (passes x from s h)

begins_steps : (program : Option Program) (from : Course) → OfProgram (GoesBackFrom Back from) program
    → OfProgram (StepsBack from) program
begins_steps None from h = absurd h
begins_steps (Some p) from h = record {
  runs = h.runs;
  goal = h.goes;
  due = h.due;
  mark = λ e. (let no : None ≡ Some Mark.Entry = sym h.mark ∙ e in cc);
  way = subst (IsUnderWay from p) (sym h.owed) h.course;
}

pub steps_go_one_back : (s : Session) → StepsGoOneBack s
steps_go_one_back s from h happened = steps_back_in happened from s (begins_steps (program_of s) from h)
