-- How many moves are recorded after each event.
use Rattle.history_laws.proofs.Common.{[], agrees, answer_to, Answering, answering_debuggee, ap, arith, asks_to_give_up, back, beat, beats, Beginning, Bool, by_beat, by_beats, by_slicing, by_success, by_turn, BySuccess, Command, concluded, cond, count_answered, count_moved, count_of, count_sliced, Cut, Debugged, Debuggee, departed, Effect, ended, EndsARun, enough, entered, Event, EventsAreCounted, exits_program, false, fault_at, first_run, given_of, gives_up, goes, halts_program, Happened, histories, IfSome, intent_of, is_success, is_to_end, is_to_stand, Launch, left, length, length-take, List, ltb, Mark, marked, marked_by, min, move_leaves, moved, next_tick, None, Now, of_answer, OfProgram, Ok, on_program, Option, Outcome, Pending, performed, Program, program_of, Reached, recorded_of, refl, Restart, restarted, resumed, Run, Session, SetVariable, Slice, Some, start, stays, steps, stopped, subst, sym, take, telling_program, Terms, the_tick, told, true, Turn, turns_back, Whole, with_hart, with_list, WriteMemory, ℕ, ◌&&◌, ◌+◌, ◌-◌, ◌||◌, ◌∙◌, ◌≡◌, ◌≤◌}
use Rattle.answers.proofs.ProperValues.{writings_fit}
use Rattle.answers.specs.Answers.{sets_breakpoints}
use Rattle.answers.specs.Looking.{looks_in}
use Rattle.answers.specs.WriteMemory.{write_memory}
use Rattle.answers.specs.declared.write_memory.Writing.{Writing}
use Rattle.history_laws.proofs.Beating.{on_event}
use Rattle.history_laws.proofs.Counted.{are_given_up, ticks_are_counted}
use Rattle.history_laws.proofs.Recorded.{every_past_is_a_run}
use Rattle.protocol.specs.declared.write_memory.WriteMemoryArguments.{WriteMemoryArguments}

-- ---- what is done to a program

-- it leaves as many, or none
same_of : (f : Program → Program) → ((p : Program) → (f p).machine.past ≡ p.machine.past) → (program : Option Program)
    → recorded_of (on_program f program) ≡ recorded_of program
same_of f same program = grind (arith, same)

none_of : (f : Program → Program) → ((p : Program) → recorded_of (Some (f p)) ≡ 0) → (program : Option Program)
    → recorded_of (on_program f program) ≡ 0
none_of f none program = grind (arith, none)

marked_same : (r : Run) (m : Mark) (p : Program) → (marked_by r m p).machine.past ≡ p.machine.past
marked_same r m p = grind arith

-- ---- the answer to a request

-- no request of another kind gives up what is recorded
none_gives_up : (c : Command) → ((agrees c || (steps c || (sets_breakpoints c || looks_in c))) && gives_up (intent_of c)) ≡ false
none_gives_up (Launch arguments) = refl
none_gives_up Restart = refl
none_gives_up (SetVariable arguments) = refl
none_gives_up (WriteMemory arguments) = refl
none_gives_up other = refl

-- what is written has a place in memory
written_whole : (arguments : WriteMemoryArguments) (memory : List ℕ) (writing : Writing) → write_memory arguments memory ≡ Ok writing
    → fault_at memory 1 writing.address (length (take writing.count arguments.bytes)) ≡ None
written_whole arguments memory writing e =
    let fits = rw e at (writings_fit arguments memory) in
    let long : length (take writing.count arguments.bytes) ≡ writing.count =
    omega (arith, fits.0, length-take writing.count arguments.bytes) in
    rw long fits.1

-- how many are recorded once it was answered
abbrev Counts : Now → Bool → Answering → Type 0
Counts now asks a =
    recorded_of a.debuggee.program ≡ cond (asks && is_success a.outcome) 0 (recorded_of now.debuggee.program)

module _ (now : Now) (terms : Terms) where
  -- as many as there were
  kept : (c : Command) (success : Bool) → (agrees c || (steps c || (sets_breakpoints c || looks_in c))) ≡ true
      → recorded_of now.debuggee.program ≡ cond (gives_up (intent_of c) && success) 0 (recorded_of now.debuggee.program)
  kept c success kind = grind (arith, none_gives_up c)

  successes_count : BySuccess (given_of now) terms (λ c a. Counts now (gives_up (intent_of c)) a)
  successes_count = record {
    initialized = λ _. refl;
    unreadable = λ _. refl;
    loaded = λ _ _ _. refl;
    wrong = λ _ _ _ _. refl;
    attaches = refl;
    begun = λ _. same_of first_run (λ _. refl) now.debuggee.program;
    joined = λ _. refl;
    agreed = λ c kind. kept c _ (rw kind.kind);
    restarts = none_of (λ p. first_run (restarted p)) are_given_up.restarted now.debuggee.program;
    terminates = same_of (ended None) (λ _. refl) now.debuggee.program;
    leaves = λ arguments. same_of (λ p. departed (is_to_end terms arguments) (is_to_stand terms arguments) (left p))
        (λ p. grind arith) now.debuggee.program;
    pauses = λ _. same_of (marked Mark.Pause) (λ p. marked_same p.run Mark.Pause p) now.debuggee.program;
    stepped = λ c kind g. same_of (resumed g) (λ _. refl) now.debuggee.program ∙ kept c _ (grind (arith, kind.kind));
    refused = λ c _ _ _. grind arith;
    sets_none = λ c kind _ _ _ _ _. kept c _ (grind (arith, kind.sets));
    sets_list = λ c kind _ _ list _ _ _ _. same_of (with_list c list) (λ p. grind arith) now.debuggee.program
        ∙ kept c _ (grind (arith, kind.sets));
    shows = λ c kind _ _ _ _ _ _. kept c _ (grind (arith, kind.looks));
    sets_register = λ _ _ setting _ _ _. none_of (with_hart setting.hart) (are_given_up.sets_hart setting.hart) now.debuggee.program;
    writes = λ arguments p writing is e _.
        rw is (are_given_up.writes writing.address _ p (written_whole arguments p.machine.memory writing e));
  }

answer_counts : (now : Now) (terms : Terms) (file : Option (List ℕ)) (p : Pending)
    → Counts now (asks_to_give_up p.ask) (answer_to now terms file p)
answer_counts now terms file p =
    of_answer (λ ask a. Counts now (asks_to_give_up ask) a) now terms file p.ask p.fate (λ refusal _. grind arith)
    (λ r taken meets. by_success (given_of now) terms (λ c a. Counts now (gives_up (intent_of c)) a)
    (successes_count now terms) file r.command meets.loaded)

-- ---- a turn

concluded_same : (outcome : Outcome) (p : Program) → (concluded outcome (told p)).machine ≡ (told p).machine
concluded_same outcome p = grind arith

turn_counts : (file : Option (List ℕ)) (s : Session) → recorded_of (program_of (Effect s (Turn file))) ≡ count_of s (Whole (Turn file))
turn_counts file s =
    by_turn (histories.see s) file
    (λ a o. recorded_of (program_of (performed histories o.acts s)) ≡ count_answered a (recorded_of (program_of s)))
    (record {
      refused = refl;
      tells = λ p tick is _. rw (telling_program s.now p tick s, is) (ap (λ (d : Debugged). length d.past) (concluded_same tick.outcome p));
      nothing = λ _. refl;
      answers = λ l p. ap (λ (d : Debuggee). recorded_of d.program) (answering_debuggee (answer_to s.now l.terms file p) s)
          ∙ answer_counts s.now l.terms file p;
    }) s.now.link

-- ---- a beat

-- how many are recorded after some moves of a slice, which leaves the way that the program goes
abbrev Has : Debugged → ℕ → Debugged → Type 0
Has start made d = (turns_back d.goal ≡ turns_back start.goal)
    × (length d.past ≡ count_moved (turns_back start.goal) made (length start.past))

abbrev Sliced : Debugged → ℕ → Option Program → Type 0
Sliced start made program = OfProgram (λ p. Has start made p.machine) program

-- nothing was moved
unmoved : (start : Debugged) (made : ℕ) (q : Program) (program : Option Program) → program ≡ Some q → Has start made q.machine
    → Sliced start (made + 0) program
unmoved start made q program is h = let none : made + 0 ≡ made = omega arith in rw (none, is) h

-- one move more
one_more : (due back stay way : Bool) (made n first : ℕ) → due ≡ false → stay ≡ false → back ≡ way → n ≡ count_moved way made first
    → cond due n (cond back (n - 1) (cond stay n (min (n + 1) 65536))) ≡ count_moved way (made + 1) first
one_more due back stay way made n first none goes same h = grind arith

moved_has : (start : Debugged) (made : ℕ) (p : Program) → p.machine.check_due ≡ false → stays (next_tick p).outcome ≡ false
    → Has start made p.machine → Has start (made + 1) (moved p).machine
moved_has start made p due goes h = (
  ap turns_back (move_leaves p due goes).goal ∙ h.0,
  ticks_are_counted p.machine (moved p).machine (next_tick p) (the_tick p.machine).is
      ∙ one_more p.machine.check_due (turns_back p.machine.goal) (stays (next_tick p).outcome) _ made _ _ due goes h.0 h.1,
)

beat_sliced : (start : Debugged) (made : ℕ) (s : Session) (more : Bool) → Sliced start made (program_of s)
    → (let b = beat (histories.see s) more in Sliced start (made + b.moved) (program_of (performed histories b.acts s)))
beat_sliced start made s more h =
    by_beat (program_of s) (histories.see s) more (λ b. Sliced start (made + b.moved) (program_of (performed histories b.acts s)))
    (λ none. absurd (subst (Sliced start made) none h))
    (λ p is. let has : Has start made p.machine = subst (Sliced start made) is h in record {
      tells = λ tick _. unmoved start made (concluded tick.outcome (told p)) _ (telling_program s.now p tick s)
          (rw (concluded_same tick.outcome p) has);
      ends_for = λ _ _ _. unmoved start made p _ is has;
      stops_for = λ w _ _. unmoved start made (stopped w p) _ (halts_program s.now p w [] s) has;
      exits_with = λ code _ _ _. unmoved start made (ended (Some code) p) _ (exits_program s.now p code s) has;
      enters = λ _ _ _. unmoved start made (entered p) _ refl has;
      moves = λ _ _ due _ goes. moved_has start made p due goes has;
    })

-- ---- a slice

-- where there is no program there stays none
absent : (n k : ℕ) (s : Session) → program_of s ≡ None → program_of (beats histories n k s).state ≡ None
absent n k s none =
    by_beats (λ t. program_of t ≡ None) (λ t more is. by_beat (program_of t) (histories.see t) more
    (λ b. program_of (performed histories b.acts t) ≡ None) (λ _. is) (λ p there. absurd (let no : None ≡ Some p = sym is ∙ there in cc)))
    n k s none

begins : (back : Bool) (n : ℕ) → n ≤ 65536 → n ≡ count_moved back 0 n
begins back n few = grind arith

has_so : (program : Option Program) (start : Debugged) (made : ℕ) → Sliced start made program
    → recorded_of program ≡ count_moved (turns_back start.goal) made (length start.past)
has_so program start made h = grind arith

slice_counts : (program : Option Program) (n k : ℕ) (s : Session) → program_of s ≡ program → IfSome program (λ p. EndsARun p.machine)
    → recorded_of (program_of (beats histories n k s).state) ≡ count_sliced program (beats histories n k s).moved
slice_counts None n k s is h = ap recorded_of (absent n k s is)
slice_counts (Some p) n k s is h =
    has_so (program_of (beats histories n k s).state) p.machine (beats histories n k s).moved
    (by_slicing n (λ d. Sliced p.machine d.moved (program_of d.state)) (λ d _. beat_sliced p.machine d.moved d.state (ltb d.moved n)) k s
    (subst (Sliced p.machine 0) (sym is) (refl, begins (turns_back p.machine.goal) (length p.machine.past) h.few)))

-- ---- an event

-- one after which as many are recorded
other_counts : (e : Event) (s : Session) → IfSome (program_of s) (λ p. EndsARun p.machine)
    → count_of s (Whole e) ≡ recorded_of (program_of s)
    → recorded_of (program_of (Effect s e)) ≡ recorded_of (program_of s)
other_counts e s h =
    on_event s (λ e program. count_of s (Whole e) ≡ recorded_of (program_of s) → recorded_of program ≡ recorded_of (program_of s))
    (λ _ _. refl)
    (λ file is. turn_counts file s ∙ is) (λ n is. slice_counts (program_of s) n (enough n) s refl h ∙ is)
    (λ _. same_of (marked Mark.Hold) (λ p. marked_same p.run Mark.Hold p) (program_of s)) (λ _. same_of left (λ _. refl) (program_of s)) e

event_counts : (s : Session) → IfSome (program_of s) (λ p. EndsARun p.machine) → EventsAreCounted s
event_counts s h (Whole (Turn file)) = turn_counts file s
event_counts s h (Whole (Slice n)) = slice_counts (program_of s) n (enough n) s refl h
event_counts s h (Whole e) = other_counts e s h refl
event_counts s h (Cut n k) = slice_counts (program_of s) n k s refl h

pub events_are_counted : (from : Beginning) (events : List Happened) → EventsAreCounted (Reached from events)
events_are_counted from events = event_counts (Reached from events) (every_past_is_a_run from events)
