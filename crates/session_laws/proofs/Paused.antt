-- A program that runs and is marked retires no instruction.
use Rattle.session_laws.proofs.Common.{[], Accept, and_right, AnEvent as Event, answer_to, Answering, answering, ap, arith, Beat, beat, beats, Bool, by_success, BySuccess, bytes_eq, CameTo, Command, concluded, Cut, Debuggee, demand_of, Disconnects, EditorLeaves, Effect, ended, ending_of, enough, false, first_run, given_of, goes_on, Happened, histories, inl, inr, is_running, is_some, is_success, IsAtRest, IsMarked, leaves, List, ltb, Mark, marked, marked_by, MarkedRetiresNone, MatchOption, Meets, name_asked, name_of, None, Now, of_answer, OfEvent, on_program, Open, Option, Pause, PauseMarks, Pauses, Pending, performed, Program, refl, restarted, RetiresNone, RetiresNoneIn, Run, run_of, Session, SetVariable, Slice, Slicing, Some, subst, success_of, sym, Terms, Tick, told, true, Turn, Whole, with_list, WriteMemory, ℕ, ◌&&◌, ◌∙◌, ◌∷◌, ◌≡◌, ◌⊎◌}
use Rattle.debuggee.specs.declared.run.Mark.TheVariants as mark
use Rattle.protocol.specs.declared.disconnect.TheConstants.{NAME as DISCONNECT}
use Rattle.protocol.specs.declared.pause.TheConstants.{NAME as PAUSE}
use Rattle.session_laws.proofs.Answered.{by_turn}
use Rattle.session_laws.proofs.Cases.{by_beat, by_effect, by_slicing, tells_tick}
use Rattle.session_laws.proofs.Joined.{exits_program, halts_program, NoneBecome, program_of, still_holds, telling_program}
pub use Rattle.session_laws.proofs.Joined.{answering_debuggee}

abbrev Marked : Option Program → Type 0
Marked program = MatchOption program ⊥ (λ p. (is_running p.run ≡ true) × (is_some p.mark ≡ true))

-- it runs and is marked, or does not run
abbrev Waits : Option Program → Type 0
Waits program = Marked program ⊎ MatchOption program ⊥ (λ p. is_running p.run ≡ false)

-- ---- a beat

-- what a beat of such a program leaves: it waits still, no instruction retires, and the slice continues only where it runs
record Rests (s : Session) (b : Beat) : Type 0 where
  waits : Waits (program_of (performed histories b.acts s))
  none : b.moved ≡ 0
  going : b.ending ≡ None → Marked (program_of (performed histories b.acts s))

concluded_waits : (outcome : CameTo) (p : Program) → Marked (Some p)
    → Waits (Some (concluded outcome p)) × (ending_of outcome ≡ None → Marked (Some (concluded outcome p)))
concluded_waits outcome p m = grind arith

tick_rests : (s : Session) (p : Program) (tick : Tick) → Marked (Some p) → Rests s (tells_tick s.now p tick)
tick_rests s p tick m =
    let is = telling_program s.now p tick s in
    let c = concluded_waits tick.outcome (told p) m in
    record { waits = subst Waits (sym is) c.0; none = refl; going = λ e. subst Marked (sym is) (c.1 e) }

beat_rests : (s : Session) (more : Bool) → Marked (program_of s) → Rests s (beat (histories.see s) more)
beat_rests s more h = by_beat (program_of s) (histories.see s) more (Rests s) (λ none. absurd (subst Marked none h))
    (λ p is.
    let m : Marked (Some p) = subst Marked is h in
    let marked : p.mark ≡ None → ⊥ = λ free. let no : false ≡ true = sym (ap is_some free) ∙ m.1 in cc in
    record {
      tells = λ tick _. tick_rests s p tick m;
      ends_for = λ e _ _. record { waits = inl h; none = refl; going = λ x. absurd (cc) };
      stops_for = λ w _ _. record { waits = rw (halts_program s.now p w [] s) (inr refl); none = refl; going = λ x. absurd (cc) };
      exits_with = λ code _ _ _. record { waits = rw (exits_program s.now p code s) (inr refl); none = refl; going = λ x. absurd (cc) };
      enters = λ _ free _. absurd (marked free);
      moves = λ _ free _ _ _. absurd (marked free);
    })

-- ---- a slice

record Slept (d : Slicing Session) : Type 0 where
  waits : Waits (program_of d.state)
  none : d.moved ≡ 0
  going : d.ending ≡ None → Marked (program_of d.state)

slept : (n i : ℕ) (s : Session) → IsMarked s.now.debuggee → Slept (beats histories n i s)
slept n i s h = by_slicing n Slept (λ d is x.
    let b = beat_rests d.state (ltb d.moved n) (x.going is) in
    let before = x.none in let now = b.none in
    record { waits = b.waits; none = omega (arith, before, now); going = b.going })
    i s (record { waits = inl h; none = refl; going = λ _. h })

-- ---- an answer

-- the program waits after it, or it is a success that ends the connection
abbrev Goes : List ℕ → Answering → Type 0
Goes name a = Waits a.debuggee.program ⊎ ((bytes_eq name DISCONNECT.now && is_success a.outcome) ≡ true)

on_waits : (f : Program → Program) (program : Option Program) → Marked program
    → ((p : Program) → is_running p.run ≡ true → is_some p.mark ≡ true → Waits (Some (f p))) → Waits (on_program f program)
on_waits f program h keeps = grind (arith, keeps)

marked_waits : (r : Run) (mark : Mark) (p : Program) → is_running p.run ≡ true → is_some p.mark ≡ true → Waits (Some (marked_by r mark p))
marked_waits run mark p r m = grind arith

-- a request that wants the program to stand still is refused
no_step : {A : Type 0} (program : Option Program) → Marked program → goes_on (run_of program) ≡ false → A
no_step program h still = absurd (grind arith)

-- the answer to a request where the program is as it asks
abbrev WaitsTaken : Now → Command → Answering → Type 0
WaitsTaken now c a = Meets (run_of now.debuggee.program) (demand_of c) → Goes (name_of c) a

module _ (now : Now) (terms : Terms) (h : Marked now.debuggee.program) where
  same : Waits now.debuggee.program
  same = inl h

  -- it wants the program to stand still
  no_still : {A : Type 0} (c : Command) → (demand_of c).still ≡ true → Meets (run_of now.debuggee.program) (demand_of c) → A
  no_still c still meets =
      no_step now.debuggee.program h (subst (λ (s : Bool). (s && goes_on (run_of now.debuggee.program)) ≡ false) still meets.still)

  successes_wait : BySuccess (given_of now) terms (WaitsTaken now)
  successes_wait = record {
    initialized = λ _ _. inl same;
    unreadable = λ _ _. inl same;
    loaded = λ arguments text _ _. inl (inr refl);
    wrong = λ _ _ _ _ _. inl same;
    attaches = λ _. inl same;
    begun = λ _ _. inl (on_waits first_run now.debuggee.program h (λ p r m. inl (refl, grind arith)));
    joined = λ _ _. inl same;
    agreed = λ _ _ _. inl same;
    restarts = λ _. inl (on_waits (λ p. first_run (restarted p)) now.debuggee.program h (λ p r m. inl (refl, grind arith)));
    terminates = λ _. inl (on_waits (ended None) now.debuggee.program h (λ p r m. inr refl));
    leaves = λ _ _. inr refl;
    pauses = λ _ _. inl (on_waits (marked mark.Pause) now.debuggee.program h (λ p r m. marked_waits p.run mark.Pause p r m));
    stepped = λ c kind _ meets. no_still c kind.still meets;
    refused = λ _ _ _ _ _. inl same;
    sets_none = λ _ _ _ _ _ _ _ _. inl same;
    sets_list = λ c _ _ _ list _ _ _ _ _. inl (on_waits (with_list c list) now.debuggee.program h (λ p r m. grind arith));
    shows = λ c kind _ _ _ _ _ _ meets. no_still c kind.still meets;
    sets_register = λ arguments _ _ _ _ _ meets. no_still (SetVariable arguments) refl meets;
    writes = λ arguments _ _ _ _ _ meets. no_still (WriteMemory arguments) refl meets;
  }

answer_waits : (now : Now) (terms : Terms) (file : Option (List ℕ)) (p : Pending) → Marked now.debuggee.program
    → Goes (name_asked p.ask) (answer_to now terms file p)
answer_waits now terms file p h =
    of_answer (λ ask answer. Goes (name_asked ask) answer) now terms file p.ask p.fate
    (λ refusal _. inl (inl h))
    (λ r taken meets. by_success (given_of now) terms (WaitsTaken now) (successes_wait now terms h) file r.command meets.loaded meets)

-- ---- an event

turn_passes : (file : Option (List ℕ)) (s : Session) → Marked (program_of s)
    → EditorLeaves s (Turn file) ⊎ Waits (program_of (Effect s (Turn file)))
turn_passes file s h =
    by_turn (histories.see s) file (λ a o. Disconnects a ⊎ Waits (program_of (performed histories o.acts s))) (record {
      refused = inr (inl h);
      tells = λ p tick is _. inr (tick_rests s p tick (subst Marked is h)).waits;
      nothing = λ _. inr (inl h);
      answers = λ l p. by (answer_to s.now l.terms file p) (answer_waits s.now l.terms file p h);
    }) s.now.link where
      by : {leaves : Type 0} (a : Answering) → Waits a.debuggee.program ⊎ leaves
          → leaves ⊎ Waits (program_of (performed histories (answering a) s))
      by a passes = grind (arith, answering_debuggee a s)

event_passes : (e : Event) (s : Session) → IsMarked s.now.debuggee → EditorLeaves s e ⊎ Waits (program_of (Effect s e))
unfolding NoneBecome
event_passes e s h = by_effect s (λ e t. EditorLeaves s e ⊎ Waits (program_of t)) (record {
  refuses = λ _ _. inr (inl h);
  opens = inr (still_holds Waits (Open ∷ []) s tt (inl h));
  accepts = λ piece. inr (still_holds Waits (Accept piece ∷ []) s tt (inl h));
  turns = λ file. turn_passes file s h;
  slices = λ _. inr (inl h);
  holds = inr (on_waits (marked mark.Hold) (program_of s) h (λ p r m. grind arith));
  takes = λ _. inr (inl h);
  drops = λ l is. inl (ap is_some is);
}) (λ n. inr (slept n (enough n) s h).waits) e

retires_none : (e : Event) (s : Session) → IsMarked s.now.debuggee → RetiresNone s (Whole e)
retires_none (Slice n) s h = (slept n (enough n) s h).none
retires_none _ s h = tt

-- what happened is an event or a slice that was cut
each_passes : (x : Happened) (s : Session) → IsMarked s.now.debuggee
    → RetiresNone s x × (OfEvent (EditorLeaves s) x ⊎ Waits (program_of (leaves s x)))
each_passes (Whole e) s h = (retires_none e s h, event_passes e s h)
each_passes (Cut n count) s h = let k = slept n count s h in (k.none, inr k.waits)

goes_on_none : (x : Happened) (happened : List Happened) (s : Session)
    → (IsMarked (leaves s x).now.debuggee → RetiresNoneIn happened (leaves s x))
    → OfEvent (EditorLeaves s) x ⊎ Waits (program_of (leaves s x))
    → IsAtRest (leaves s x).now.debuggee ⊎ (OfEvent (EditorLeaves s) x ⊎ RetiresNoneIn happened (leaves s x))
goes_on_none x happened s rest passes = grind arith

retires_none_in : (happened : List Happened) (s : Session) → IsMarked s.now.debuggee → RetiresNoneIn happened s
retires_none_in [] s h = tt
retires_none_in (x ∷ happened) s h =
    let each = each_passes x s h in (each.0, goes_on_none x happened s (retires_none_in happened (leaves s x)) each.1)

pub marked_retires_none : (s : Session) → MarkedRetiresNone s
marked_retires_none s h happened = retires_none_in happened s h

-- ---- `pause`

-- a program that runs
abbrev Runs : Option Program → Type 0
Runs program = MatchOption program ⊥ (λ p. is_running p.run ≡ true)

paused : (program : Option Program) → Runs program → Marked (on_program (marked mark.Pause) program)
paused program h = grind arith

-- what a success of it leaves
abbrev PausesBy : List ℕ → Answering → Type 0
PausesBy name a = (bytes_eq name PAUSE.now && is_success a.outcome) ≡ true → Marked a.debuggee.program

never : {A : Type 0} → false ≡ true → A
never h = absurd (cc)

-- no other request has its name
pause_success : (now : Now) (terms : Terms) (file : Option (List ℕ)) (c : Command) → Runs now.debuggee.program
    → PausesBy (name_of c) (success_of (given_of now) terms file c)
pause_success now terms file (Pause arguments) runs h = paused now.debuggee.program runs
pause_success now terms file other runs h = never h

pause_answers : (now : Now) (terms : Terms) (file : Option (List ℕ)) (p : Pending) → Runs now.debuggee.program
    → PausesBy (name_asked p.ask) (answer_to now terms file p)
pause_answers now terms file p runs =
    of_answer (λ ask answer. PausesBy (name_asked ask) answer) now terms file p.ask p.fate
    (λ refusal _ h. never (sym (and_right _ false refl) ∙ h)) (λ r taken meets. pause_success now terms file r.command runs)

pub pause_marks : (s : Session) → PauseMarks s
pause_marks s file runs =
    by_turn (histories.see s) file (λ a o. Pauses a (performed histories o.acts s).now.debuggee) (record {
      refused = tt;
      tells = λ _ _ _ _. tt;
      nothing = λ _. tt;
      answers = λ l p h. subst (λ (d : Debuggee). Marked d.program) (sym (answering_debuggee (answer_to s.now l.terms file p) s))
          (pause_answers s.now l.terms file p runs h);
    }) s.now.link
