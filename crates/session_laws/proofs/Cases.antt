-- A beat, a turn and an event in the cases that they come to: what holds of each case holds of the beat, or of what the others do.
use Rattle.session_laws.proofs.Common.{[], Accept, Act, AnEvent as Event, answer_to, answering, answers_next, ap, arith, Beat, beat, beat_by, beat_of, beats, becomes, Bool, by_move, cond, Connect, Connected, DidSend, done, DropConnection, Dropped, Effect, Ended, ending_of, ends, entered, eqb, EventError, Exception, exits, false, from_here, FULL, goes_unless, Held, histories, Hold, holding, if_keeps, is_at_limit, is_runnable_by, is_running, LAST_CONNECTION, leaving, leb, length, Limit, Link, List, ltb, makes_move, Mark, Met, MOST_PENDING, MOST_PIECE, moves_by, next_by, next_tick, next_turn, None, not, Now, Open, Option, Outcome, outcome_at, Pending, performed, Program, Received, Recv, refl, refused, Seen, Sent, Session, Slice, sliced, SliceEnd, Slicing, Some, stays, Stopped, stops, subst, suc, sym, Take, telling, Tick, true, Turn, turn_by, turn_of, turns_back, Why, why_marked, with_beat, zero, ℕ, ℤ, ⊤, ◌&&◌, ◌+◌, ◌∙◌, ◌∷◌, ◌≡◌}
use Rattle.debuggee.specs.declared.run.Mark.TheVariants as mark
use Rattle.session.specs.declared.event.EventError.TheVariants as error
use Rattle.session.specs.declared.event.SliceEnd.TheVariants as ending
use Rattle.session_laws.proofs.ByForms.{on, on_with}

-- ---- a beat

-- what is owed is told, the program ends, or the breakpoints at its entry are looked at
abbrev pub tells_tick : Now → Program → Tick → Beat
tells_tick now p tick = record { acts = telling now p tick; moved = 0; ending = ending_of tick.outcome }

abbrev pub ends_with : Now → Program → ℤ → Beat
ends_with now p code = record { acts = exits now p code; moved = 0; ending = Some ending.Ended }

abbrev pub enters_at : Now → Program → Beat
enters_at now p = record { acts = becomes now (entered p) ∷ []; moved = 0; ending = None }

-- why a beat does nothing but end the slice
abbrev pub EndsFor : Seen → Program → Bool → SliceEnd → Type 0
EndsFor seen p more ending.Idle = not (is_runnable_by seen.now.link p.run) ≡ true
EndsFor seen p more ending.Full = (not (is_runnable_by seen.now.link p.run) ≡ false) × (ltb FULL seen.waits ≡ true)
EndsFor seen p more ending.Spent = more ≡ false
EndsFor seen p more other = ⊥

-- why the program stops: it is marked; it is at its limit, which one that goes back has not; or its next move meets something, and is not made
abbrev pub StopsFor : Program → Why → Type 0
StopsFor p Limit = turns_back p.machine.goal ≡ false
StopsFor p (Met reason) =
    (p.machine.check_due ≡ false) × ((next_tick p).outcome ≡ Stopped reason) × (stays (Stopped reason) ≡ true)
StopsFor p w = (m : Mark) × (p.mark ≡ Some m) × (why_marked m ≡ w)

marked_stops : (p : Program) (m : Mark) → p.mark ≡ Some m → StopsFor p (why_marked m)
marked_stops p mark.Entry is = (mark.Entry, is, refl)
marked_stops p mark.Pause is = (mark.Pause, is, refl)
marked_stops p mark.Hold is = (mark.Hold, is, refl)

has_limit : (back full : Bool) → (not back && full) ≡ true → back ≡ false
has_limit back full e = grind arith

-- what has to be shown of each case
pub record ByBeat (seen : Seen) (p : Program) (more : Bool) (P : Beat → Type 0) : Type 0 where
  pub tells : (tick : Tick) → p.owed ≡ Some tick → P (tells_tick seen.now p tick)
  pub ends_for : (e : SliceEnd) → p.owed ≡ None → EndsFor seen p more e → P (ends e)
  pub stops_for : (w : Why) → p.owed ≡ None → StopsFor p w → P (stops seen.now p w)
  pub exits_with : (code : ℤ) → p.owed ≡ None → p.machine.check_due ≡ false → (next_tick p).outcome ≡ Ended code
      → P (ends_with seen.now p code)
  pub enters : p.owed ≡ None → p.mark ≡ None → p.machine.check_due ≡ true → P (enters_at seen.now p)
  pub moves : p.owed ≡ None → p.mark ≡ None → p.machine.check_due ≡ false → more ≡ true → stays (next_tick p).outcome ≡ false
      → P (makes_move seen.now p)

module _ (seen : Seen) (p : Program) (more : Bool) (P : Beat → Type 0) (h : ByBeat seen p more P) (owes : p.owed ≡ None) where
  moving : p.mark ≡ None → p.machine.check_due ≡ false → (m : Bool) → more ≡ m
      → P (cond (not m) (ends ending.Spent) (cond (is_at_limit seen.now p) (stops seen.now p Limit) (moves_by seen.now p (next_tick p).outcome)))
  moving free due true is =
      if_keeps P (is_at_limit seen.now p) _ _ (λ full. h.stops_for Limit owes (has_limit (turns_back p.machine.goal) _ full))
      (λ _. by_move (λ o b. (next_tick p).outcome ≡ o → P b) seen.now p (next_tick p).outcome
      (λ o stay e. h.moves owes free due is (ap stays e ∙ stay))
      (λ cause e. h.stops_for (Met (Exception cause)) owes (due, e, refl)) (λ code e. h.exits_with code owes due e) refl)
  moving free due false is = h.ends_for ending.Spent owes is

  unless : (m : Option Mark) → p.mark ≡ m → P (goes_unless m seen.now p more)
  unless (Some m) is = h.stops_for (why_marked m) owes (marked_stops p m is)
  unless None is = if_keeps P p.machine.check_due _ _ (h.enters owes is) (λ due. moving is due more refl)

-- of a program that there is
pub by_program : (seen : Seen) (p : Program) (more : Bool) (P : Beat → Type 0) → ByBeat seen p more P → P (beat_by p.owed seen p more)
by_program seen p more P h = by p.owed refl where
  by : (owed : Option Tick) → p.owed ≡ owed → P (beat_by owed seen p more)
  by (Some tick) is = h.tells tick is
  by None is =
      if_keeps P (not (is_runnable_by seen.now.link p.run)) _ _ (h.ends_for ending.Idle is)
      (λ runs. if_keeps P (ltb FULL seen.waits) _ _ (λ full. h.ends_for ending.Full is (runs, full))
      (λ _. unless seen p more P h is p.mark refl))

pub by_beat : (program : Option Program) (seen : Seen) (more : Bool) (P : Beat → Type 0) → (program ≡ None → P (ends ending.Idle))
    → ((p : Program) → program ≡ Some p → ByBeat seen p more P) → P (beat_of program seen more)
by_beat None seen more P none some = none refl
by_beat (Some p) seen more P none some = by_program seen p more P (some p refl)

-- where it is idle if the program does not run: what is looked at is a program that runs, unless it owes something
pub by_running : (seen : Seen) (p : Program) (more : Bool) (P : Beat → Type 0) → P (ends ending.Idle)
    → ((p.owed ≡ None → is_running p.run ≡ true) → ByBeat seen p more P) → P (beat_by p.owed seen p more)
by_running seen p more P idle some = by p.owed (is_running p.run) refl refl where
  by : (owed : Option Tick) (runs : Bool) → p.owed ≡ owed → is_running p.run ≡ runs → P (beat_by p.owed seen p more)
  by None false owes rests = let e : beat_by p.owed seen p more ≡ ends ending.Idle = grind arith in subst P (sym e) idle
  by (Some tick) false owes rests = by_program seen p more P (some (λ none. let no : None ≡ Some tick = sym none ∙ owes in cc))
  by owed true owes runs = by_program seen p more P (some (λ _. runs))

-- what each beat of a slice of n moves keeps, each number of its beats keeps
pub by_slicing : (n : ℕ) (P : Slicing Session → Type 0)
    → ((d : Slicing Session) → d.ending ≡ None → P d → P (with_beat histories (beat (histories.see d.state) (ltb d.moved n)) d))
    → (i : ℕ) (s : Session) → P (from_here s) → P (beats histories n i s)
by_slicing n P keeps zero s h = h
by_slicing n P keeps (suc i) s h = by (beats histories n i s) (beats histories n i s).ending refl (by_slicing n P keeps i s h) where
  by : (d : Slicing Session) (e : Option SliceEnd) → d.ending ≡ e → P d → P (next_by histories n e d)
  by d (Some e) is x = x
  by d None is x = keeps d is x

pub by_beats : (P : Session → Type 0) → ((s : Session) (more : Bool) → P s → P (performed histories (beat (histories.see s) more).acts s))
    → (n i : ℕ) (s : Session) → P s → P (beats histories n i s).state
by_beats P keeps n i s h = by_slicing n (λ d. P d.state) (λ d _ x. keeps d.state (ltb d.moved n) x) i s h

-- ---- a turn

-- a program that owes nothing, if there is one
abbrev pub OwesNothing : Option Program → Type 0
OwesNothing None = ⊤
OwesNothing (Some p) = p.owed ≡ None

-- What has to be shown of the acts of a turn: there are none, it tells what is owed, or answers the first request that waits.
pub record EachTurn (file : Option (List ℕ)) (R : Session → List Act → Type 0) : Type 0 where
  pub nothing : (s : Session) → R s []
  pub tells : (l : Link) (p : Program) (tick : Tick) (s : Session) → s.now.debuggee.program ≡ Some p → p.owed ≡ Some tick → let t =
      on (Some l) s in R t (telling t.now p tick)
  pub answers : (l : Link) (p : Pending) (rest : List Pending) (s : Session) → OwesNothing s.now.debuggee.program → let t =
      on_with (Some l) (p ∷ rest) s in R t (answering (answer_to t.now l.terms file p))

module _ (file : Option (List ℕ)) (R : Session → List Act → Type 0) (k : EachTurn file R) where
  each_answer : (l : Link) (s : Session) → OwesNothing s.now.debuggee.program → let t = on (Some l) s in
      R t (answers_next (histories.see t) l file).acts
  each_answer l s none =
      if_keeps (λ (o : Outcome). R (on (Some l) s) o.acts) (ltb FULL (length s.waiting)) _ _ (λ _. k.nothing (on (Some l) s))
      (λ _. by s.now.arrivals.pending) where
        by : (pending : List Pending) → let t = on_with (Some l) pending s in R t (next_turn t.now l.terms file pending).acts
        by [] = k.nothing (on_with (Some l) [] s)
        by (p ∷ rest) = k.answers l p rest s none

  each_program : (l : Link) (program : Option Program) (s : Session) → s.now.debuggee.program ≡ program → let t = on (Some l) s in
      R t (turn_of program (histories.see t) l file).acts
  each_program l None s is = each_answer l s (subst OwesNothing (sym is) tt)
  each_program l (Some p) s is = by p.owed refl where
    by : (owed : Option Tick) → p.owed ≡ owed → R (on (Some l) s) (turn_by owed (histories.see (on (Some l) s)) l p file).acts
    by None owes = each_answer l s (subst OwesNothing (sym is) owes)
    by (Some tick) owes = k.tells l p tick s is owes

  pub each_turn : (l : Option Link) (s : Session) → R (on l s) (outcome_at (histories.see (on l s)) l (Turn file)).acts
  each_turn None s = k.nothing (on None s)
  each_turn (Some l) s = each_program l s.now.debuggee.program s refl

-- ---- an event

-- what has to be shown of what an event does: of a turn as a whole, and of a slice that it does nothing by itself
pub record ByEvent (seen : Seen) (link : Option Link) (P : Event → Outcome → Type 0) : Type 0 where
  pub refuses : (e : Event) (why : EventError) → P e (refused why)
  pub opens : P Connect (done (Connected (seen.now.connections + 1)) (Open ∷ []))
  pub accepts : (piece : List ℕ) → P (Recv piece) (done Received (Accept piece ∷ []))
  pub turns : (file : Option (List ℕ)) → P (Turn file) (outcome_at seen link (Turn file))
  pub slices : (n : ℕ) → P (Slice n) (done Held [])
  pub holds : P Hold (done Held (holding seen.now))
  pub takes : (n : ℕ) → P (Sent n) (done DidSend (Take n ∷ []))
  pub drops : (l : Link) → link ≡ Some l → P DropConnection (done Dropped (leaving seen.now))

pub by_event : (seen : Seen) (link : Option Link) (P : Event → Outcome → Type 0) → ByEvent seen link P → (e : Event)
    → P e (outcome_at seen link e)
by_event seen None P h Connect =
    if_keeps (P Connect) (eqb seen.now.connections LAST_CONNECTION) _ _ (λ _. h.refuses Connect error.Spent) (λ _. h.opens)
by_event seen None P h (Turn file) = h.turns file
by_event seen None P h (Slice n) = h.slices n
by_event seen None P h Hold = h.holds
by_event seen (Some l) P h Connect = h.refuses Connect error.AlreadyConnected
by_event seen (Some l) P h (Recv piece) =
    if_keeps (P (Recv piece)) l.is_closing _ _ (λ _. h.refuses (Recv piece) error.Closing)
    (λ _. if_keeps (P (Recv piece)) (ltb MOST_PIECE (length piece)) _ _ (λ _. h.refuses (Recv piece) error.PieceTooLong)
    (λ _. if_keeps (P (Recv piece)) (leb MOST_PENDING (length seen.now.arrivals.pending)) _ _ (λ _. h.refuses (Recv piece) error.Busy)
    (λ _. h.accepts piece)))
by_event seen (Some l) P h (Turn file) = h.turns file
by_event seen (Some l) P h (Slice n) = h.slices n
by_event seen (Some l) P h Hold = h.holds
by_event seen (Some l) P h (Sent n) =
    if_keeps (P (Sent n)) (ltb seen.waits n) _ _ (λ _. h.refuses (Sent n) error.SentTooMuch) (λ _. h.takes n)
by_event seen (Some l) P h DropConnection = h.drops l refl
by_event seen None P h e = h.refuses e error.NotConnected

-- what it leaves, which a slice does beat by beat
pub by_effect : (s : Session) (P : Event → Session → Type 0) → ByEvent (histories.see s) s.now.link (λ e o. P e (performed histories o.acts s))
    → ((n : ℕ) → P (Slice n) (sliced histories n s).state) → (e : Event) → P e (Effect s e)
by_effect s P h slice (Slice n) = slice n
by_effect s P h slice e = by_event (histories.see s) s.now.link (λ e o. P e (performed histories o.acts s)) h e
