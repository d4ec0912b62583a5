-- What a turn queues, and what the beats of a slice queue, where it makes no move, or one that comes first.
use Rattle.session_laws.proofs.Headline.Common.{[], after_answer, after_beat, All, answer_to, Answering, answering, ap, arith, as_running, beat, Beat, beat_by, beat_of, becomes, Bool, closing, concludes, cond, Effect, ended, Ended, ending_of, ends, entered, exit_events, false, FULL, goes_unless, HangUp, histories, is_runnable_by, is_running, IsFollowed, Link, List, logged, ltb, makes_move, map, Mark, Message, Met, moved, None, not, Numbers, on, on_with, Option, Outcome as CameTo, output_events, Pending, performed, performed_on, Program, program_of, refl, Response as IsResponse, response_to, Running, said_on, Seen, seen_now, Session, shown_of, sight, Sight, sight_by, SliceEnd, Snapshot, snapshot_of, Some, stop_event, stopped, Stopped, stops, subst, sym, Tell, tells, Tick, told, true, Turn, Went, Why, with_change, ℕ, ℤ, ◌++◌, ◌∙◌, ◌∷◌, ◌≡◌}
use mathlib.Core.Path.{fun_ext}
use Rattle.session.specs.declared.event.SliceEnd.TheVariants as ending
use Rattle.session_laws.proofs.Headline.Agreeing.{never, OwesOf, OwesRunning}
use Rattle.session_laws.proofs.Cases.{by_beat, each_turn, EachTurn, ends_with, enters_at, tells_tick}
use Rattle.session_laws.proofs.Headline.Owing.{exits_plain, one_plain, Plain}
use Rattle.session_laws.proofs.Headline.Beating.{entered_same}
use Rattle.session_laws.proofs.Headline.Leaving.{answer_is_mild}
use Rattle.session_laws.proofs.Headline.Newly.{acts_queued, acts_seen, becomes_show, ends_seen, EndsAt, FitsTo, followed, nothing_queued, output_shows, plain_show, Printed, printed_fits, printed_still, PrintsTo, Queued, queued_as, runs_seen, said_queued, said_snapshot, Shows}

abbrev seen_of : Session → Option Program → Sight
seen_of t program = sight_by program t.now.numbers

seen_is : (t : Session) (p : Program) → program_of t ≡ Some p → as_running (seen_now t) ≡ as_running (seen_of t (Some p))
seen_is t p is = ap (λ (program : Option Program). as_running (seen_of t program)) is

checked_same : (p : Program) (numbers : Numbers) → as_running (sight_by (Some p) numbers) ≡ as_running (sight_by (Some (entered p)) numbers)
checked_same p numbers =
    let same = entered_same p numbers numbers in
    let source = fun_ext same.source in
    let instructions = same.instructions in
    let functions = same.functions in
    λ i. record (sight_by (Some p) numbers) {
      facts =
          record (shown_of p numbers) { run = Running; source = source i; instructions = instructions i; functions = functions i };
    }

-- ---- a beat

-- What a beat leaves: all that was queued fits. Where the slice continues, that is what was printed, and what logpoints say.
pub record Follows (s t : Session) (b : Beat) : Type 0 where
  pub told : IsFollowed s (after_beat histories b t)
  pub printed : b.ending ≡ None → Printed s (after_beat histories b t)

goes_follow : (s t : Session) (b : Beat) → Printed s (after_beat histories b t) → Follows s t b
goes_follow s t b h =
    let u = after_beat histories b t in record { told = followed s u (printed_fits s u (seen_now u) refl h); printed = λ _. h }

-- a beat that ends the slice
ends_follow : (s t : Session) (b : Beat) (e : SliceEnd) (f : Sight) → b.ending ≡ Some e → Shows (FitsTo f) (EndsAt f) (snapshot_of t.now) b.acts
    → Queued (FitsTo f) s t → Follows s t b
ends_follow s t b e f is shows q = record {
  told = followed s (after_beat histories b t) (acts_seen FitsTo f b.acts s t shows q);
  printed = λ none. never e (sym none ∙ is);
}

stops_follow : (s t : Session) (p : Program) (reason : Why) → Queued (FitsTo (seen_of t (Some (stopped reason p)))) s t
    → Follows s t (stops t.now p reason)
stops_follow s t p reason q =
    ends_follow s t _ ending.Stopped (seen_of t (Some (stopped reason p))) refl (becomes_show (snapshot_of t.now) t.now (stopped reason p) (stop_event reason [] ∷ []) (one_plain _ refl)) q

rests_follow : (s t : Session) (e : SliceEnd) → Printed s t → Follows s t (ends e)
unfolding Shows
rests_follow s t e h = ends_follow s t (ends e) e (seen_now t) refl refl (printed_fits s t (seen_now t) refl h)

-- what can be seen once what is owed is told
abbrev after : Session → Program → Snapshot
after t p = record { debuggee = record t.now.debuggee { program = Some (told p) }; numbers = t.now.numbers }

-- what it comes to
abbrev concluding : Session → Program → Tick → CameTo → Beat
concluding t p tick o = record {
  acts = becomes t.now (told p) ∷ (tells t.now (output_events tick.printed (logged p.machine.lists))
      ++ concludes t.now (told p) o p.machine.lists.ids);
  moved = 0;
  ending = ending_of o;
}

-- what is owed is told
pub tells_follow : (s t : Session) (p : Program) (tick : Tick) → program_of t ≡ Some p → is_running p.run ≡ true → Printed s t
    → Follows s t (tells_tick t.now p tick)
unfolding Shows
tells_follow s t p tick is run h = by tick.outcome where
  by : (o : CameTo) → Follows s t (concluding t p tick o)
  by Went =
      let f = seen_of t (Some (told p)) in
      goes_follow s t (concluding t p tick Went) (acts_seen PrintsTo f (concluding t p tick Went).acts s t
      (output_shows (PrintsTo f) (EndsAt f) (after t p) t.now tick.printed (logged p.machine.lists) []
      (λ body. (refl, runs_seen (told p) t.now.numbers run)) refl)
      (printed_still s t f (seen_is t p is) h))
  by (Stopped reason) =
      let f = seen_of t (Some (stopped (Met reason) (told p))) in
      ends_follow s t (concluding t p tick (Stopped reason)) ending.Stopped f refl
      (output_shows (FitsTo f) (EndsAt f) (after t p) t.now tick.printed (logged p.machine.lists)
      (concludes t.now (told p) (Stopped reason) p.machine.lists.ids) (λ body. runs_seen (told p) t.now.numbers run)
      (becomes_show (after t p) t.now (stopped (Met reason) (told p)) (stop_event (Met reason) p.machine.lists.ids ∷ [])
      (one_plain _ refl)))
      (printed_fits s t f (seen_is t p is) h)
  by (Ended code) =
      let f = seen_of t (Some (ended (Some code) (told p))) in
      ends_follow s t (concluding t p tick (Ended code)) ending.Ended f refl
      (output_shows (FitsTo f) (EndsAt f) (after t p) t.now tick.printed (logged p.machine.lists)
      (concludes t.now (told p) (Ended code) p.machine.lists.ids) (λ body. runs_seen (told p) t.now.numbers run)
      (becomes_show (after t p) t.now (ended (Some code) (told p)) (exit_events code) (exits_plain code)))
      (printed_fits s t f (seen_is t p is) h)

-- the program ends
exits_follow : (s t : Session) (p : Program) (code : ℤ) → Queued (FitsTo (seen_of t (Some (ended (Some code) p)))) s t
    → Follows s t (ends_with t.now p code)
exits_follow s t p code q =
    ends_follow s t _ ending.Ended (seen_of t (Some (ended (Some code) p))) refl
    (becomes_show (snapshot_of t.now) t.now (ended (Some code) p) (exit_events code) (exits_plain code)) q

-- a beat, by what one that makes a move leaves
beat_follows : (s t : Session) (more : Bool) → OwesOf (program_of t) → Printed s t
    → ((p : Program) → more ≡ true → Follows s t (makes_move t.now p)) → Follows s t (beat (histories.see t) more)
unfolding Shows
beat_follows s t more owes h makes =
    by_beat (program_of t) (histories.see t) more (Follows s t) (λ _. rests_follow s t ending.Idle h) (λ p is. record {
      tells = λ tick e. tells_follow s t p tick is (subst OwesOf is owes (λ none. never tick (sym none ∙ e))) h;
      ends_for = λ e _ _. rests_follow s t e h;
      stops_for = λ reason _ _. stops_follow s t p reason (printed_fits s t _ (seen_is t p is) h);
      exits_with = λ code _ _ _. exits_follow s t p code (printed_fits s t _ (seen_is t p is) h);
      enters = λ _ _ _.
          let f = seen_of t (Some (entered p)) in
          goes_follow s t (enters_at t.now p)
          (acts_seen PrintsTo f (enters_at t.now p).acts s t refl (printed_still s t f (seen_is t p is ∙ checked_same p t.now.numbers) h));
      moves = λ _ _ _ some _. makes p some;
    })

-- of a slice that has no move to make
pub still_follows : (s t : Session) → OwesOf (program_of t) → Printed s t → Follows s t (beat (histories.see t) false)
still_follows s t owes h = beat_follows s t false owes h (λ p some. absurd (cc))

-- The first beat of a slice that may make a move, from where nothing is owed, ends the slice, or makes a move.
pub record Begins (s : Session) (b : Beat) : Type 0 where
  pub follows : Follows s s b
  pub moved : b.ending ≡ None → b.moved ≡ 1

-- it ends the slice, or makes a move, if it would end it for want of moves
abbrev Moves : Beat → Beat → Type 0
Moves still b = still ≡ ends ending.Spent → b.ending ≡ None → b.moved ≡ 1

either : (b : Bool) (x y z : Beat) → Moves x x → Moves y z → Moves (cond b x y) (cond b x z)
either true x y z f g = f
either false x y z f g = g

one_move : (owed : Option Tick) (seen : Seen) (p : Program) → Moves (beat_by owed seen p false) (beat_by owed seen p true)
one_move (Some tick) seen p = λ rest goes. never ending.Spent (sym goes ∙ ap (λ (b : Beat). b.ending) rest)
one_move None seen p =
    either (not (is_runnable_by seen.now.link p.run)) _ _ _ (λ _ e. absurd (cc))
    (either (ltb FULL seen.waits) _ _ _ (λ _ e. absurd (cc)) (by p.mark)) where
      by : (m : Option Mark) → Moves (goes_unless m seen.now p false) (goes_unless m seen.now p true)
      by (Some m) = λ rest e. absurd (cc)
      by None = either p.machine.check_due _ _ _ (λ rest _. never ending.Spent (ap (λ (b : Beat). b.ending) rest)) (λ _ e. grind arith)

moves_one : (program : Option Program) (seen : Seen) → beat_of program seen false ≡ ends ending.Spent
    → (beat_of program seen true).ending ≡ None → (beat_of program seen true).moved ≡ 1
moves_one None seen rest goes = absurd (cc)
moves_one (Some p) seen rest goes = one_move p.owed seen p rest goes

pub first_begins : (s : Session) → OwesOf (program_of s) → beat (histories.see s) false ≡ ends ending.Spent
    → Begins s (beat (histories.see s) true)
unfolding Shows
first_begins s owes rest = record {
  follows = beat_follows s s true owes (nothing_queued (PrintsTo (seen_now s)) s) (λ p _.
      let f = seen_of s (Some (moved p)) in
      goes_follow s s (makes_move s.now p) (acts_seen PrintsTo f (makes_move s.now p).acts s s refl (nothing_queued (PrintsTo f) s)));
  moved = moves_one (program_of s) (histories.see s) rest;
}

-- ---- an answer

answering_told : (l : Link) (p : Pending) (rest : List Pending) (s : Session) (a : Answering) → All Plain a.events
    → (let from = on_with (Some l) (p ∷ rest) s in IsFollowed from (performed histories (answering a) from))
answering_told l p rest s a plain =
    let from = on_with (Some l) (p ∷ rest) s in
    let ready = on_with (Some (record l { terms = a.terms })) (p ∷ rest) (with_change a s) in
    let m : Message = IsResponse (response_to p.ask a.outcome) in
    let replied = said_on ready.now.link m rest ready in
    let f = seen_now ready in
    let u = performed histories (map Tell a.events ++ closing a.closes) replied in
    let first = said_queued (FitsTo f) from ready.now.link m rest ready refl
    (queued_as (FitsTo f) from from ready refl refl refl refl (nothing_queued (FitsTo f) from)) in
    followed from u (ends_seen FitsTo f from u
    (after_answer (λ (t : Session). Queued (FitsTo f) from t × EndsAt f (snapshot_of t.now))
    (λ k t h. (queued_as (FitsTo f) from (on (Some k) t) (performed_on HangUp (on (Some k) t)) refl refl refl refl h.0, h.1))
    a.events a.closes replied (acts_queued (FitsTo f) (EndsAt f) (map Tell a.events) from replied
    (plain_show f a.events (snapshot_of replied.now) (ap sight (said_snapshot ready.now.link m rest ready)) plain) first)))

-- ---- a turn

turns_follow : (file : Option (List ℕ)) → EachTurn file (λ s acts. OwesOf (program_of s) → IsFollowed s (performed histories acts s))
turns_follow file = record {
  nothing = λ s _. followed s s (nothing_queued (FitsTo (seen_now s)) s);
  answers = λ l p rest s nothing _.
      let t = on_with (Some l) (p ∷ rest) s in
      answering_told l p rest s (answer_to t.now l.terms file p) (answer_is_mild t.now l.terms file p nothing).1;
  tells = λ l p tick s is e owes.
      let t = on (Some l) s in
      let runs : OwesRunning p = subst OwesOf is owes in
      (tells_follow t t p tick is (runs (λ none. never tick (sym none ∙ e))) (nothing_queued (PrintsTo (seen_now t)) t)).told;
}

pub turn_told : (s : Session) (file : Option (List ℕ)) → OwesOf (program_of s) → IsFollowed s (Effect s (Turn file))
turn_told s file =
    each_turn file (λ s acts. OwesOf (program_of s) → IsFollowed s (performed histories acts s)) (turns_follow file) s.now.link s
