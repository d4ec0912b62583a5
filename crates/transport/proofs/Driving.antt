-- Round by round over a wire, until driving ends.
use Rattle.transport.proofs.Common.{[], after_round, after_rounds, Answer, answered, ap, append-nil, append_assoc, Appends-nil, Appends-trans, AreRounds, arith, Bool, CallFailed, Cause, Closed, Consumes-nil, Consumes-trans, counted, Did, done, DriveEnd, Driving, drop, DropConnection, DroveFor, due, Due, due_in, Effect, end_of, Err, Event, EventError, events_by, events_in, events_of, failed_by, Fault, GoesOn, Happens, HasBegun, held_after, histories, holds, idle_after, idle_after_rounds, idle_by, IfOk, InputEnded, is_finished, is_held, IsAtEnd, IsCause, IsGiven, IsLeaving, IsRound, Kept, Known, known, KnownEvents, KnownReads, Leave, Leaves, length, length-append, length-take-le, Line, List, MayCome, MayFail, Moved, moves_granted, nat_tests, NoAnswer, NoMemory as OutOfMemory, OfEach, Ok, one_more, Option, Passed, PieceLost, Ran, read_for, reads, reads_in, received, received_in, Records, Recv, refl, Result, Round, Run, see_kept, Send, Sent, sent, sent_in, Session, since_round, since_rounds, Slice, Sliced, Stands, Stops, subst, sym, take, take-append-drop, TimeCut, true, Turn, Turns, turns_of, TurnsMade, unused_by, waits_after_rounds, waits_at, waits_by, wanted, wanted_on, Went, ℕ, ◌++◌, ◌+◌, ◌<◌, ◌∙◌, ◌∷◌, ◌≡◌, ◌≤◌}
use Rattle.session.specs.declared.event.Applied.TheVariants as applied
use Rattle.session.specs.declared.event.SliceEnd.TheVariants as ending
use Rattle.session.specs.declared.event.EventError.TheVariants.{NoMemory}
use Rattle.session.specs.declared.event.Turned.{Turned}
use Rattle.session.specs.Acts.{Seen}
use Rattle.transport.specs.Drives.{lost_by, written_by}
use Rattle.transport.specs.Private.Rounds.{Took}
use Rattle.transport.specs.Private.Told.{told_by, told_of_piece}
use Rattle.transport.proofs.FileReads.{Records-nil, Records-trans, unused}
use Rattle.transport.proofs.RoundLemmas.{happened, goes}
use Rattle.transport.proofs.Taking.{some_wait, takes_sent, takes_turn, takes_piece}

-- ---- what moved over a wire

-- nothing moved
pub still : (a : Line) → Moved a a [] [] a.faults a.idle
still a = record { consumed = Consumes-nil a.remaining; appended = Appends-nil a.contents; faults = refl; idle = refl; polls = refl }

-- first these bytes, and then those
moved-trans : (a b c : Line) (read read' written written' : List ℕ) (f f' i i' : ℕ) → Moved a b read written f i
    → Moved b c read' written' f' i' → Moved a c (read ++ read') (written ++ written') f' i'
moved-trans a b c read read' written written' f f' i i' m n = grind (arith, Consumes-trans, Appends-trans)

-- ---- one round

-- bytes were sent
pub sends_over : {X : Type 0} {past : KnownReads} {t u : KnownEvents} {since : ℕ} {old new : Line} {k kept : Kept} {r : Result X EventError}
    (n : ℕ) (waiting : List ℕ) → waiting ≡ k.waiting → due (see_kept k) ≡ Send → Happens k (Sent n) (answered (λ _. applied.Sent) r) kept
    → (r ≡ Err NoMemory → ⊥) → n ≤ length waiting → (0 < length waiting → 1 ≤ n) → Moved old new [] (take n waiting) old.faults old.idle
    → Records t u (Sent n ∷ []) → (s : Session) → Stands k s → GoesOn (known past t) (known past u) since since old new s kept
sends_over {past = past} {r = r} n waiting w d h ok most some m told s st =
    let same : waiting ≡ s.waiting = w ∙ ap (λ (x : Kept). x.waiting) st in
    let few = rw same at most in record {
      round = Did (Sent n);
      is_round = ((rw st at d, some (rw same (some_wait (histories.see s) (rw st at d))), few), takes_sent (histories.see s) n few);
      counts = refl;
      moved = rw same at m;
      files = Records-nil past;
      told = told;
      stands = happened (λ _. applied.Sent) r s (λ x. refl) h ok st;
    }

-- an event that found memory is told
all_told : {X : Type 0} (e : Event) (r : Result X EventError) → (r ≡ Err NoMemory → ⊥) → told_by e r ≡ e ∷ []
all_told e r ok = grind arith

-- a request was answered
pub answers_over : {before after : KnownReads} {since : ℕ} {kept : Kept} (t u : KnownEvents) (line : Line) (k : Kept)
    (file : Option (List ℕ)) (r : Result Turned EventError) → due (see_kept k) ≡ Answer → IsGiven (wanted_on k.now k.now.link) file
    → Records before after (read_for (wanted_on k.now k.now.link) file) → Happens k (Turn file) (answered applied.Turn r) kept
    → (r ≡ Err NoMemory → ⊥) → Records t u (told_by (Turn file) r) → (s : Session) → Stands k s
    → GoesOn (known before t) (known after u) since since line line s kept
answers_over t u line k file r d given made h ok told s st = record {
  round = Did (Turn file);
  is_round = ((rw st at d, rw st at given), takes_turn (histories.see s) file);
  counts = refl;
  moved = still line;
  files = rw st at made;
  told = rw (all_told (Turn file) r ok) at told;
  stands = happened applied.Turn r s (λ x. refl) h ok st;
}

-- no memory was left to read what an answer wants
pub reads_none : {before after : KnownReads} (t : KnownEvents) (line : Line) (k : Kept) → due (see_kept k) ≡ Answer
    → Records before after [] → (s : Session) → Stands k s → Stops (known before t) (known after t) OutOfMemory line line s k
reads_none t line k d none s st = record {
  cause = NoAnswer [];
  moved = still line;
  files = none;
  told = Records-nil t;
  is_end = refl;
  is_cause = λ turns made. (rw st at d, tt);
  leaves = st;
}

-- no memory was left to answer, with this file
pub answers_none : {before after : KnownReads} (t u : KnownEvents) (line : Line) (k : Kept) (file : Option (List ℕ))
    (r : Result Turned EventError) (error : EventError) → due (see_kept k) ≡ Answer → IsGiven (wanted_on k.now k.now.link) file
    → Records before after (read_for (wanted_on k.now k.now.link) file) → r ≡ Err error → error ≡ NoMemory
    → Records t u (told_by (Turn file) r) → (s : Session) → Stands k s
    → Stops (known before t) (known after u) OutOfMemory line line s k
answers_none t u line k file r error d given made is missing told s st = record {
  cause = NoAnswer (read_for (wanted s) file);
  moved = still line;
  files = rw st at made;
  told = rw (is, missing) at told;
  is_end = refl;
  is_cause = λ turns made. (rw st at d, unused (wanted s) file (rw st at given));
  leaves = st;
}

-- ---- slices of a program

-- the program made moves, and is held, or not
pub runs_over : {past : KnownReads} {t u : KnownEvents} {since next : ℕ} {polls : Bool} {old new : Line} {k mid kept : Kept} (r : Sliced)
    → Passed polls old new → due (see_kept k) ≡ Run → Happens k (Slice moves_granted) (Ok (applied.Slice r)) mid
    → (r.ending ≡ ending.NoMemory → ⊥)
    → next ≡ counted (since + r.moved) → OfEach mid (λ t. Stands kept (held_after (is_held polls (since + r.moved)) t))
    → Records t u (Slice moves_granted ∷ holds (is_held polls (since + r.moved))) → (s : Session) → Stands k s
    → GoesOn (known past t) (known past u) since next old new s kept
runs_over {past = past} {since = since} {polls = polls} r p d h ok c held told s st =
    let g = goes moves_granted r s ok h st in record {
      round = Ran (is_held polls (since + r.moved));
      is_round = (rw st at d, rw (p.0, g.0) refl);
      counts = rw g.0 (sym c);
      moved = rw (← p.0) at p.1;
      files = Records-nil past;
      told = told;
      stands = held (Effect s (Slice moves_granted)) g.1;
    }

-- no memory was left to tell what it did
pub time_is_cut : {past : KnownReads} {polls : Bool} {old new : Line} {k mid : Kept} (t : KnownEvents) (r : Sliced) → Passed polls old new
    → due (see_kept k) ≡ Run → Happens k (Slice moves_granted) (Ok (applied.Slice r)) mid → r.ending ≡ ending.NoMemory
    → (s : Session) → Stands k s → Stops (known past t) (known past t) OutOfMemory old new s mid
time_is_cut {past = past} t r p d h out s st = record {
  cause = TimeCut;
  moved = rw (← p.0) at p.1;
  files = Records-nil past;
  told = Records-nil t;
  is_end = refl;
  is_cause = λ turns made. rw st at d;
  leaves = (r.moved, rw out at (h.to_each s st));
}

-- ---- a piece

-- what a look or a wait gave, of what there is room for: it was taken, or no memory was left for it
pub bytes_came : (past : KnownReads) (t u : KnownEvents) (since : ℕ) (old new : Line) (k kept : Kept) (room : List ℕ) (n : ℕ)
    (result : Result ℕ DriveEnd) → MayCome old.polls (due (see_kept k)) → 1 ≤ n → n ≤ length room → length room ≤ 65536
    → Moved old new (take n room) [] old.faults old.idle
    → OfEach k (λ s. Took result (take n room) s kept) → IfOk result (λ n. n ≡ 0)
    → Records t u (told_of_piece (take n room) result) → (s : Session) → Stands k s
    → Went (known past t) (known past u) since result old new s kept
bytes_came past t u since old new k kept room n (Ok next) may some few most m took none told s st = record {
  round = Did (Recv (take n room));
  is_round = (
    (rw st at may, rw (length-take-le n room few) some),
    takes_piece old.polls (histories.see s) (take n room) (rw st at may) (rw (length-take-le n room few) (omega arith)),
  );
  counts = sym none;
  moved = m;
  files = Records-nil past;
  told = told;
  stands = took s st;
}
bytes_came past t u since old new k kept room n (Err end) may some few most m took none told s st = record {
  cause = PieceLost (take n room);
  moved = m;
  files = Records-nil past;
  told = told;
  is_end = sym (took s st).0;
  is_cause = λ turns made. (rw st at may, rw (length-take-le n room few) some);
  leaves = (took s st).1;
}

-- ---- the connection ends, and driving with it

may_fail : (polls : Bool) (d : Due) (waiting : List ℕ) → MayCome polls d → MayFail polls d waiting []
may_fail polls d waiting may = grind arith

pub leave_due : (seen : Seen) → seen.waits ≡ 0 → is_finished seen ≡ true → due seen ≡ Leave
leave_due seen none done = grind (arith, nat_tests)

-- what such a cause leaves of the session, and what is told of it
gone_by : (cause : Cause) (s : Session) (kept : Kept) → IsLeaving (end_of cause)
    → (unused_by cause ≡ []) × (events_by cause ≡ DropConnection ∷ []) × (Stands kept (Effect s DropConnection) → Leaves cause s kept)
gone_by cause s kept gone = grind arith

module _ {past : KnownReads} {t u : KnownEvents} {old new : Line} {k kept : Kept}
    (dropped : OfEach k (λ s. Stands kept (Effect s DropConnection))) (told : Records t u (DropConnection ∷ [])) where
  -- driving ends for such a cause
  pub leaves_by : (cause : Cause) → IsLeaving (end_of cause)
      → Moved old new (lost_by cause) (written_by cause) (failed_by cause old.faults) (idle_by old.polls cause old.idle)
      → OfEach k (λ s. (turns made : ℕ) → IsCause old.polls cause new.remaining turns made s)
      → (s : Session) → Stands k s → Stops (known past t) (known past u) (end_of cause) old new s kept
  leaves_by cause gone m is s st =
      let g = gone_by cause s kept gone in record {
        cause = cause;
        moved = m;
        files = rw g.0 (Records-nil past);
        told = rw g.1 told;
        is_end = refl;
        is_cause = is s st;
        leaves = g.2 (dropped s st);
      }

  -- no more will come
  pub input_ended : MayCome old.polls (due (see_kept k)) → Moved old new [] [] old.faults old.idle → IsAtEnd new.remaining
      → (s : Session) → Stands k s → Stops (known past t) (known past u) Closed old new s kept
  input_ended may m at_end = leaves_by InputEnded tt m (λ s st turns made. (rw st at may, at_end))

  -- a look or a wait failed
  pub comes_fail : MayCome old.polls (due (see_kept k)) → Moved old new [] [] (one_more old.faults) old.idle
      → (s : Session) → Stands k s → Stops (known past t) (known past u) Fault old new s kept
  comes_fail may m = leaves_by (CallFailed []) tt m (λ s st turns made. may_fail old.polls (due_in s) s.waiting (rw st at may))

  -- what was sent failed, after the wire took some bytes
  pub sends_fail : (waiting : List ℕ) → waiting ≡ k.waiting → due (see_kept k) ≡ Send
      → (n : ℕ) × Moved old new [] (take n waiting) (one_more old.faults) old.idle
      → (s : Session) → Stands k s → Stops (known past t) (known past u) Fault old new s kept
  sends_fail waiting w d m = leaves_by (CallFailed (take m.0 waiting)) tt m.1
      (λ s st turns made. subst (λ (x : Due). MayFail old.polls x s.waiting (take m.0 waiting)) (sym (rw st at d))
      (drop m.0 waiting, rw take-append-drop (sym (w ∙ ap (λ (x : Kept). x.waiting) st))))

-- ---- rounds after rounds

-- what one round more comes to, after the others
record OneMore (polls : Bool) (since idle waits : ℕ) (s : Session) (xs : List Round) (x : Round) : Type 0 where
  left : after_rounds s (xs ++ x ∷ []) ≡ after_round (after_rounds s xs) x
  are : AreRounds polls since s xs → IsRound polls (since_rounds since s xs) (after_rounds s xs) x → AreRounds polls since s (xs ++ x ∷ [])
  moves : since_rounds since s (xs ++ x ∷ []) ≡ since_round (since_rounds since s xs) (after_rounds s xs) x
  looks : idle_after_rounds polls idle (xs ++ x ∷ []) ≡ idle_after polls (idle_after_rounds polls idle xs) x
  waited : waits_after_rounds waits s (xs ++ x ∷ []) ≡ waits_at (due_in (after_rounds s xs)) (waits_after_rounds waits s xs)
  came : received (xs ++ x ∷ []) ≡ received xs ++ received_in x
  went : sent s (xs ++ x ∷ []) ≡ sent s xs ++ sent_in (after_rounds s xs) x
  read : reads s (xs ++ x ∷ []) ≡ reads s xs ++ reads_in (after_rounds s xs) x
  told : events_of (xs ++ x ∷ []) ≡ events_of xs ++ events_in x

one_round_more : (polls : Bool) (since idle waits : ℕ) (s : Session) (xs : List Round) (x : Round) → OneMore polls since idle waits s xs x
one_round_more polls since idle waits s [] x = grind (arith, append-nil)
one_round_more polls since idle waits s (y ∷ xs) x =
    let m = one_round_more polls (since_round since s y) (idle_after polls idle y) (waits_at (due_in s) waits) (after_round s y) xs x in
    grind (arith, append_assoc, m)

-- ---- the loop

-- what ends a turn is no cause of before it, nor one of the last: it takes a turn of its own
in_its_turn : (polls : Bool) (cause : Cause) (left : Option (List ℕ)) (s : Session) (n : ℕ) (d : Due) (waits : ℕ)
    → ((turns made : ℕ) → IsCause polls cause left turns made s)
    → HasBegun cause × (turns_of cause n ≡ n + 1) × (waits_by cause d waits ≡ waits_at d waits)
in_its_turn polls cause left s n d waits h = grind (arith, h 0 1)

-- one turn more, after which the wire has counted a wait where only a piece was to be received
module _ {f g h : Known} {a b c : Line} {made since : ℕ} {s : Session} {k new : Kept} (v : Driving f g a b made since s k)
    (waited : c.waits ≡ waits_at (due (see_kept k)) b.waits) where
  -- the turn made a round
  pub goes_on : {next : ℕ} → OfEach k (λ t. GoesOn g h since next b c t new) → Driving f h a c (made + 1) next s new
  goes_on went =
      let w = went (after_rounds s v.rounds) v.stands in
      let m = one_round_more a.polls 0 a.idle a.waits s v.rounds w.round in record {
        rounds = v.rounds ++ w.round ∷ [];
        are_rounds = m.are v.are_rounds (rw (v.counts, ← v.moved.polls) w.is_round);
        count = rw (length-append, v.count);
        counts = rw (m.moves, v.counts) w.counts;
        moved = rw (m.came, m.went, m.looks)
            (rw (v.moved.faults, v.moved.idle, v.moved.polls) at (moved-trans a b c _ _ _ _ _ _ _ _ v.moved w.moved));
        waits = rw m.waited (rw (v.stands, v.waits) at waited);
        files = rw m.read (Records-trans f.reads g.reads h.reads _ _ v.files w.files);
        told = rw m.told (Records-trans f.told g.told h.told _ _ v.told w.told);
        stands = rw m.left w.stands;
      }

  -- it ended driving
  pub ends : {end : DriveEnd} (turns : ℕ) → made < turns → OfEach k (λ t. Stops g h end b c t new)
      → DroveFor f h a c turns (made + 1) s new end
  ends turns few stops =
      let t = after_rounds s v.rounds in
      let w = stops t v.stands in
      let waits = waits_after_rounds a.waits s v.rounds in
      let turn = in_its_turn b.polls w.cause c.remaining t (length v.rounds) (due_in t) waits w.is_cause in
      let counts : turns_of w.cause (length v.rounds) ≡ made + 1 = turn.1 ∙ ap (λ n. n + 1) v.count in record {
        rounds = v.rounds;
        cause = w.cause;
        drove = record {
          are_rounds = v.are_rounds;
          few = rw counts (omega arith);
          moved = rw (v.moved.faults, v.moved.idle, v.moved.polls) at (moved-trans a b c _ _ _ _ _ _ _ _ v.moved w.moved);
          waits = (rw (v.stands, v.waits) at waited) ∙ sym turn.2;
          is_cause = rw (← v.moved.polls) (w.is_cause turns (length v.rounds));
        };
        files = Records-trans f.reads g.reads h.reads _ _ v.files w.files;
        told = Records-trans f.told g.told h.told _ _ v.told w.told;
        is_end = w.is_end;
        leaves = w.leaves;
        began = turn.0;
        counts = counts;
      }

-- all turns were made
pub stops_driving : {f g : Known} {a b : Line} {made since : ℕ} {s : Session} {k : Kept} (turns : ℕ) → made ≡ turns
    → Driving f g a b made since s k → DroveFor f g a b turns turns s k Turns
stops_driving turns all v = record {
  rounds = v.rounds;
  cause = TurnsMade;
  drove = record {
    are_rounds = v.are_rounds;
    few = omega (arith, v.count);
    moved = simp append-nil v.moved;
    waits = v.waits;
    is_cause = v.count ∙ all;
  };
  files = rw append-nil v.files;
  told = rw append-nil v.told;
  is_end = refl;
  leaves = v.stands;
  began = tt;
  counts = v.count ∙ all;
}
