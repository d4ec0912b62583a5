-- Lemmas on serving: one iteration after the other, until serving ends.
use Rattle.transport.proofs.Common.{[], after_rounds, ap, append-nil, append_assoc, arith, Bool, Cause, Closed, Connect, DriveEnd, DropConnection, DroveFor, Effect, end_of, Err, EventError, events_by, events_of, Fault, Happens, HasBegun, holds, is_runnable, IsErr, IsOk, Kept, Known, known, KnownEvents, KnownReads, Leaves, Line, List, moves_granted, NoMemory as OutOfMemory, OfEach, Ok, one_more, Option, Records, refl, Session, Slice, Sliced, Stands, sym, TimeCut, true, Turns, ℕ, ◌++◌, ◌+◌, ◌-◌, ◌<◌, ◌∙◌, ◌∷◌, ◌≡◌, ◌⊎◌}
use Rattle.session.specs.declared.event.Applied.TheVariants as applied
use Rattle.session.specs.declared.event.SliceEnd.TheVariants as ending
use Rattle.session.specs.declared.event.EventError.TheVariants.{NoMemory}
use Rattle.session.specs.Sessions.{Answer as answer_of}
use Rattle.wires.specs.Doors.{Doorway, Opened}
use Rattle.transport.specs.Serving.{Iteration, Unattended, Connection, HasLeft, IsCut, IsIteration, turns_in, after_iteration, lines_in, reads_within, idle_in, AreIterations, turns_taken, after_iterations, lines_of, lines_by, reads_of, reads_at, events_within, events_of_all, events_at, end_by, idle_after_iterations, waits_while, waits_after_iterations, waits_until, AllMade, UnattendedCut, ConnectionCut, Why, failed_at, idle_at, IsWhy, LeavesBy, LeavesCut, ServedTold}
use Rattle.transport.specs.Private.Serving.{Iterated, Ended, ServedSoFar}
use Rattle.transport.proofs.FileReads.{Records-nil, Records-trans}
use Rattle.transport.proofs.RoundLemmas.{goes}

-- ---- the wires that a door gave

pub opened-refl : (a : Doorway) → Opened a a [] a.faults a.idle
opened-refl a = grind arith

opened-trans : (a b c : Doorway) (xs ys : List Line) (f f' i i' : ℕ) → Opened a b xs f i → Opened b c ys f' i' → Opened a c (xs ++ ys) f' i'
opened-trans a b c xs ys f f' i i' m n = grind (arith, append_assoc)

-- ---- a program that runs while no editor is connected

-- a slice in which the program made moves
pub stays_unattended : {past : KnownReads} {t u : KnownEvents} {left : ℕ} {old new : Doorway} {k mid : Kept} (r : Sliced)
    → is_runnable k.now ≡ true → Happens k (Slice moves_granted) (Ok (applied.Slice r)) mid → (r.ending ≡ ending.NoMemory → ⊥)
    → Opened old new [] old.faults (one_more old.idle) → Records t u (Slice moves_granted ∷ []) → (s : Session) → Stands k s
    → Iterated (known past t) (known past u) left 1 old new s mid
stays_unattended {past = past} r runs h ok m told s st = record {
  iteration = Unattended;
  is_iteration = rw st at runs;
  counts = refl;
  opened = m;
  files = Records-nil past;
  told = told;
  stands = (goes moves_granted r s ok h st).1;
}

-- a slice in which no memory was left to tell what the program did
pub unattended_is_cut : {past : KnownReads} {left : ℕ} {old new : Doorway} {k mid : Kept} (t : KnownEvents) (r : Sliced)
    → is_runnable k.now ≡ true → Happens k (Slice moves_granted) (Ok (applied.Slice r)) mid → r.ending ≡ ending.NoMemory
    → Opened old new [] old.faults (one_more old.idle) → (s : Session) → Stands k s
    → Ended (known past t) (known past t) left OutOfMemory old new s mid
unattended_is_cut {past = past} t r runs h out m s st = record {
  why = UnattendedCut;
  opened = m;
  files = Records-nil past;
  told = Records-nil t;
  is_end = refl;
  is_why = λ taken. rw st at runs;
  leaves = (r.moved, rw out at (h.to_each s st));
}

-- ---- the door

-- serving ends where no editor is connected, and nothing has happened
pub ends_idle : {past : Known} {left : ℕ} {old new : Doorway} {k : Kept} (why : Why)
    → ((s : Session) → (reads_at s why ≡ []) × (events_at why ≡ []) × (Stands k s → LeavesBy why s k))
    → Opened old new (lines_by why) (failed_at why old.faults) (idle_at why old.idle)
    → OfEach k (λ s. (taken : ℕ) → IsWhy why new.wires left taken s)
    → (s : Session) → Stands k s → Ended past past left (end_by why) old new s k
ends_idle {past = past} why idle m is s st = record {
  why = why;
  opened = m;
  files = rw (idle s).0 (Records-nil past.reads);
  told = rw (idle s).1 (Records-nil past.told);
  is_end = refl;
  is_why = is s st;
  leaves = (idle s).2 st;
}

-- ---- a connection that was accepted

-- the session connects the editor whose wire was accepted
connects : {k mid : Kept} {n : ℕ} → Happens k Connect (Ok (applied.Connect n)) mid → (s : Session) → Stands k s
    → IsOk (answer_of s Connect) × Stands mid (Effect s Connect)
connects h s st = let x = h.to_each s st in (rw x.0 refl, x.1)

-- it refuses to
pub refuses : {k mid : Kept} (error : EventError) → (error ≡ NoMemory → ⊥) → Happens k Connect (Err error) mid → (s : Session) → Stands k s
    → IsErr (answer_of s Connect)
refuses NoMemory n h s st = absurd (n refl)
refuses _ n h s st = rw (h.to_each s st).0 refl

-- a connection that has ended is not ended again
dropped_twice : (s : Session) → Effect (Effect s DropConnection) DropConnection ≡ Effect s DropConnection
dropped_twice s = grind arith

-- driving ended with the connection
left_by : (cause : Cause) (t : Session) (kept : Kept) → (end_of cause ≡ Closed) ⊎ (end_of cause ≡ Fault) → Leaves cause t kept
    → HasLeft cause × Stands kept (Effect t DropConnection)
left_by cause t kept gone l = grind arith

-- turns or memory ended driving, and then the connection is ended
cut_by : (cause : Cause) (t : Session) (mid kept : Kept) → HasBegun cause → (end_of cause ≡ Closed → ⊥) → (end_of cause ≡ Fault → ⊥)
    → Leaves cause t mid → OfEach mid (λ u. Stands kept (Effect u DropConnection)) → IsCut cause × LeavesCut cause t kept
cut_by TimeCut t mid kept began not_closed not_failed l d =
    (tt, (l.0, record { count = l.1.count; goes_on = l.1.goes_on; moves = l.1.moves; lacks = l.1.lacks; holds = d _ l.1.holds }))
cut_by cause t mid kept began not_closed not_failed l d = grind (arith, d t, d (Effect t DropConnection), dropped_twice t)

module _ {f g : Known} {t : KnownEvents} {left n taken : ℕ} {old new : Doorway} {a b : Line} {k mid driven : Kept} {end : DriveEnd}
    (h : Happens k Connect (Ok (applied.Connect n)) mid) (drove : OfEach mid (λ s. DroveFor f g a b (left - 1) taken s driven end))
    (told : Records t f.told (Connect ∷ [])) (m : Opened old new (a ∷ []) old.faults old.idle) (s : Session) (st : Stands k s) where
  -- the connection ended, and serving continues
  pub is_connection : (end ≡ Closed) ⊎ (end ≡ Fault) → Iterated (known f.reads t) g left (taken + 1) old new s driven
  is_connection gone =
      let c = connects h s st in
      let v = drove (Effect s Connect) c.1 in
      let has = left_by v.cause (after_rounds (Effect s Connect) v.rounds) driven (rw v.is_end gone) v.leaves in record {
        iteration = Connection a b v.rounds v.cause;
        is_iteration = (record { connects = c.0; drove = v.drove }, has.0);
        counts = ap (λ n. n + 1) v.counts;
        opened = m;
        files = v.files;
        told = Records-trans t f.told g.told (Connect ∷ []) (events_of v.rounds ++ events_by v.cause) told v.told;
        stands = has.1;
      }

  -- turns or memory end the connection, and serving with it
  pub is_cut : {u : KnownEvents} {kept : Kept} → (end ≡ Closed → ⊥) → (end ≡ Fault → ⊥)
      → OfEach driven (λ u. Stands kept (Effect u DropConnection)) → Records g.told u (DropConnection ∷ [])
      → Ended (known f.reads t) (known g.reads u) left end old new s kept
  is_cut {u = u} {kept = kept} not_closed not_failed dropped gone =
      let c = connects h s st in
      let v = drove (Effect s Connect) c.1 in
      let cut = cut_by v.cause (after_rounds (Effect s Connect) v.rounds) driven kept v.began (rw v.is_end not_closed)
      (rw v.is_end not_failed) v.leaves dropped in
      let events = events_of v.rounds ++ events_by v.cause in record {
        why = ConnectionCut a b v.rounds v.cause;
        opened = m;
        files = v.files;
        told =
            Records-trans t g.told u (Connect ∷ events) (DropConnection ∷ [])
            (Records-trans t f.told g.told (Connect ∷ []) events told v.told) gone;
        is_end = v.is_end;
        is_why = λ taken. (record { connects = c.0; drove = v.drove }, cut.0);
        leaves = cut.1;
      }

-- ---- iterations after iterations

-- what one iteration more comes to, after the others
record OneMore (turns idle waits : ℕ) (s : Session) (xs : List Iteration) (x : Iteration) : Type 0 where
  left : after_iterations s (xs ++ x ∷ []) ≡ after_iteration (after_iterations s xs) x
  are : AreIterations turns s xs → IsIteration (turns - turns_taken xs) (after_iterations s xs) x → AreIterations turns s (xs ++ x ∷ [])
  taken : turns_taken (xs ++ x ∷ []) ≡ turns_taken xs + turns_in x
  looks : idle_after_iterations idle (xs ++ x ∷ []) ≡ idle_in (idle_after_iterations idle xs) x
  waited : waits_after_iterations waits s (xs ++ x ∷ [])
      ≡ waits_while (is_runnable (after_iterations s xs).now) (waits_after_iterations waits s xs)
  came : lines_of (xs ++ x ∷ []) ≡ lines_of xs ++ lines_in x
  read : reads_of s (xs ++ x ∷ []) ≡ reads_of s xs ++ reads_within (after_iterations s xs) x
  told : events_of_all (xs ++ x ∷ []) ≡ events_of_all xs ++ events_within x

one_iteration_more : (turns idle waits : ℕ) (s : Session) (xs : List Iteration) (x : Iteration) → OneMore turns idle waits s xs x
one_iteration_more turns idle waits s [] x =
    let all : turns - 0 ≡ turns = omega arith in grind (arith, append-nil, all)
one_iteration_more turns idle waits s (y ∷ xs) x =
    let m = one_iteration_more (turns - turns_in y) (idle_in idle y) (waits_while (is_runnable s.now) waits) (after_iteration s y) xs x in
    let less : turns - (turns_in y + turns_taken xs) ≡ (turns - turns_in y) - turns_taken xs = omega arith in
    grind (arith, append_assoc, m, less)

-- ---- the loop

-- what ends serving in a call of the door is no reason of before it, nor that of the last turn
by_a_call : (why : Why) (wires : Option (List Line)) (left : ℕ) (s : Session) (runs : Bool) (waits : ℕ) → 0 < left
    → ((taken : ℕ) → IsWhy why wires left taken s) → waits_until why runs waits ≡ waits_while runs waits
by_a_call why wires left s runs waits some h = grind (arith, h 0, h 1)

-- one more pass of the loop, in which a call of the door waits where no program runs
module _ {f g h : Known} {a b c : Doorway} {turns taken : ℕ} {s : Session} {k new : Kept} (v : ServedSoFar f g a b turns taken s k)
    (waited : c.waits ≡ waits_while (is_runnable k.now) b.waits) where
  -- serving continues
  pub serving_continues : {count : ℕ} → OfEach k (λ t. Iterated g h (turns - taken) count b c t new)
      → ServedSoFar f h a c turns (taken + count) s new
  serving_continues pass =
      let w = pass (after_iterations s v.iterations) v.stands in
      let m = one_iteration_more turns a.idle a.waits s v.iterations w.iteration in record {
        iterations = v.iterations ++ w.iteration ∷ [];
        are_iterations = m.are v.are_iterations (rw v.count w.is_iteration);
        count = rw (m.taken, v.count, w.counts);
        opened = rw (m.came, m.looks) (rw (v.opened.faults, v.opened.idle) at (opened-trans a b c _ _ _ _ _ _ v.opened w.opened));
        waits = rw m.waited (rw (v.stands, v.waits) at waited);
        files = rw m.read (Records-trans f.reads g.reads h.reads _ _ v.files w.files);
        told = rw m.told (Records-trans f.told g.told h.told _ _ v.told w.told);
        stands = rw m.left w.stands;
      }

  -- serving ends
  pub serving_ends : {end : DriveEnd} → taken < turns → OfEach k (λ t. Ended g h (turns - taken) end b c t new)
      → ServedTold f h a c turns s new end
  serving_ends few ended =
      let t = after_iterations s v.iterations in
      let w = ended t v.stands in record {
        iterations = v.iterations;
        why = w.why;
        are_iterations = v.are_iterations;
        few = rw v.count (omega arith);
        opened = rw (v.opened.faults, v.opened.idle) at (opened-trans a b c _ _ _ _ _ _ v.opened w.opened);
        waits = (rw (v.stands, v.waits) at waited) ∙ sym (by_a_call w.why c.wires (turns - taken) t _ _ (omega arith) w.is_why);
        files = Records-trans f.reads g.reads h.reads _ _ v.files w.files;
        told = Records-trans f.told g.told h.told _ _ v.told w.told;
        is_end = w.is_end;
        is_why = rw v.count (w.is_why taken);
        leaves = w.leaves;
      }

-- all turns were taken
pub all_taken : {f g : Known} {a b : Doorway} {turns taken : ℕ} {s : Session} {k : Kept} → taken ≡ turns
    → ServedSoFar f g a b turns taken s k → ServedTold f g a b turns s k Turns
all_taken all v =
    let made = v.count ∙ all in record {
      iterations = v.iterations;
      why = AllMade;
      are_iterations = v.are_iterations;
      few = omega arith;
      opened = rw append-nil v.opened;
      waits = v.waits;
      files = rw append-nil v.files;
      told = rw append-nil v.told;
      is_end = refl;
      is_why = omega arith;
      leaves = v.stands;
    }
