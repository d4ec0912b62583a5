-- An event more of a connection that is watched.
use Rattle.watch_events.proofs.Common.{answered, ap, arith, Bool, Captured, drop, Effect, eqb, Err, Event, false, Happens, histories, is_current, IsAtRest, IsFollowed, IsReached, IsSeenAfter, IsSeenNow, Keeps, Kept, length, List, ltb, Message, None, Noted, NotedIf, Now, Ok, OnOk, Option, option_map, refl, Result, SameBut, says_output, SeenAfter, Session, Some, Stands, Steps, subst, sym, taken_at, Tracked, Tracks, true, with_piece, ℕ, ◌+◌, ◌-◌, ◌∙◌, ◌≡◌, ◌≤◌}
use Rattle.std.specs.declared.alloc.AllocError.{AllocError}
use Rattle.session.proofs.Enough.{each_ends}
use Rattle.session_laws.proofs.Joined.{Still, at_end, at_once, histories_follow, slices_join}
use Rattle.session.specs.Effects.{EndsWell, Slicing, ended_as, enough, ran_out_at, slice_answer, sliced}
use Rattle.session.specs.declared.event.Applied.{Applied}
use Rattle.session.specs.declared.event.Applied.TheVariants as applied
use Rattle.session.specs.declared.event.SliceEnd.{SliceEnd}
use Rattle.session.specs.declared.event.SliceEnd.TheVariants as ending
use Rattle.session.specs.declared.event.Event.TheVariants.{Connect, Recv, Turn, Slice, Hold, Sent, DropConnection}
use Rattle.session.specs.declared.event.EventError.{EventError}
use Rattle.session.specs.declared.event.EventError.TheVariants as error
use Rattle.session.specs.declared.event.Sliced.{Sliced}
use Rattle.session.specs.declared.event.Turned.{Turned}
use Rattle.watch_events.proofs.Events.{connect_keeps, drop_keeps, hold_keeps, reached_next, recv_keeps, refused_keeps, sent_keeps}
use Rattle.session_laws.proofs.Headline.Seen.{seen_after}
use Rattle.watch_events.proofs.Tracking.{noted_keeps, with_session}

-- ---- an event that is refused

pub passes : (old : Tracked) (k : Kept) (e : Event) (why : EventError) → (why ≡ error.NoMemory → ⊥) → Happens old.session e (Err why) k
    → (s : Session) → IsReached s → Tracks old s → Tracks (with_session old k) (Effect s e)
passes old k e error.NoMemory never h s r t = absurd (never refl)
passes old k e error.NotConnected never h s r t = let x = h.to_each s t.stands in refused_keeps old k s e error.NotConnected x.0 x.1 t
passes old k e error.AlreadyConnected never h s r t =
    let x = h.to_each s t.stands in refused_keeps old k s e error.AlreadyConnected x.0 x.1 t
passes old k e error.Busy never h s r t = let x = h.to_each s t.stands in refused_keeps old k s e error.Busy x.0 x.1 t
passes old k e error.SentTooMuch never h s r t = let x = h.to_each s t.stands in refused_keeps old k s e error.SentTooMuch x.0 x.1 t
passes old k e error.PieceTooLong never h s r t = let x = h.to_each s t.stands in refused_keeps old k s e error.PieceTooLong x.0 x.1 t
passes old k e error.Closing never h s r t = let x = h.to_each s t.stands in refused_keeps old k s e error.Closing x.0 x.1 t
passes old k e error.Spent never h s r t = let x = h.to_each s t.stands in refused_keeps old k s e error.Spent x.0 x.1 t

-- ---- each event

pub connects : (old : Tracked) (k : Kept) (number : ℕ) → Happens old.session Connect (Ok (applied.Connect number)) k → (s : Session)
    → IsReached s → Tracks old s → Tracks (record old { session = k; current = number }) (Effect s Connect)
connects old k number h s r t = let x = h.to_each s t.stands in connect_keeps old k s number x.0 x.1 t

pub receives : (old : Tracked) (k : Kept) (piece : List ℕ) → Happens old.session (Recv piece) (Ok applied.Recv) k → (s : Session)
    → IsReached s → Tracks old s → Tracks (with_piece (eqb old.current old.connection) piece (with_session old k)) (Effect s (Recv piece))
receives old k piece h s r t = let x = h.to_each s t.stands in recv_keeps old k s piece r x.0 x.1 t

pub holds : (old : Tracked) (k : Kept) → Happens old.session Hold (Ok applied.Hold) k → (s : Session) → IsReached s → Tracks old s
    → Tracks (with_session old k) (Effect s Hold)
holds old k h s r t = let x = h.to_each s t.stands in hold_keeps old k s r x.1 t

pub sends : (old : Tracked) (k : Kept) (n : ℕ) (result : Result (Unit {0}) EventError) → (result ≡ Err error.NoMemory → ⊥)
    → Happens old.session (Sent n) (answered (λ _. applied.Sent) result) k → (s : Session) → IsReached s → Tracks old s
    → Tracks (with_session old k) (Effect s (Sent n))
sends old k n (Ok done) never h s r t = let x = h.to_each s t.stands in sent_keeps old k s n r x.1 t
sends old k n (Err why) never h s r t =
    passes old k (Sent n) why (λ e. never (ap (λ (x : EventError). (let o : Result (Unit {0}) EventError = Err x in o)) e)) h s r t

pub drops : (old : Tracked) (k : Kept) (result : Result (Unit {0}) EventError) → (result ≡ Err error.NoMemory → ⊥)
    → Happens old.session DropConnection (answered (λ _. applied.DropConnection) result) k → (s : Session) → IsReached s → Tracks old s
    → Tracks (with_session old k) (Effect s DropConnection)
drops old k (Ok done) never h s r t = let x = h.to_each s t.stands in drop_keeps old k s r x.1 t
drops old k (Err why) never h s r t =
    passes old k DropConnection why (λ e. never (ap (λ (x : EventError). (let o : Result (Unit {0}) EventError = Err x in o)) e)) h s r t

-- ---- turns and slices

seen_here : (s : Session) → IsReached s → IsSeenAfter s
seen_here s r = subst IsSeenAfter (sym r.is) (seen_after r.from r.happened)

pub turns : (old new : Tracked) (k : Kept) (file : Option (List ℕ)) (turned : Turned)
    → Happens old.session (Turn file) (Ok (applied.Turn turned)) k
    → NotedIf (eqb old.current old.connection) (drop (length old.session.waiting) k.waiting) (with_session old k) new
    → SameBut (with_session old k) new
    → (s : Session) → IsReached s → Tracks old s → Tracks new (Effect s (Turn file))
turns old new k file turned h noted same s r t =
    let x = h.to_each s t.stands in
    noted_keeps old new s (Effect s (Turn file)) k r (reached_next s (Turn file) r) t ((seen_here s r).turn file) x.1 same noted

no_memory_is : (e : SliceEnd) (moved : ℕ) → (e ≡ ending.NoMemory → ⊥) → ran_out_at moved e ≡ None
no_memory_is ending.NoMemory moved never = absurd (never refl)
no_memory_is _ moved never = refl

same_slice : (a b : Sliced) → (let r : Result Applied EventError = Ok (applied.Slice a) in r) ≡ Ok (applied.Slice b) → a ≡ b
same_slice a b e = cc

pub steps : (old new : Tracked) (k : Kept) (n : ℕ) (made : Sliced) → (made.ending ≡ ending.NoMemory → ⊥)
    → Happens old.session (Slice n) (Ok (applied.Slice made)) k
    → NotedIf (eqb old.current old.connection) (drop (length old.session.waiting) k.waiting) (with_session old k) new
    → SameBut (with_session old k) new
    → (s : Session) → IsReached s → Tracks old s → IsFollowed s (Effect s (Slice n))
    → Tracks new (Effect s (Slice n)) × (ended_as (sliced histories n s).ending ≡ made.ending)
steps old new k n made never h noted same s r t followed =
    let x = subst (λ (o : Option ℕ). EndsWell histories s (Slice n) (applied.Slice made) o (λ u. Stands k u))
    (no_memory_is made.ending made.moved never) (h.to_each s t.stands) in (
      noted_keeps old new s (Effect s (Slice n)) k r (reached_next s (Slice n) r) t followed x.1 same noted,
      ap (λ (a : Sliced). a.ending)
          (same_slice (slice_answer (sliced histories n s)) made x.0),
    )

-- ---- the same of what stands inside of a value

module _ (inner old : Tracked) (is : inner ≡ old) where
  inside : (s : Session) → Tracks old s → Tracks inner s
  inside s t = subst (λ (x : Tracked). Tracks x s) (sym is) t

  pub connects_inside : (k : Kept) (number : ℕ) → Happens inner.session Connect (Ok (applied.Connect number)) k → (s : Session)
      → IsReached s → Tracks old s → Tracks (record inner { session = k; current = number }) (Effect s Connect)
  connects_inside k number h s r t = connects inner k number h s r (inside s t)

  pub refused_inside : {X : Type 0} (k : Kept) (e : Event) (why : EventError)
      → ((let r : Result X EventError = Err why in r) ≡ Err error.NoMemory → ⊥) → Happens inner.session e (Err why) k → (s : Session)
      → IsReached s → Tracks old s → Tracks (with_session inner k) (Effect s e)
  refused_inside k e why never h s r t = passes inner k e why (λ e. never (ap (λ (x : EventError). Err x) e)) h s r (inside s t)

  pub passes_inside : (k : Kept) (e : Event) (why : EventError) (result : Result (Unit {0}) AllocError)
      → OnOk result (why ≡ error.NoMemory → ⊥) → Happens inner.session e (Err why) k → Keeps e old result (with_session inner k)
  passes_inside k e why (Ok done) never h = λ s r t. passes inner k e why never h s r (inside s t)
  passes_inside k e why (Err none) never h = tt

  pub receives_inside : (k : Kept) (piece : List ℕ) (result : Result (Unit {0}) AllocError) (new : Tracked)
      → Happens inner.session (Recv piece) (Ok applied.Recv) k
      → OnOk result (new ≡ with_piece (is_current (with_session inner k)) piece (with_session inner k)) → Keeps (Recv piece) old result new
  receives_inside k piece (Ok done) new h same =
      λ s r t. subst (λ (x : Tracked). Tracks x (Effect s (Recv piece))) (sym same) (receives inner k piece h s r (inside s t))
  receives_inside k piece (Err none) new h same = tt

  pub holds_inside : (k : Kept) → Happens inner.session Hold (Ok applied.Hold) k → (s : Session) → IsReached s → Tracks old s
      → Tracks (with_session inner k) (Effect s Hold)
  holds_inside k h s r t = holds inner k h s r (inside s t)

  pub sends_inside : (k : Kept) (n : ℕ) (result : Result (Unit {0}) EventError) → (result ≡ Err error.NoMemory → ⊥)
      → Happens inner.session (Sent n) (answered (λ _. applied.Sent) result) k → (s : Session) → IsReached s → Tracks old s
      → Tracks (with_session inner k) (Effect s (Sent n))
  sends_inside k n result never h s r t = sends inner k n result never h s r (inside s t)

  pub drops_inside : (k : Kept) (result : Result (Unit {0}) EventError) → (result ≡ Err error.NoMemory → ⊥)
      → Happens inner.session DropConnection (answered (λ _. applied.DropConnection) result) k → (s : Session) → IsReached s → Tracks old s
      → Tracks (with_session inner k) (Effect s DropConnection)
  drops_inside k result never h s r t = drops inner k result never h s r (inside s t)

  -- this many bytes waited before
  noted_from : (k : Kept) (new : Tracked) (before : ℕ) → before ≡ length inner.session.waiting
      → NotedIf (is_current (with_session inner k)) (drop before k.waiting) (with_session inner k) new
      → NotedIf (is_current (with_session inner k)) (drop (length inner.session.waiting) k.waiting) (with_session inner k) new
  noted_from k new before e noted =
      subst (λ (n : ℕ). NotedIf (is_current (with_session inner k)) (drop n k.waiting) (with_session inner k) new) e noted

  pub turns_inside : (k : Kept) (file : Option (List ℕ)) (turned : Turned) (result : Result (Unit {0}) AllocError) (new : Tracked) (before : ℕ)
      → before ≡ length inner.session.waiting → Happens inner.session (Turn file) (Ok (applied.Turn turned)) k
      → OnOk result (NotedIf (is_current (with_session inner k)) (drop before k.waiting) (with_session inner k) new)
      → SameBut (with_session inner k) new → Keeps (Turn file) old result new
  turns_inside k file turned (Ok done) new before e h noted same =
      λ s r t. turns inner new k file turned h (noted_from k new before e noted) same s r (inside s t)
  turns_inside k file turned (Err none) new before e h noted same = tt

  pub steps_inside : (k : Kept) (n : ℕ) (made : Sliced) (new : Tracked) (before : ℕ) → before ≡ length inner.session.waiting
      → (made.ending ≡ ending.NoMemory → ⊥) → Happens inner.session (Slice n) (Ok (applied.Slice made)) k
      → NotedIf (is_current (with_session inner k)) (drop before k.waiting) (with_session inner k) new → SameBut (with_session inner k) new
      → (s : Session) → IsReached s → Tracks old s → IsFollowed s (Effect s (Slice n))
      → Tracks new (Effect s (Slice n)) × (ended_as (sliced histories n s).ending ≡ made.ending)
  steps_inside k n made new before e never h noted same s r t followed =
      steps inner new k n made never h (noted_from k new before e noted) same s r (inside s t) followed

-- ---- a slice, move by move

-- what a slice left is at rest where it ended because its moves were made, and is done with where it ended otherwise
abbrev pub RestsBy : SliceEnd → Session → Type 0
RestsBy ending.Spent s = IsAtRest s
RestsBy _ s = Still s

rests_by : (n : ℕ) (s : Session) (e : SliceEnd) → ended_as (sliced histories n s).ending ≡ e → RestsBy e (Effect s (Slice n))
rests_by n s e is = by e (there.1 ∙ ap (λ (x : SliceEnd). Some x) (sym (ap ended_as there.1) ∙ is)) where
  there : (x : SliceEnd) × ((sliced histories n s).ending ≡ Some x)
  there = each_ends histories histories_follow n s

  by : (e : SliceEnd) → (sliced histories n s).ending ≡ Some e → RestsBy e (Effect s (Slice n))
  by ending.Spent is = ((at_end n (enough n) s).spent is).1
  by ending.Full is = (at_end n (enough n) s).still ending.Full is (λ x. cc)
  by ending.Idle is = (at_end n (enough n) s).still ending.Idle is (λ x. cc)
  by ending.Stopped is = (at_end n (enough n) s).still ending.Stopped is (λ x. cc)
  by ending.Ended is = (at_end n (enough n) s).still ending.Ended is (λ x. cc)
  by ending.NoMemory is = (at_end n (enough n) s).still ending.NoMemory is (λ x. cc)

-- this many moves were made, and the last of them ended so
pub record Slices (made : ℕ) (e : SliceEnd) (s : Session) (new : Tracked) : Type 0 where
  pub tracks : Tracks new (Effect s (Slice made))
  pub rests : RestsBy e (Effect s (Slice made))

abbrev pub SlicesOf : Tracked → ℕ → SliceEnd → Tracked → Type 0
SlicesOf old made e new = (s : Session) → IsReached s → Tracks old s → Slices made e s new

pub first_slice : (old new : Tracked) (e : SliceEnd) → Steps 0 old (let r : Result SliceEnd (Unit {0}) = Ok e in r) new
    → SlicesOf old 0 e new
first_slice old new e h s r t =
    let x = h s r t (seen_here s r).none in
    record { tracks = x.0; rests = rests_by 0 s e x.1 }

joined : (s : Session) (made : ℕ) → Effect (Effect s (Slice made)) (Slice 1) ≡ Effect s (Slice (made + 1))
joined s made = (slices_join s made 1).0

pub next_slice : (old mid new : Tracked) (made : ℕ) (e : SliceEnd) → SlicesOf old made ending.Spent mid
    → Steps 1 mid (let r : Result SliceEnd (Unit {0}) = Ok e in r) new → SlicesOf old (made + 1) e new
next_slice old mid new made e was h s r t =
    let w = was s r t in
    let u = Effect s (Slice made) in
    let ru = reached_next s (Slice made) r in
    let x = h u ru w.tracks ((seen_here u ru).one w.rests) in
    record {
      tracks = subst (Tracks new) (joined s made) x.0;
      rests = subst (RestsBy e) (joined s made) (rests_by 1 u e x.1);
    }

-- all moves were made
pub all_slices : (old new : Tracked) (made n : ℕ) (e : SliceEnd) → made ≡ n → SlicesOf old made e new → (s : Session) → IsReached s
    → Tracks old s → Tracks new (Effect s (Slice n))
all_slices old new made n e all h s r t = subst (λ (m : ℕ). Tracks new (Effect s (Slice m))) all (h s r t).tracks

-- or no more can be
still_by : (e : SliceEnd) (s : Session) → (e ≡ ending.Spent → ⊥) → RestsBy e s → Still s
still_by ending.Spent s never h = absurd (never refl)
still_by _ s never h = h

no_more : (s : Session) (made more : ℕ) → Still (Effect s (Slice made)) → Effect s (Slice (made + more)) ≡ Effect s (Slice made)
no_more s made more h =
    let u = Effect s (Slice made) in
    let x = h (ltb 0 more) in
    sym (slices_join s made more).0 ∙ ap (λ (d : Slicing Session). d.state) (at_once more u x.0 x.1)

pub few_slices : (old new : Tracked) (made n : ℕ) (e : SliceEnd) → (e ≡ ending.Spent → ⊥) → made ≤ n → SlicesOf old made e new
    → (s : Session) → IsReached s → Tracks old s → Tracks new (Effect s (Slice n))
few_slices old new made n e never few h s r t =
    let w = h s r t in
    let all : made + (n - made) ≡ n = omega (arith, few) in
    subst (Tracks new) (sym (no_more s made (n - made) (still_by e (Effect s (Slice made)) never w.rests)) ∙ ap
    (λ (m : ℕ). Effect s (Slice m)) all) w.tracks

-- ---- what is noted

pub nothing_noted : (old : Tracked) (news : List ℕ) → eqb old.current old.connection ≡ false
    → NotedIf (eqb old.current old.connection) news old old
nothing_noted old news e = subst (λ (b : Bool). NotedIf b news old old) (sym e) (refl, refl)

pub is_noted : (old new : Tracked) (news : List ℕ) → eqb old.current old.connection ≡ true → Noted news old new
    → NotedIf (eqb old.current old.connection) news old new
is_noted old new news e n = subst (λ (b : Bool). NotedIf b news old new) (sym e) n

-- the last message of the bytes that are watched, by what it says
pub seen_by : (m : Option Message) (now : Now) (old : Option (Option Captured)) (prints : Bool) (seen : Option Captured)
    → Some prints ≡ option_map says_output m → IsSeenNow prints now seen → SeenAfter m now old (Some seen)
seen_by None now old prints seen e h = absurd (apart e) where
  apart : (let o : Option Bool = Some prints in o) ≡ None → ⊥
  apart e = cc
seen_by (Some m) now old prints seen e h =
    (h.0, (h.1.0, ap (λ (x : Option Captured). Some x) (h.1.1 ∙ ap (λ (b : Bool). taken_at b h.0) (inner e)))) where
      inner : (let o : Option Bool = Some prints in o) ≡ Some (says_output m) → prints ≡ says_output m
      inner e = cc

pub none_seen : (m : Option Message) (now : Now) (old new : Option (Option Captured)) → None ≡ option_map says_output m → new ≡ old
    → SeenAfter m now old new
none_seen None now old new e same = same
none_seen (Some m) now old new e same = absurd (apart e) where
  apart : (let o : Option Bool = None in o) ≡ Some (says_output m) → ⊥
  apart e = cc
