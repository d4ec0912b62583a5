-- All events are done, and what is watched then.
use Rattle.watch_events.proofs.Common.{[], After, after, ap, arith, Beginning, Bool, bytes_of, Captured, CountsQueued, Err, Event, false, get_or, Input, is_made, IsTold, Keeps, Kept as SessionKept, known_after, last_seen, leb, length, Life, life_of, List, map, nat_tests, no_life, None, Ok, Option, option_map, reading_of, refl, remembered, requests_of, Result, Said, SameWatched, Session, Shows, sight, Sight, sight_in, Some, Stands, StandsFor, start, stream_fault, subst, suc, sym, take, told_within, Tracked, Tracks, true, untouched, WasSo, zero, ℕ, ◌&&◌, ◌++◌, ◌+◌, ◌<◌, ◌∙◌, ◌∷◌, ◌≡◌, ◌≤◌}
use Rattle.std.proofs.lemmas.Bool.{and_parts}
use Rattle.std.proofs.lemmas.List.{length-take-le}
use Rattle.facts.specs.Facts.{Facts, nothing_known}
use Rattle.mirror.specs.Kept.{Kept, facts_of}
use Rattle.mirror.specs.Streams.Input.{Sent, Fed}
use Rattle.protocol.specs.declared.request.Request.{Request as ARequest}
use Rattle.session.proofs.Reaching.{whole_events}
use Rattle.session.specs.Reached.{Whole}
use Rattle.session_laws.specs.Laws.{RequestsAreRead}
use Rattle.session_laws.proofs.Cuts.{requests_are_read}
use Rattle.session_laws.proofs.Reading.{asks_up_to}
use Rattle.queues.specs.Arrivals.{asks_of}
use Rattle.session.specs.Begins.{AreRight, HasBegun}
use Rattle.session.specs.Config.{HasImage}
use Rattle.snapshots.specs.Shown.{Snapshot}
use Rattle.session.specs.declared.config.Config.{Config}
use Rattle.session.specs.declared.limits.Limits.{Limits}
use Rattle.mirror.specs.declared.asked.Asked.{Asked}
use Rattle.watch_events.proofs.Events.{after_more}
use Rattle.session_laws.proofs.Headline.Editing.{fed_first, is_editor}
use Rattle.session_laws.specs.Headline.{MirrorsHoldWhatWasSo}
use Rattle.session_laws.proofs.Headline.Mirrored.{mirrors_hold}
use Rattle.session_laws.specs.Holding.{Holds}
use Rattle.session_laws.specs.Editors.{fed_in, requests_in, told_first}
use Rattle.session_laws.specs.Headline.{HoldsWhatWasSo, WereSo, known_within}
use Rattle.session_laws.proofs.Messages.Readable.{messages_are_readable}
use Rattle.session_laws.specs.Messages.{HasPath, IsPath}
use Rattle.watch_events.specs.Replaying.{Begun, HoldsOf, IsMade, IsWatched, Queues, queued_for, Watches}
use Rattle.watch_events.specs.declared.watching.WatchError.{WatchError}
use Rattle.watch_events.specs.declared.watching.WatchError.TheVariants as watch
use Rattle.watch_events.specs.declared.watching.Watched.{Watched}

-- ---- events after events

abbrev pub AllTracked : Config → Limits → List Event → ℕ → ℕ → Tracked → Type 0
AllTracked c limits events connection count t =
    Begun c limits (λ from. Tracks t (After from events)) × (t.connection ≡ connection) × (t.count ≡ count)

no_life_yet : (from : Beginning) (c : ℕ) → life_of c (start from) ≡ no_life
no_life_yet from zero = refl
no_life_yet from (suc c) = refl

begins : (from : Beginning) (k : SessionKept) (connection count : ℕ) → Stands k (start from)
    → Tracks (untouched k connection count) (start from)
begins from k connection count stands =
    let none = no_life_yet from connection in
    record {
      stands = stands;
      current = refl;
      accepted = ap (λ (l : Life). l.accepted) none;
      queued = sym (ap bytes_of none);
      snapshot = sym (ap (λ (l : Life). option_map sight (last_seen None (told_within count l.said))) none);
    }

-- what a session of these begins with
abbrev pub the_beginning : (c : Config) (limits : Limits) → AreRight c limits → HasImage c.program c.memory_size → Beginning
the_beginning c limits right image = record {
  limits = limits;
  size = c.memory_size;
  program = c.program;
  numbers = right.numbers;
  memory = right.size;
  image = image;
}

pub begins_tracked : (c : Config) (limits : Limits) (k : SessionKept) (connection count : ℕ) → HasBegun c limits k
    → AllTracked c limits [] connection count (untouched k connection count)
begins_tracked c limits k connection count h = (
  record {
    right = h.right;
    image = h.image;
    so = begins
        (the_beginning c limits h.right h.image) k connection count h.stands;
  },
  refl,
  refl,
)

next : (from : Beginning) → HasPath from → (events : List Event) (e : Event) (old new : Tracked)
    → Keeps e old (let r : Result (Unit {0}) (Unit {0}) = Ok tt in r) new → Tracks old (After from events)
    → Tracks new (After from (events ++ e ∷ []))
next from path events e old new keeps h =
    subst (Tracks new) (sym (after_more events e (start from)))
    (keeps (After from events) (record { from = from; path = path; happened = map Whole events; is = sym (whole_events events (start from)) }) h)

-- ---- what is watched of them

made_by : (s : Session) (t : Tracked) → Tracks t s → is_made t ≡ true → IsMade s t.connection
made_by s t h e =
    let both = and_parts (leb 1 t.connection) (leb t.connection t.current) e in
    let some : 1 ≤ t.connection = (let b = both.0 in grind (arith, nat_tests)) in
    let few : t.connection ≤ t.current = (let b = both.1 in grind (arith, nat_tests)) in
    (some, subst (λ (n : ℕ). t.connection ≤ n) h.current few)

not_made_by : (s : Session) (t : Tracked) → Tracks t s → is_made t ≡ false → IsMade s t.connection → ⊥
not_made_by s t h e made =
    let some : leb 1 t.connection ≡ true = (let is = made.0 in grind (arith, nat_tests, is)) in
    let few : leb t.connection t.current ≡ true = (let is = made.1 in let same = h.current in grind (arith, nat_tests, is, same)) in
    let yes : is_made t ≡ true = ap (λ (b : Bool). b && leb t.connection t.current) some ∙ few in
    absurd (let both_are : true ≡ false = sym yes ∙ e in cc)

heard_by : (from : Beginning) (events : List Event) (t : Tracked) → Tracks t (After from events)
    → requests_in (life_of t.connection (After from events)).heard ≡ requests_of t.accepted
heard_by from events t h =
    ap requests_in (subst RequestsAreRead (whole_events events (start from)) (requests_are_read from (map Whole events)) t.connection ∙ ap (λ (l : List ℕ). asks_of (reading_of 1048576 l).bodies) h.accepted
    ∙ asks_up_to [] t.accepted)

never_none : (before : Snapshot) (said : List Said) → last_seen (Some before) said ≡ None → ⊥
never_none before [] e = cc
never_none before (m ∷ said) e = never_none m.snapshot said e

none_told : (said : List Said) → last_seen None said ≡ None → said ≡ []
none_told [] e = refl
none_told (m ∷ said) e = absurd (never_none m.snapshot said e)

holds_of : (asked : ℕ → Option Asked) (known : Facts) (said : List Said) (taken : Option (Option Captured)) (last : Option Snapshot)
    → last_seen None said ≡ last → known ≡ known_after asked nothing_known said → option_map sight_in taken ≡ option_map sight last
    → WasSo known last → HoldsOf known taken
holds_of asked known said None None is knows same so = knows ∙ ap (known_after asked nothing_known) (none_told said is)
holds_of asked known said None (Some seen) is knows same so = absurd (apart same) where
  apart : (let o : Option Sight = None in o) ≡ Some (sight seen) → ⊥
  apart e = cc
holds_of asked known said (Some taken) None is knows same so = absurd (apart same) where
  apart : Some (sight_in taken) ≡ (let o : Option Sight = None in o) → ⊥
  apart e = cc
holds_of asked known said (Some taken) (Some seen) is knows same so = subst (Holds known) (sym (ap (λ (s : Sight). s.facts) (inner same))) so where
  inner : (let o : Option Sight = Some (sight_in taken) in o) ≡ Some (sight seen) → sight_in taken ≡ sight seen
  inner e = cc

module _ (from : Beginning) (path : HasPath from) (events : List Event) (t : Tracked) (h : Tracks t (After from events)) (mirror : Kept)
    (told : IsTold t.accepted (take t.count t.queued) mirror) where
  abbrev life : Life
  life = life_of t.connection (After from events)

  abbrev inputs : List Input
  inputs = told_first life t.count

  stands : StandsFor mirror (after inputs)
  stands =
      let bytes : take t.count t.queued ≡ take t.count (bytes_of life) = ap (take t.count) h.queued in
      let same : map Sent (requests_of t.accepted) ++ Fed (take t.count t.queued) ∷ [] ≡ inputs =
      ap (λ (l : List ARequest). map Sent l ++ Fed (take t.count t.queued) ∷ []) (sym (heard_by from events t h))
      ∙ ap (λ (l : List ℕ). map Sent (requests_in life.heard) ++ Fed l ∷ []) bytes in
      subst (λ (l : List Input). StandsFor mirror (after l)) same told

  all_hold : HoldsWhatWasSo life inputs
  all_hold =
      subst MirrorsHoldWhatWasSo (whole_events events (start from))
      (mirrors_hold from (map Whole events) (messages_are_readable from (map Whole events) path)) t.connection inputs (is_editor life t.count)

  fed : fed_in inputs ≡ take t.count (bytes_of life)
  fed = fed_first (requests_in life.heard) (take t.count (bytes_of life))

  watched_by : is_made t ≡ true → t.count ≤ length t.queued
      → IsWatched (After from events) t.connection t.count (record { mirror = mirror; snapshot = t.snapshot })
  watched_by made few =
      let within = subst (λ (l : List ℕ). t.count ≤ length l) h.queued few in
      let long : length (fed_in inputs) ≡ t.count = ap length fed ∙ length-take-le t.count (bytes_of life) within in
      let knows = stands.facts ∙ all_hold.facts ∙ ap (λ (n : ℕ). known_within n life) long in
      let so = subst (λ (n : ℕ). WereSo n life (facts_of mirror.known)) long (all_hold.mirror mirror stands) in
      record {
        made = made_by (After from events) t h made;
        within = within;
        mirror = stands;
        readable = ap stream_fault (sym fed) ∙ all_hold.readable;
        knows = knows;
        seen = h.snapshot;
        holds =
            holds_of (remembered life.heard) (facts_of mirror.known) (told_within t.count life.said) t.snapshot _ refl knows h.snapshot so;
      }

-- ---- of a session that has begun

-- the path of the program that is given
abbrev pub PathFits : Config → Type 0
PathFits c = IsPath c.program

next_tracked : (c : Config) (limits : Limits) → PathFits c → (events : List Event) (e : Event) (connection count : ℕ) (old new : Tracked)
    → Keeps e old (let r : Result (Unit {0}) (Unit {0}) = Ok tt in r) new → SameWatched old new
    → AllTracked c limits events connection count old → AllTracked c limits (events ++ e ∷ []) connection count new
next_tracked c limits path events e connection count old new keeps same h = (
  record { right = h.0.right; image = h.0.image; so = next (the_beginning c limits h.0.right h.0.image) path events e old new keeps h.0.so },
  same.0 ∙ h.1,
  same.1 ∙ h.2,
)

take_next : (l : List Event) (i : ℕ) (e : Event) → i < length l → e ≡ get_or l i e → take (i + 1) l ≡ take i l ++ e ∷ []
take_next [] i e few is = absurd (omega (arith, few))
take_next (x ∷ l) zero e few is = ap (λ (y : Event). y ∷ []) (sym is)
take_next (x ∷ l) (suc i) e few is =
    let less : i < length l = omega (arith, few) in
    let more : suc i + 1 ≡ suc (i + 1) = omega arith in
    ap (λ (n : ℕ). take n (x ∷ l)) more ∙ ap (λ (r : List Event). x ∷ r) (take_next l i e less is)

pub next_taken : (c : Config) (limits : Limits) → PathFits c → (events : List Event) (i : ℕ) (e : Event) (connection count : ℕ) (old new : Tracked)
    → Keeps e old (let r : Result (Unit {0}) (Unit {0}) = Ok tt in r) new → SameWatched old new
    → i < length events → e ≡ get_or events i e → AllTracked c limits (take i events) connection count old
    → AllTracked c limits (take (i + 1) events) connection count new
next_taken c limits path events i e connection count old new keeps same few is h =
    subst (λ (l : List Event). AllTracked c limits l connection count new) (sym (take_next events i e few is))
    (next_tracked c limits path (take i events) e connection count old new keeps same h)

pub told_of : (a b q r : List ℕ) (count : ℕ) (mirror : Kept) → a ≡ b → q ≡ r → IsTold a (take count q) mirror
    → IsTold b (take count r) mirror
told_of a b q r count mirror e f told =
    subst (λ (x : List ℕ). IsTold b (take count x) mirror) f (subst (λ (x : List ℕ). IsTold x (take count q) mirror) e told)

pub is_watched : (c : Config) (limits : Limits) → PathFits c → (events : List Event) (connection count : ℕ) (t : Tracked) (mirror : Kept)
    → AllTracked c limits events connection count t → is_made t ≡ true → count ≤ length t.queued
    → IsTold t.accepted (take count t.queued) mirror
    → Begun c limits (λ from. IsWatched (After from events) connection count (record { mirror = mirror; snapshot = t.snapshot }))
is_watched c limits path events connection count t mirror h made few told = record {
  right = h.0.right;
  image = h.0.image;
  so =
      let told' = subst (λ (n : ℕ). IsTold t.accepted (take n t.queued) mirror) (sym h.2) told in
      let few' = subst (λ (n : ℕ). n ≤ length t.queued) (sym h.2) few in
      let w = watched_by (the_beginning c limits h.0.right h.0.image) path events t h.0.so mirror told' made few' in
      subst (λ (n : ℕ). IsWatched (After (the_beginning c limits h.0.right h.0.image) events) n count
      (record { mirror = mirror; snapshot = t.snapshot })) h.1
      (subst (λ (n : ℕ). IsWatched (After (the_beginning c limits h.0.right h.0.image) events) t.connection n
      (record { mirror = mirror; snapshot = t.snapshot })) h.2 w);
}

pub not_made : (c : Config) (limits : Limits) (events : List Event) (connection count : ℕ) (t : Tracked)
    → AllTracked c limits events connection count t → is_made t ≡ false → Begun c limits (λ from. IsMade (After from events) connection → ⊥)
not_made c limits events connection count t h isnt = record {
  right = h.0.right;
  image = h.0.image;
  so =
      λ made. not_made_by (After (the_beginning c limits h.0.right h.0.image) events) t h.0.so isnt
      (subst (λ (n : ℕ). IsMade (After (the_beginning c limits h.0.right h.0.image) events) n) (sym h.1) made);
}

made_of : (from : Beginning) (events : List Event) (connection : ℕ) (t : Tracked) → Tracks t (After from events) → t.connection ≡ connection
    → is_made t ≡ true
    → IsMade (After from events) connection × (length t.queued ≡ queued_for connection (After from events))
made_of from events connection t h e made = (
  subst (IsMade (After from events)) e (made_by (After from events) t h made),
  ap length h.queued ∙ ap (λ (n : ℕ). queued_for n (After from events)) e,
)

pub is_too_long : (c : Config) (limits : Limits) (events : List Event) (connection count : ℕ) (t : Tracked)
    → AllTracked c limits events connection count t → is_made t ≡ true → length t.queued < count
    → Begun c limits (λ from. IsMade (After from events) connection × (queued_for connection (After from events) < count))
is_too_long c limits events connection count t h made long = record {
  right = h.0.right;
  image = h.0.image;
  so =
      let m = made_of (the_beginning c limits h.0.right h.0.image) events connection t h.0.so h.1 made in
      (m.0, subst (λ (n : ℕ). n < count) m.1 long);
}

-- how many bytes were queued for it
pub counts_queued : (c : Config) (limits : Limits) (events : List Event) (connection count : ℕ) (t : Tracked) (result : Result ℕ WatchError)
    → AllTracked c limits events connection count t → CountsQueued t result → Queues c limits events connection result
counts_queued c limits events connection count t (Ok n) h counts = record {
  right = h.0.right;
  image = h.0.image;
  so =
      let m = made_of (the_beginning c limits h.0.right h.0.image) events connection t h.0.so h.1 counts.0 in
      (m.0, counts.1 ∙ m.1);
}
counts_queued c limits events connection count t (Err watch.NoSuchConnection) h counts =
    not_made c limits events connection count t h counts
counts_queued c limits events connection count t (Err watch.CutTooLong) h counts = absurd counts
counts_queued c limits events connection count t (Err watch.NoMemory) h counts = absurd counts
counts_queued c limits events connection count t (Err (watch.Config error)) h counts = absurd counts

-- what is shown of the connection that was watched is what is to be watched of the events
pub shows_watched : (c : Config) (limits : Limits) → PathFits c → (events : List Event) (connection count : ℕ) (t : Tracked) (result : Result Watched WatchError)
    → AllTracked c limits events connection count t → Shows t count result
    → Watches c limits events connection count result
shows_watched c limits path events connection count t (Ok watched) h shows =
    subst (λ (seen : Option (Option Captured)). Begun c limits
    (λ from. IsWatched (After from events) connection count (record { mirror = watched.mirror; snapshot = seen }))) (sym shows.1)
    (is_watched c limits path events connection count t watched.mirror h shows.0.0 shows.0.1.0 shows.0.1.1)
shows_watched c limits path events connection count t (Err watch.NoSuchConnection) h shows = not_made c limits events connection count t h shows
shows_watched c limits path events connection count t (Err watch.CutTooLong) h shows =
    is_too_long c limits events connection count t h shows.0 shows.1
shows_watched c limits path events connection count t (Err watch.NoMemory) h shows = h.0.right
shows_watched c limits path events connection count t (Err (watch.Config error)) h shows = absurd shows
