-- What is kept while events are done stays so.
use Rattle.watch_events.proofs.Common.{[], All, ap, append_assoc, arith, as_running as captured_running, Bool, bytes_of, Captured, cond, drop, eqb, false, Fits, frame_said, get_or, is_some, IsFollowed, IsReached, IsTaken, Kept, last_from, last_seen, leb, length, length-append, Life, life_of, List, map, MatchOption, Message, messages_so_far, nat_tests, no_life, None, Noted, NotedIf, Now, Option, option_map, refl, Said, SameBut, says_output, seen_at, seen_now, SeenAfter, Session, sight, Sight, sight_by, sight_in, snapshot_of, Some, Stands, stream_fault, subst, suc, sym, take, taken_at, told_within, Tracked, Tracks, true, up_to_fault, zero, ℕ, ◌++◌, ◌+◌, ◌-◌, ◌<◌, ◌∙◌, ◌∷◌, ◌≡◌}
use Rattle.std.specs.List.{flat_map}
use Rattle.std.proofs.lemmas.List.{append_cancel_left, drop_at}
use Rattle.std.proofs.lemmas.List.Elements.{All-head, All-tail}
use Rattle.debuggee.specs.Programs.{Debuggee, Program, is_running}
use Rattle.replies.specs.declared.event.Event.TheVariants as event
use Rattle.replies.specs.declared.message.Message.TheVariants.{Response as IsResponse, Event as IsEvent}
use Rattle.session_laws.proofs.Waiting.{all_counted}
use Rattle.session_laws.proofs.Waiting.{every_byte_is_taken_or_waits}
use Rattle.session_laws.specs.Laws.{EveryByteIsTakenOrWaits}
use Rattle.snapshots.specs.Shown.{Snapshot}
use Rattle.session.specs.declared.link.Link.{Link}
use Rattle.session_laws.proofs.Headline.Mirrored.{all_are_readable}
use Rattle.session_laws.proofs.Headline.Readable.{IsReadable, framed_some, has_no_fault, messages_within, told_hold}
use Rattle.session_laws.specs.News.{as_running}
use Rattle.session_laws.specs.Printed.{PrintsRunning}
use Rattle.session_laws.proofs.Headline.Printed.{what_is_printed_runs}
use Rattle.session_laws.proofs.Messages.Readable.{messages_are_readable}

-- ---- lives

pub get_there : (xs : List Life) (x d : Life) (c : ℕ) → c ≡ length xs → get_or (xs ++ x ∷ []) c d ≡ x
get_there [] x d c e = ap (λ (n : ℕ). get_or (x ∷ []) n d) e
get_there (y ∷ xs) x d zero e = absurd (omega (arith, e))
get_there (y ∷ xs) x d (suc c) e = get_there xs x d c (omega (arith, e))

get_elsewhere : (xs : List Life) (x y d : Life) (c : ℕ) → (c ≡ length xs → ⊥) → get_or (xs ++ x ∷ []) c d ≡ get_or (xs ++ y ∷ []) c d
get_elsewhere [] x y d zero other = absurd (other refl)
get_elsewhere [] x y d (suc c) other = refl
get_elsewhere (z ∷ xs) x y d zero other = refl
get_elsewhere (z ∷ xs) x y d (suc c) other = get_elsewhere xs x y d c (λ e. other (omega (arith, e)))

Counted : Session → Type 0
Counted s = length s.before ≡ s.now.connections

counted : (s : Session) → IsReached s → length s.before ≡ s.now.connections
unfolding Counted
counted s r = subst Counted (sym r.is) (all_counted r.from r.happened)

-- the life of the connection that was made last
pub ours : (s : Session) (c : ℕ) → IsReached s → c ≡ s.now.connections → life_of c s ≡ s.life
ours s c r e = get_there s.before s.life no_life c (e ∙ sym (counted s r))

-- and of another
pub others_same : (s t : Session) (c : ℕ) → IsReached s → t.before ≡ s.before → (c ≡ s.now.connections → ⊥) → life_of c t ≡ life_of c s
others_same s t c r before other =
    ap (λ (l : List Life). get_or (l ++ t.life ∷ []) c no_life) before ∙ get_elsewhere s.before t.life s.life no_life c
    (λ e. other (e ∙ counted s r))

-- ---- bytes

frames : List Said → List ℕ
frames said = flat_map frame_said said

frames_more : (xs ys : List Said) → frames (xs ++ ys) ≡ frames xs ++ frames ys
unfolding frames
frames_more [] ys = refl
frames_more (m ∷ xs) ys =
    ap (λ (l : List ℕ). frame_said m ++ l) (frames_more xs ys) ∙ sym (append_assoc (frame_said m) (frames xs) (frames ys))

said_bytes : (s t : Session) (h : IsFollowed s t) → bytes_of t.life ≡ bytes_of s.life ++ frames h.news
unfolding frames
said_bytes s t h = ap (λ (l : Life). flat_map frame_said l.said) h.newly.life ∙ frames_more s.life.said h.news

all_bytes : (s : Session) → IsReached s → EveryByteIsTakenOrWaits s
all_bytes s r = subst EveryByteIsTakenOrWaits (sym r.is) (every_byte_is_taken_or_waits r.from r.happened)

waits_by : (ls lt : Option Link) (s t : Session) → s.now.link ≡ ls → t.now.link ≡ lt → IsReached s → IsReached t → (h : IsFollowed s t)
    → drop (length s.waiting) t.waiting ≡ frames h.news
unfolding frames
waits_by None None s t es et rs rt h =
    let none : h.news ≡ [] = h.newly.silent (ap is_some es) in
    ap (λ (l : List ℕ). drop (length l) t.waiting) ((all_bytes s rs).none es) ∙ (all_bytes t rt).none et ∙ sym (ap frames none)
waits_by None (Some lt) s t es et rs rt h = absurd (let no : true ≡ false = sym (ap is_some et) ∙ h.newly.linked ∙ ap is_some es in cc)
waits_by (Some ls) None s t es et rs rt h = absurd (let no : false ≡ true = sym (ap is_some et) ∙ h.newly.linked ∙ ap is_some es in cc)
waits_by (Some ls) (Some lt) s t es et rs rt h =
    let taken : t.life.taken ≡ s.life.taken = ap (λ (l : Life). l.taken) h.newly.life in
    let sum : s.life.taken ++ t.waiting ≡ s.life.taken ++ (s.waiting ++ frames h.news) =
    ap (λ (l : List ℕ). l ++ t.waiting) (sym taken) ∙ sym ((all_bytes t rt).rest lt et) ∙ said_bytes s t h
    ∙ ap (λ (l : List ℕ). l ++ frames h.news) ((all_bytes s rs).rest ls es) ∙ append_assoc s.life.taken s.waiting (frames h.news) in
    ap (drop (length s.waiting)) (append_cancel_left s.life.taken t.waiting (s.waiting ++ frames h.news) sum) ∙ drop_at
    s.waiting (frames h.news) (length s.waiting) refl

-- ---- what was told

some_bytes : (m : Said) → 0 < length (frame_said m)
some_bytes m = framed_some m

told_zero : (said : List Said) → told_within 0 said ≡ []
told_zero [] = refl
told_zero (m ∷ said) =
    let some = some_bytes m in let no : leb (length (frame_said m)) 0 ≡ false = grind (arith, nat_tests, some) in ap
    (λ (b : Bool). cond b (m ∷ told_within (0 - length (frame_said m)) said) []) no

told_more : (xs ys : List Said) (count : ℕ)
    → told_within count (xs ++ ys) ≡ told_within count xs ++ told_within (count - length (frames xs)) ys
unfolding frames
told_more [] ys count = let same : count - 0 ≡ count = omega arith in sym (ap (λ (n : ℕ). told_within n ys) same)
told_more (m ∷ xs) ys count = by (leb (length (frame_said m)) count) refl (told_more xs ys (count - length (frame_said m))) where
  n : ℕ
  n = length (frame_said m)

  sum : length (frame_said m ++ flat_map frame_said xs) ≡ n + length (flat_map frame_said xs)
  sum = length-append (frame_said m) (flat_map frame_said xs)

  by : (b : Bool) → leb n count ≡ b
      → told_within (count - n) (xs ++ ys) ≡ told_within (count - n) xs ++ told_within (count - n - length (flat_map frame_said xs)) ys
      → cond b (m ∷ told_within (count - n) (xs ++ ys)) [] ≡ cond b (m ∷ told_within (count - n) xs) [] ++ told_within (count - length (frame_said m ++ flat_map frame_said xs)) ys
  by true e rest =
      let left : count - n - length (flat_map frame_said xs) ≡ count - length (frame_said m ++ flat_map frame_said xs) = omega
      (arith, sum) in
      ap (λ (l : List Said). m ∷ l) rest ∙ ap (λ (k : ℕ). m ∷ (told_within (count - n) xs ++ told_within k ys)) left
  by false e rest =
      let less : count < n = grind (arith, nat_tests) in
      let none : count - length (frame_said m ++ flat_map frame_said xs) ≡ 0 = omega (arith, sum, less) in
      sym (ap (λ (k : ℕ). told_within k ys) none ∙ told_zero ys)

last_seen_more : (before : Option Snapshot) (xs ys : List Said) → last_seen before (xs ++ ys) ≡ last_seen (last_seen before xs) ys
last_seen_more before [] ys = refl
last_seen_more before (m ∷ xs) ys = last_seen_more (Some m.snapshot) xs ys

-- ---- what could be seen

prints : (m : Message) (d : Debuggee) → says_output m ≡ true → PrintsRunning m d → (p : Program) × (d.program ≡ Some p)
prints (IsResponse r) d e h = absurd (let no : false ≡ true = e in cc)
prints (IsEvent (event.Output o)) d e h = by d.program refl h where
  by : (program : Option Program) → d.program ≡ program → MatchOption program ⊥ (λ p. is_running p.run ≡ true)
      → (p : Program) × (d.program ≡ Some p)
  by None is h = absurd h
  by (Some p) is h = (p, is)
prints (IsEvent event.Initialized) d e h = absurd (let no : false ≡ true = e in cc)
prints (IsEvent (event.Stopped b)) d e h = absurd (let no : false ≡ true = e in cc)
prints (IsEvent event.Continued) d e h = absurd (let no : false ≡ true = e in cc)
prints (IsEvent (event.Exited b)) d e h = absurd (let no : false ≡ true = e in cc)
prints (IsEvent event.Terminated) d e h = absurd (let no : false ≡ true = e in cc)

seen_output : (taken : Option Captured) (m : Said) (now : Sight) → says_output m.message ≡ true
    → PrintsRunning m.message m.snapshot.debuggee → sight_in taken ≡ now → sight m.snapshot ≡ as_running now
    → sight_in (captured_running taken) ≡ sight m.snapshot
seen_output (Some c) m now e prints is fits = ap as_running is ∙ sym fits
seen_output None m now e runs is fits =
    let p = prints m.message m.snapshot.debuggee e runs in
    let here : (sight m.snapshot).facts.register 32 ≡ Some p.0.machine.hart.pc = ap
    (λ (x : Option Program). (sight_by x m.snapshot.numbers).facts.register 32) p.1 in
    let none : (sight m.snapshot).facts.register 32 ≡ None = ap (λ (s : Sight). s.facts.register 32) (fits ∙ sym (ap as_running is)) in
    absurd (let no : Some p.0.machine.hart.pc ≡ None = sym here ∙ none in cc)

taken_sight : (taken : Option Captured) (seen : Snapshot) → IsTaken taken seen → sight_in taken ≡ sight seen
taken_sight taken seen is = let facts = is.facts in let path = is.path in λ i. record { facts = facts i; path = path i }

seen_taken : (t : Session) (m : Said) (taken : Option Captured) → Fits t m → PrintsRunning m.message m.snapshot.debuggee
    → IsTaken taken (snapshot_of t.now) → sight_in (taken_at (says_output m.message) taken) ≡ sight m.snapshot
seen_taken t m taken fits runs is = by (says_output m.message) refl where
  by : (b : Bool) → says_output m.message ≡ b → sight_in (taken_at b taken) ≡ sight m.snapshot
  by true e =
      seen_output taken m (seen_now t) e runs (taken_sight taken (snapshot_of t.now) is)
      (fits ∙ ap (λ (b : Bool). seen_at b (seen_now t)) e)
  by false e = taken_sight taken (snapshot_of t.now) is ∙ sym (fits ∙ ap (λ (b : Bool). seen_at b (seen_now t)) e)

AllRun : List Said → Type 0
AllRun said = All (λ (m : Said). PrintsRunning m.message m.snapshot.debuggee) said

-- the last message so far, if there is one
so_far : Option Snapshot → Option Said → Option Snapshot
so_far before None = before
so_far before (Some m) = Some m.snapshot

Suits : Session → Option Said → Type 0
Suits t None = Unit {0}
Suits t (Some m) = Fits t m × PrintsRunning m.message m.snapshot.debuggee

seen_after : (t : Session) (before : Option Snapshot) (old new : Option (Option Captured)) (news : List Said) (last : Option Said)
    → option_map sight_in old ≡ option_map sight before
    → All (Fits t) news → AllRun news → Suits t last
    → SeenAfter (last_from (option_map (λ (m : Said). m.message) last) (map (λ (m : Said). m.message) news)) t.now old new
    → option_map sight_in new ≡ option_map sight (last_seen (so_far before last) news)
unfolding AllRun so_far Suits
seen_after t before old new [] None was fits runs suits h = ap (option_map sight_in) h ∙ was
seen_after t before old new [] (Some m) was fits runs suits h =
    ap (option_map sight_in) h.1.1 ∙ ap (λ (s : Sight). Some s) (seen_taken t m h.0 suits.0 suits.1 h.1.0)
seen_after t before old new (m ∷ news) last was fits runs suits h =
    seen_after t before old new news (Some m) was (All-tail (Fits t) m news fits)
    (All-tail (λ (m : Said). PrintsRunning m.message m.snapshot.debuggee) m news runs)
    (All-head (Fits t) m news fits, All-head (λ (m : Said). PrintsRunning m.message m.snapshot.debuggee) m news runs) h

-- ---- what an event queued is noted

-- the session has moved on, and what it queued is not noted yet
abbrev pub with_session : Tracked → Kept → Tracked
with_session t k = record t { session = k }

pub seen_place : (a b : ℕ) (x y : Life) → b ≡ a → y ≡ x
    → option_map sight (last_seen None (told_within a x.said)) ≡ option_map sight (last_seen None (told_within b y.said))
seen_place a b x y e f = sym (λ i. option_map sight (last_seen None (told_within (e i) (f i).said)))

-- what holds of all holds of the last of them
of_last : (P : Said → Type 0) (xs ys : List Said) → All P (xs ++ ys) → All P ys
of_last P [] ys h = h
of_last P (x ∷ xs) ys h = of_last P xs ys (All-tail P x (xs ++ ys) h)

module _ (old new : Tracked) (s t : Session) (k : Kept) (rs : IsReached s) (rt : IsReached t) (h : Tracks old s) (told : IsFollowed s t)
    (stands : Stands k t) (same : SameBut (with_session old k) new) where
  abbrev pub waited : List ℕ
  waited = drop (length old.session.waiting) k.waiting

  news_are : waited ≡ flat_map frame_said told.news
  unfolding frames
  news_are =
      ap (λ (l : List ℕ). drop (length l) k.waiting) (ap (λ (x : Kept). x.waiting) h.stands) ∙ ap (λ (x : Kept). drop (length s.waiting) x.waiting) stands
      ∙ waits_by s.now.link t.now.link s t refl refl rs rt told

  life_before : old.connection ≡ s.now.connections → life_of old.connection s ≡ s.life
  life_before e = ours s old.connection rs e

  life_after : old.connection ≡ s.now.connections → life_of old.connection t ≡ t.life
  life_after e = ours t old.connection rt (e ∙ sym told.newly.connections)

  more_said : old.connection ≡ s.now.connections → (life_of old.connection t).said ≡ (life_of old.connection s).said ++ told.news
  more_said e =
      ap (λ (l : Life). l.said) (life_after e) ∙ ap (λ (l : Life). l.said) told.newly.life ∙ ap (λ (l : Life). l.said ++ told.news)
      (sym (life_before e))

  more_bytes : old.connection ≡ s.now.connections → bytes_of (life_of old.connection t) ≡ old.queued ++ flat_map frame_said told.news
  unfolding frames
  more_bytes e =
      ap bytes_of (life_after e) ∙ said_bytes s t told ∙ ap (λ (l : Life). bytes_of l ++ flat_map frame_said told.news)
      (sym (life_before e)) ∙ ap (λ (l : List ℕ). l ++ flat_map frame_said told.news) (sym h.queued)

  -- of another connection
  elsewhere : (old.connection ≡ s.now.connections → ⊥) → new.queued ≡ old.queued → new.snapshot ≡ old.snapshot → Tracks new t
  elsewhere other queued snapshot =
      let life : life_of new.connection t ≡ life_of old.connection s = ap (λ (n : ℕ). life_of n t) same.connection
      ∙ others_same s t old.connection rs told.newly.before other in
      record {
        stands = subst (λ (x : Kept). Stands x t) (sym same.session) stands;
        current = same.current ∙ h.current ∙ sym told.newly.connections;
        accepted = ap (λ (l : Life). l.accepted) life ∙ h.accepted ∙ ap (up_to_fault []) (sym same.accepted);
        queued = queued ∙ h.queued ∙ sym (ap bytes_of life);
        snapshot = ap (option_map sight_in) snapshot ∙ h.snapshot
            ∙ seen_place old.count new.count (life_of old.connection s) (life_of new.connection t) same.count life;
      }

  seen_here : old.connection ≡ s.now.connections → Noted waited (with_session old k) new
      → option_map sight_in new.snapshot ≡ option_map sight (last_seen None (told_within old.count (life_of old.connection t).said))
  unfolding AllRun frames so_far Suits
  seen_here e noted =
      let news = told.news in
      let said = (life_of old.connection s).said in
      let room = old.count - length old.queued in
      let ys = told_within room news in
      let all : (life_of old.connection t).said ≡ said ++ news = more_said e in
      let readable : All IsReadable news = of_last IsReadable said news
      (subst (All IsReadable) (ap (λ (x : Session). (life_of old.connection x).said) (sym rt.is) ∙ all)
      (all_are_readable rt.from rt.happened (messages_are_readable rt.from rt.happened rt.path) old.connection)) in
      let run : AllRun news = of_last (λ (m : Said). PrintsRunning m.message m.snapshot.debuggee) said news
      (subst AllRun (ap (λ (x : Session). (life_of old.connection x).said) (sym rt.is) ∙ all)
      (what_is_printed_runs rt.from rt.happened old.connection)) in
      let part : take room waited ≡ take room (flat_map frame_said news) = ap (take room) news_are in
      let none : stream_fault (take room waited) ≡ None = ap stream_fault part ∙ has_no_fault news room readable in
      let read = messages_within news room readable in
      let messages : messages_so_far (take room waited) ≡ map (λ (m : Said). m.message) ys = ap messages_so_far part ∙ read in
      let after = seen_after t (last_seen None (told_within old.count said)) old.snapshot new.snapshot ys None h.snapshot
      (told_hold (Fits t) news room told.newly.fits)
      (told_hold (λ (m : Said). PrintsRunning m.message m.snapshot.debuggee) news room run) tt
      (subst (λ (now : Now). SeenAfter (last_from None (map (λ (m : Said). m.message) ys)) now old.snapshot new.snapshot) (ap (λ (x : Kept). x.now) stands)
      (subst (λ (l : List Message). SeenAfter (last_from None l) k.now old.snapshot new.snapshot) messages (noted.snapshot none))) in
      let place : room ≡ old.count - length (flat_map frame_said said) = ap (λ (l : List ℕ). old.count - length l) h.queued in
      after ∙ ap (option_map sight) (sym (last_seen_more None (told_within old.count said) ys)
      ∙ ap (λ (n : ℕ). last_seen None (told_within old.count said ++ told_within n news)) place
      ∙ ap (last_seen None) (sym (told_more said news old.count) ∙ ap (told_within old.count) (sym all)))

  -- of the one that is watched
  here : old.connection ≡ s.now.connections → Noted waited (with_session old k) new → Tracks new t
  here e noted =
      let life : life_of new.connection t ≡ life_of old.connection t = ap (λ (n : ℕ). life_of n t) same.connection in
      let bytes : new.queued ≡ bytes_of (life_of old.connection t) = noted.queued ∙ ap (λ (l : List ℕ). old.queued ++ l) news_are ∙ sym
      (more_bytes e) in
      let accepted : (life_of old.connection t).accepted ≡ (life_of old.connection s).accepted =
      ap (λ (l : Life). l.accepted) (life_after e) ∙ ap (λ (l : Life). l.accepted) told.newly.life ∙ ap (λ (l : Life). l.accepted)
      (sym (life_before e)) in
      record {
        stands = subst (λ (x : Kept). Stands x t) (sym same.session) stands;
        current = same.current ∙ h.current ∙ sym told.newly.connections;
        accepted = ap (λ (l : Life). l.accepted) life ∙ accepted ∙ h.accepted ∙ ap (up_to_fault []) (sym same.accepted);
        queued = bytes ∙ sym (ap bytes_of life);
        snapshot = seen_here e noted ∙ seen_place old.count new.count (life_of old.connection t) (life_of new.connection t) same.count life;
      }

  -- where it is told which
  pub noted_keeps : NotedIf (eqb old.current old.connection) waited (with_session old k) new → Tracks new t
  noted_keeps = by (eqb old.current old.connection) refl where
    by : (b : Bool) → eqb old.current old.connection ≡ b → NotedIf b waited (with_session old k) new → Tracks new t
    by true e noted = let is : old.current ≡ old.connection = grind (arith, nat_tests) in here (sym is ∙ h.current) noted
    by false e noted =
        let other : old.connection ≡ s.now.connections → ⊥ = λ same.
        (let is : old.current ≡ old.connection = h.current ∙ sym same in let test : eqb old.current old.connection ≡ true = grind
        (arith, nat_tests, is) in let no : true ≡ false = sym test ∙ e in cc) in
        elsewhere other noted.0 noted.1
