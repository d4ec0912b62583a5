-- The messages of a stream that comes in pieces.
use Rattle.mirror.proofs.Common.{[], answer_by, ap, append-nil, append_assoc, arith, AsksAre, at, body_limit, drop, Err, error_in, error_of, Facts, facts_of, fault_in, fault_of, FedBy, Feeds, FeedsPast, first_fault, first_of, fold, folded, GoesOn, inl, inr, Kept, length, lent_from, Link, link_by, link_fault, link_of, List, map, message_of, messages_in, messages_of, newly_whole, None, Ok, Option, others_of, Past, reading_after, refl, Result, Some, StandsFor, stream_fault, sym, Unframed, with_piece, ℕ, ◌++◌, ◌<◌, ◌∙◌, ◌∷◌, ◌≡◌}
use Rattle.std.proofs.Math.Seq.{drop-append_seam}
use Rattle.std.proofs.lemmas.List.{map-append}
use Rattle.framing.specs.Reading.{Reading, Tail, reading_of, with_bodies}
use Rattle.framing.specs.Reading.Tail.{Partial, Faulty}
use Rattle.framing.specs.declared.error.FrameError.{FrameError}
use Rattle.framing.proofs.Cutting.{reading_of-append}
use Rattle.protocol.specs.declared.request.MessageError.{MessageError}
use Rattle.replies.specs.declared.message.Message.{Message}
use Rattle.mirror.specs.Kept.Link.{Open, Closed}
use Rattle.mirror.specs.declared.asked.Asked.{Asked}
use Rattle.mirror.specs.declared.error.MirrorError.{MirrorError}

-- ---- messages after messages

messages_in-append : (xs ys : List (Result Message MessageError)) → error_in xs ≡ None
    → messages_in (xs ++ ys) ≡ messages_in xs ++ messages_in ys
messages_in-append [] ys e = refl
messages_in-append (Ok m ∷ xs) ys e = ap (λ (l : List Message). m ∷ l) (messages_in-append xs ys e)
messages_in-append (Err x ∷ xs) ys e = absurd (not_none e) where
  not_none : (let o : Option MessageError = Some x in o) ≡ None → ⊥
  not_none e = cc

error_in-append : (xs ys : List (Result Message MessageError)) → error_in xs ≡ None → error_in (xs ++ ys) ≡ error_in ys
error_in-append [] ys e = refl
error_in-append (Ok m ∷ xs) ys e = error_in-append xs ys e
error_in-append (Err x ∷ xs) ys e = absurd (not_none e) where
  not_none : (let o : Option MessageError = Some x in o) ≡ None → ⊥
  not_none e = cc

-- after a body that is no message nothing is looked at
messages_in-error : (xs ys : List (Result Message MessageError)) (x : MessageError) → error_in xs ≡ Some x
    → messages_in (xs ++ ys) ≡ messages_in xs
messages_in-error [] ys x e = absurd (not_some e) where
  not_some : (let o : Option MessageError = None in o) ≡ Some x → ⊥
  not_some e = cc
messages_in-error (Ok m ∷ xs) ys x e = ap (λ (l : List Message). m ∷ l) (messages_in-error xs ys x e)
messages_in-error (Err y ∷ xs) ys x e = refl

error_in-error : (xs ys : List (Result Message MessageError)) (x : MessageError) → error_in xs ≡ Some x → error_in (xs ++ ys) ≡ Some x
error_in-error [] ys x e = absurd (not_some e) where
  not_some : (let o : Option MessageError = None in o) ≡ Some x → ⊥
  not_some e = cc
error_in-error (Ok m ∷ xs) ys x e = error_in-error xs ys x e
error_in-error (Err y ∷ xs) ys x e = e

-- the same of bodies
pub messages_of-append : (xs ys : List (List ℕ)) → error_of xs ≡ None → messages_of (xs ++ ys) ≡ messages_of xs ++ messages_of ys
messages_of-append xs ys e = ap messages_in (map-append message_of xs ys) ∙ messages_in-append (map message_of xs) (map message_of ys) e

error_of-append : (xs ys : List (List ℕ)) → error_of xs ≡ None → error_of (xs ++ ys) ≡ error_of ys
error_of-append xs ys e = ap error_in (map-append message_of xs ys) ∙ error_in-append (map message_of xs) (map message_of ys) e

pub messages_of-error : (xs ys : List (List ℕ)) (x : MessageError) → error_of xs ≡ Some x → messages_of (xs ++ ys) ≡ messages_of xs
messages_of-error xs ys x e = ap messages_in (map-append message_of xs ys) ∙ messages_in-error (map message_of xs) (map message_of ys) x e

error_of-error : (xs ys : List (List ℕ)) (x : MessageError) → error_of xs ≡ Some x → error_of (xs ++ ys) ≡ Some x
error_of-error xs ys x e = ap error_in (map-append message_of xs ys) ∙ error_in-error (map message_of xs) (map message_of ys) x e

-- ---- links

open_of : (fault : Option MirrorError) (t tail : Tail) → link_by fault t ≡ Open tail → (fault ≡ None) × (t ≡ tail)
open_of None t tail e = (refl, inner e) where
  inner : Open t ≡ Open tail → t ≡ tail
  inner e = cc
open_of (Some x) t tail e = absurd (apart e) where
  apart : Closed x ≡ Open tail → ⊥
  apart e = cc

closed_of : (fault : Option MirrorError) (t : Tail) (x : MirrorError) → link_by fault t ≡ Closed x → fault ≡ Some x
closed_of None t x e = absurd (apart e) where
  apart : Open t ≡ Closed x → ⊥
  apart e = cc
closed_of (Some y) t x e = inner e where
  inner : Closed y ≡ Closed x → (let o : Option MirrorError = Some y in o) ≡ Some x
  inner e = cc

link_fault-of : (fault : Option MirrorError) (t : Tail) → link_fault (link_by fault t) ≡ fault
link_fault-of None t = refl
link_fault-of (Some x) t = refl

first_none : (m : Option MessageError) (f : Option FrameError) → first_fault m f ≡ None → m ≡ None
first_none None f e = refl
first_none (Some x) f e = absurd (apart e) where
  apart : (let o : Option MirrorError = first_fault (Some x) f in o) ≡ None → ⊥
  apart e = cc

asks_open : (link : Link) (tail : Tail) (kept asked : ℕ → Option Asked) → link ≡ Open tail → AsksAre link kept asked → kept ≡ asked
asks_open (Open t) tail kept asked e is = is
asks_open (Closed x) tail kept asked e is = absurd (apart e) where
  apart : Closed x ≡ Open tail → ⊥
  apart e = cc

asks_are : (link : Link) (kept asked : ℕ → Option Asked) → kept ≡ asked → AsksAre link kept asked
asks_are (Open tail) kept asked is = is
asks_are (Closed x) kept asked is = tt

asks_closed : (link : Link) (x : MirrorError) (kept asked : ℕ → Option Asked) → link ≡ Closed x → AsksAre link kept asked
asks_closed (Open tail) x kept asked e = absurd (apart e) where
  apart : Open tail ≡ Closed x → ⊥
  apart e = cc
asks_closed (Closed y) x kept asked e = tt

-- ---- a stream with a fault, and more of it

pub record SameFault (bodies : List (List ℕ)) (tail : Tail) (more : Reading) (x : MirrorError) : Type 0 where
  pub messages : messages_of (bodies ++ more.bodies) ≡ messages_of bodies
  pub fault : first_fault (error_of (bodies ++ more.bodies)) (fault_of more.tail) ≡ Some x

pub same_fault : (bodies : List (List ℕ)) (tail : Tail) (piece : List ℕ) (x : MirrorError) (m : Option MessageError) → error_of bodies ≡ m
    → first_fault m (fault_of tail) ≡ Some x → SameFault bodies tail (reading_after body_limit tail piece) x
same_fault bodies tail piece x (Some y) e h =
    let more = reading_after body_limit tail piece in
    record {
      messages = messages_of-error bodies more.bodies y e;
      fault = ap (λ m. first_fault m (fault_of more.tail)) (error_of-error bodies more.bodies y e) ∙ h;
    }
same_fault bodies (Partial rest) piece x None e h = absurd (apart h) where
  apart : (let o : Option MirrorError = None in o) ≡ Some x → ⊥
  apart h = cc
same_fault bodies (Faulty fault) piece x None e h =
    record {
      messages = ap messages_of (append-nil bodies);
      fault = ap (λ l. first_fault (error_of l) (Some fault)) (append-nil bodies) ∙ ap (λ m. first_fault m (Some fault)) e ∙ h;
    }

-- ---- what a piece does, for each past

whole_reading : (past : Past) (piece : List ℕ) (tail : Tail) → (reading_of body_limit past.bytes).tail ≡ tail
    → reading_of body_limit (past.bytes ++ piece) ≡ with_bodies (reading_of body_limit past.bytes).bodies (reading_after body_limit tail piece)
whole_reading past piece tail e =
    reading_of-append body_limit past.bytes piece
    ∙ ap (λ t. with_bodies (reading_of body_limit past.bytes).bodies (reading_after body_limit t piece)) e

abbrev Taken : Past → List ℕ → Result (Unit {0}) MirrorError → Kept → Type 0
Taken past piece result new = StandsFor new (with_piece past piece) × (result ≡ answer_by (stream_fault (past.bytes ++ piece)))

taken_open : (old new : Kept) (piece : List ℕ) (result : Result (Unit {0}) MirrorError) (past : Past) (tail : Tail) → old.link ≡ Open tail
    → StandsFor old past
    → GoesOn old (reading_after body_limit tail piece) new → result ≡ answer_by (link_fault new.link) → Taken past piece result new
taken_open old new piece result past tail e s goes is =
    let R = reading_of body_limit past.bytes in
    let r = reading_after body_limit tail piece in
    let opens = open_of (fault_in R) R.tail tail (sym s.link ∙ e) in
    let none = first_none (error_of R.bodies) (fault_of R.tail) opens.0 in
    let whole = whole_reading past piece tail opens.1 in
    let asks = asks_open old.link tail (at old.asked) past.asked e s.asked in
    let news : newly_whole past.bytes piece ≡ messages_of r.bodies =
    ap (λ (w : Reading). drop (length (messages_of R.bodies)) (messages_of w.bodies)) whole
    ∙ ap (drop (length (messages_of R.bodies))) (messages_of-append R.bodies r.bodies none)
    ∙ drop-append_seam (messages_of R.bodies) (messages_of r.bodies) in
    let fault : fault_in (with_bodies R.bodies r) ≡ fault_in r = ap (λ m. first_fault m (fault_of r.tail))
    (error_of-append R.bodies r.bodies none) in
    let link : link_of (reading_of body_limit (past.bytes ++ piece)) ≡ link_of r = ap link_of whole ∙ ap (λ f. link_by f r.tail) fault in
    let stands : StandsFor new (with_piece past piece) = record {
      facts = goes.facts
          ∙ ap (λ (asked : ℕ → Option Asked). fold (folded asked) (facts_of old.known) (messages_of r.bodies)) asks
          ∙ ap (λ (f : Facts). fold (folded past.asked) f (messages_of r.bodies)) s.facts
          ∙ sym (ap (fold (folded past.asked) past.facts) news);
      link = goes.link ∙ sym link;
      asked = asks_are new.link (at new.asked) past.asked (ap at goes.asked ∙ asks);
    } in (
      stands,
      is ∙ ap (λ (l : Link). answer_by (link_fault l)) goes.link ∙ ap answer_by (link_fault-of (fault_in r) r.tail)
          ∙ sym (ap answer_by (ap fault_in whole ∙ fault)),
    )

taken_closed : (old new : Kept) (piece : List ℕ) (result : Result (Unit {0}) MirrorError) (past : Past) (x : MirrorError)
    → old.link ≡ Closed x → StandsFor old past
    → new ≡ old → result ≡ answer_by (link_fault new.link) → Taken past piece result new
taken_closed old new piece result past x e s stays is =
    let R = reading_of body_limit past.bytes in
    let r = reading_after body_limit R.tail piece in
    let same = same_fault R.bodies R.tail piece x (error_of R.bodies) refl (closed_of (fault_in R) R.tail x (sym s.link ∙ e)) in
    let whole = whole_reading past piece R.tail refl in
    let news : newly_whole past.bytes piece ≡ [] =
    ap (λ (w : Reading). drop (length (messages_of R.bodies)) (messages_of w.bodies)) whole
    ∙ ap (drop (length (messages_of R.bodies))) (same.messages ∙ sym (append-nil (messages_of R.bodies)))
    ∙ drop-append_seam (messages_of R.bodies) [] in
    let fault : stream_fault (past.bytes ++ piece) ≡ Some x = ap fault_in whole ∙ same.fault in
    let closed : new.link ≡ Closed x = ap (λ (k : Kept). k.link) stays ∙ e in
    let stands : StandsFor new (with_piece past piece) = record {
      facts = ap (λ (k : Kept). facts_of k.known) stays ∙ s.facts ∙ sym (ap (fold (folded past.asked) past.facts) news);
      link = closed ∙ sym (ap link_of whole ∙ ap (λ f. link_by f r.tail) same.fault);
      asked = asks_closed new.link x (at new.asked) past.asked closed;
    } in
    (stands, is ∙ ap (λ (l : Link). answer_by (link_fault l)) closed ∙ sym (ap answer_by fault))

taken : (link : Link) (old new : Kept) (piece : List ℕ) (result : Result (Unit {0}) MirrorError) (past : Past) → old.link ≡ link
    → StandsFor old past
    → FedBy link old piece new → result ≡ answer_by (link_fault new.link) → Taken past piece result new
taken (Open tail) old new piece result past e s goes is = taken_open old new piece result past tail e s goes is
taken (Closed x) old new piece result past e s goes is = taken_closed old new piece result past x e s goes is

pub feeds_past : (old new : Kept) (piece : List ℕ) (result : Result (Unit {0}) MirrorError) → Feeds old piece result new → (past : Past)
    → StandsFor old past
    → FeedsPast past piece old result new
feeds_past old new piece result (inl went) past s = inl (taken old.link old new piece result past refl s went.0 went.1)
feeds_past old new piece result (inr none) past s = inr none

-- ---- the bodies that wait

pub waits_by : (waiting : List (List ℕ)) (body : List ℕ) → Some body ≡ first_of waiting → waiting ≡ body ∷ others_of waiting
waits_by [] body e = absurd (apart e) where
  apart : (let o : Option (List ℕ) = Some body in o) ≡ None → ⊥
  apart e = cc
waits_by (b ∷ bs) body e = ap (λ (x : List ℕ). x ∷ bs) (inner e) where
  inner : (let o : Option (List ℕ) = Some body in o) ≡ Some b → b ≡ body
  inner e = cc

pub smaller : (u v : Unframed) (body : List ℕ) → v ≡ lent_from u → Some body ≡ first_of u.waiting → length v.waiting < length u.waiting
smaller u v body lent first =
    let a : length v.waiting ≡ length (others_of u.waiting) = ap (λ (w : Unframed). length w.waiting) lent in
    let b : length u.waiting ≡ length (body ∷ others_of u.waiting) = ap length (waits_by u.waiting body first) in
    omega arith

pub messages_more : (u v : Unframed) (body : List ℕ) (m : Message) (so_far pushed all : List Message) → v ≡ lent_from u
    → Some body ≡ first_of u.waiting
    → message_of body ≡ Ok m → pushed ≡ so_far ++ m ∷ [] → so_far ++ messages_of u.waiting ≡ all → pushed ++ messages_of v.waiting ≡ all
messages_more u v body m so_far pushed all lent first is pushes told =
    let rest = messages_of (others_of u.waiting) in
    let here : messages_of u.waiting ≡ m ∷ rest =
    ap messages_of (waits_by u.waiting body first)
    ∙ ap (λ (x : Result Message MessageError). messages_in (x ∷ map message_of (others_of u.waiting))) is in
    ap (λ (w : Unframed). pushed ++ messages_of w.waiting) lent ∙ ap (λ (l : List Message). l ++ rest) pushes
    ∙ append_assoc so_far (m ∷ []) rest ∙ sym (ap (λ (l : List Message). so_far ++ l) here) ∙ told

pub error_more : (u v : Unframed) (body : List ℕ) (m : Message) (all : Option MessageError) → v ≡ lent_from u
    → Some body ≡ first_of u.waiting
    → message_of body ≡ Ok m → error_of u.waiting ≡ all → error_of v.waiting ≡ all
error_more u v body m all lent first is told =
    let here : error_of u.waiting ≡ error_of (others_of u.waiting) =
    ap error_of (waits_by u.waiting body first)
    ∙ ap (λ (x : Result Message MessageError). error_in (x ∷ map message_of (others_of u.waiting))) is in
    ap (λ (w : Unframed). error_of w.waiting) lent ∙ sym here ∙ told
