-- A mirror is told the requests that came.
use Rattle.watch_events.proofs.Common.{[], after, after_input, ap, append-nil, append_assoc, Err, false, FeedsPast, fold, inl, Input, inr, IsTold, List, map, None, nothing_past, Ok, Option, Past, reading_of, refl, requests_of, Result, Some, StandsFor, subst, sym, TellsBody, TellsOne, TellsPast, true, waits_by, with_request, ℕ, ◌++◌, ◌∙◌, ◌∷◌, ◌≡◌}
use Rattle.framing.specs.Streams.{Unframed, first_of, lent_from, others_of}
use Rattle.mirror.specs.Kept.{Kept}
use Rattle.mirror.specs.Streams.Input.{Sent, Fed}
use Rattle.mirror.specs.declared.error.MirrorError.{MirrorError}
use Rattle.mirror.specs.declared.error.MirrorError.TheVariants as mirror
use Rattle.protocol.specs.Reading.{Gives, incoming_of}
use Rattle.protocol.specs.declared.request.Incoming.{Incoming}
use Rattle.protocol.specs.declared.request.Incoming.TheVariants.{Request as IsRequest, Bad as IsBad, Ignored}
use Rattle.protocol.specs.declared.request.MessageError.{MessageError}
use Rattle.protocol.specs.declared.request.MessageError.TheVariants as message
use Rattle.protocol.specs.declared.request.Request.{Request as ARequest}
use Rattle.queues.specs.Arrivals.{asks_in, asks_of}
use Rattle.session_laws.specs.Editors.{requests_in}

-- ---- one input more

after_more : (past : Past) (xs : List Input) (x : Input) → fold after_input past (xs ++ x ∷ []) ≡ after_input (fold after_input past xs) x
after_more past [] x = refl
after_more past (y ∷ xs) x = after_more (after_input past y) xs x

sent_more : (xs : List ARequest) (r : ARequest) → map Sent (xs ++ r ∷ []) ≡ map Sent xs ++ Sent r ∷ []
sent_more [] r = refl
sent_more (x ∷ xs) r = ap (λ (l : List Input). Sent x ∷ l) (sent_more xs r)

-- ---- the requests in the bodies that wait

abbrev pub requests_left : List (List ℕ) → List ARequest
requests_left bodies = requests_in (asks_of bodies)

-- some were told, and these are left
pub record Telling (waiting : List (List ℕ)) (all : List ARequest) (k : Kept) : Type 0 where
  pub told : List ARequest
  pub stands : StandsFor k (after (map Sent told))
  pub rest : told ++ requests_left waiting ≡ all

pub first_telling : (bytes : List ℕ) (waiting : List (List ℕ)) (k : Kept) → waiting ≡ (reading_of 1048576 bytes).bodies
    → StandsFor k nothing_past → Telling waiting (requests_of bytes) k
first_telling bytes waiting k e st = record { told = []; stands = st; rest = ap requests_left e }

-- what the first body adds
abbrev pub requests_by : Incoming → List ARequest → List ARequest
requests_by (IsRequest r) rest = r ∷ rest
requests_by (IsBad seq command refusal) rest = rest
requests_by Ignored rest = rest

by_incoming : (incoming : Incoming) (messages : List (Result Incoming MessageError))
    → requests_in (asks_in (Ok incoming ∷ messages)) ≡ requests_by incoming (requests_in (asks_in messages))
by_incoming (IsRequest r) messages = refl
by_incoming (IsBad seq command refusal) messages = refl
by_incoming Ignored messages = refl

first_requests : (u v : Unframed) (body : List ℕ) (incoming : Incoming) → v ≡ lent_from u → Some body ≡ first_of u.waiting
    → Ok incoming ≡ incoming_of body → requests_left u.waiting ≡ requests_by incoming (requests_left v.waiting)
first_requests u v body incoming lent first is =
    ap requests_left (waits_by u.waiting body first)
    ∙ ap (λ (x : Result Incoming MessageError). requests_in (asks_in (x ∷ map incoming_of (others_of u.waiting)))) (sym is)
    ∙ by_incoming incoming (map incoming_of (others_of u.waiting))
    ∙ ap (λ (w : Unframed). requests_by incoming (requests_left w.waiting)) (sym lent)

next_by : (incoming : Incoming) (told left all : List ARequest) (old new : Kept) → TellsOne incoming old new
    → StandsFor old (after (map Sent told)) → told ++ requests_by incoming left ≡ all
    → (more : List ARequest) × StandsFor new (after (map Sent more)) × (more ++ left ≡ all)
next_by (IsRequest r) told left all old new tells st e = (
  told ++ r ∷ [],
  subst (StandsFor new) (sym (ap after (sent_more told r) ∙ after_more nothing_past (map Sent told) (Sent r)))
      (tells (after (map Sent told)) st),
  append_assoc told (r ∷ []) left ∙ e,
)
next_by (IsBad seq command refusal) told left all old new same st e =
    (told, subst (λ (k : Kept). StandsFor k (after (map Sent told))) (sym same) st, e)
next_by Ignored told left all old new same st e = (told, subst (λ (k : Kept). StandsFor k (after (map Sent told))) (sym same) st, e)

-- what a body means, told
pub tells_ok : (incoming : Incoming) (meant : Result Incoming MessageError) (old new : Kept) → Gives (Ok incoming) meant
    → TellsOne incoming old new → TellsBody meant true old new
tells_ok incoming meant old new is told = subst (λ (m : Result Incoming MessageError). TellsBody m true old new) is (refl, told)

pub tells_err : (error : MessageError) (meant : Result Incoming MessageError) (kept : Kept) → Gives (Err error) meant
    → (error ≡ message.NoMemory → ⊥) → TellsBody meant false kept kept
tells_err message.NoMemory meant kept gives never = absurd (never refl)
tells_err message.NotJson meant kept gives never =
    subst (λ (m : Result Incoming MessageError). TellsBody m false kept kept) gives (refl, refl)
tells_err message.NotAMessage meant kept gives never =
    subst (λ (m : Result Incoming MessageError). TellsBody m false kept kept) gives (refl, refl)
tells_err message.BadSeq meant kept gives never =
    subst (λ (m : Result Incoming MessageError). TellsBody m false kept kept) gives (refl, refl)

next_by_incoming : (u v : Unframed) (body : List ℕ) (incoming : Incoming) (all : List ARequest) (old new : Kept) → v ≡ lent_from u
    → Some body ≡ first_of u.waiting → Ok incoming ≡ incoming_of body
    → TellsOne incoming old new → Telling u.waiting all old → Telling v.waiting all new
next_by_incoming u v body incoming all old new lent first is tells t =
    let e = first_requests u v body incoming lent first is in
    let n = next_by incoming t.told (requests_left v.waiting) all old new tells t.stands
    (ap (λ (l : List ARequest). t.told ++ l) (sym e) ∙ t.rest) in
    record { told = n.0; stands = n.1; rest = n.2 }

pub next_telling : (u v : Unframed) (body : List ℕ) (all : List ARequest) (old new : Kept) → v ≡ lent_from u
    → Some body ≡ first_of u.waiting → TellsBody (incoming_of body) true old new → Telling u.waiting all old → Telling v.waiting all new
next_telling u v body all old new lent first tells t = by (incoming_of body) refl tells where
  by : (meant : Result Incoming MessageError) → incoming_of body ≡ meant → TellsBody meant true old new → Telling v.waiting all new
  by (Ok incoming) is told = next_by_incoming u v body incoming all old new lent first (sym is) told.1 t
  by (Err why) is told = absurd (let apart : true ≡ false = told.0 in cc)

-- ---- the end

none_left : (waiting : List (List ℕ)) → None ≡ first_of waiting → waiting ≡ []
none_left [] e = refl
none_left (b ∷ bs) e = absurd (apart e) where
  apart : (let o : Option (List ℕ) = None in o) ≡ Some b → ⊥
  apart e = cc

stands_all : (all : List ARequest) (waiting : List (List ℕ)) (k : Kept) (t : Telling waiting all k) → requests_left waiting ≡ []
    → StandsFor k (after (map Sent all))
stands_all all waiting k t none =
    let e : t.told ≡ all = sym (append-nil t.told) ∙ ap (λ (l : List ARequest). t.told ++ l) (sym none) ∙ t.rest in
    subst (λ (l : List ARequest). StandsFor k (after (map Sent l))) e t.stands

pub all_told : (all : List ARequest) (waiting : List (List ℕ)) (k : Kept) → None ≡ first_of waiting → Telling waiting all k
    → StandsFor k (after (map Sent all))
all_told all waiting k none t = stands_all all waiting k t (ap requests_left (none_left waiting none))

-- a body that is no message ends it
pub told_to_fault : (all : List ARequest) (waiting : List (List ℕ)) (body : List ℕ) (old new : Kept) → Some body ≡ first_of waiting
    → TellsBody (incoming_of body) false old new → Telling waiting all old → StandsFor new (after (map Sent all))
told_to_fault all waiting body old new first tells t = by (incoming_of body) refl tells where
  by : (meant : Result Incoming MessageError) → incoming_of body ≡ meant → TellsBody meant false old new
      → StandsFor new (after (map Sent all))
  by (Ok incoming) is told = absurd (let apart : false ≡ true = told.0 in cc)
  by (Err why) is told =
      let left : requests_left waiting ≡ [] =
      ap requests_left (waits_by waiting body first) ∙ ap
      (λ (x : Result Incoming MessageError). requests_in (asks_in (x ∷ map incoming_of (others_of waiting)))) is in
      subst (λ (k : Kept). StandsFor k (after (map Sent all))) (sym told.1) (stands_all all waiting old t left)

-- ---- one request, and the bytes

pub tells_request : (request : ARequest) (old new : Kept) (result : Result (Unit {0}) MirrorError) → (result ≡ Err mirror.NoMemory → ⊥)
    → ((past : Past) → StandsFor old past → TellsPast past request old result new)
    → (past : Past) → StandsFor old past → StandsFor new (with_request past request)
tells_request request old new result never h past st = by (h past st) where
  by : TellsPast past request old result new → StandsFor new (with_request past request)
  by (inl told) = told.0
  by (inr none) = absurd (never none.0)

pub is_told : (accepted got : List ℕ) (old new : Kept) (result : Result (Unit {0}) MirrorError) → (result ≡ Err mirror.NoMemory → ⊥)
    → StandsFor old (after (map Sent (requests_of accepted)))
    → ((past : Past) → StandsFor old past → FeedsPast past got old result new) → IsTold accepted got new
is_told accepted got old new result never st h = by (h (after (map Sent (requests_of accepted))) st) where
  by : FeedsPast (after (map Sent (requests_of accepted))) got old result new → IsTold accepted got new
  by (inl fed) = subst (StandsFor new) (sym (after_more nothing_past (map Sent (requests_of accepted)) (Fed got))) fed.0
  by (inr none) = absurd (never none.0)
