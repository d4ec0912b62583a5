-- The requests that came are those of the bytes that were accepted, and two pieces are as one.
use Rattle.session_laws.proofs.Common.{[], ap, append-nil, append_assoc, arith, Ask, asks_in, asks_of, Bad, BODY_LIMIT, cond-false, cond-true, Err, false, fault_in, fault_of, fault_of_reading, fault_or, Faulty, if_keeps, Ignored, Incoming, incoming_of, is_faulty, is_some, IsBad, IsRequest, List, map, map-append, message_fault_of, MessageError, None, nothing_stands, Ok, Option, Partial, read_on, Reading, reading_after, reading_of, reading_of-append, refl, Request, Result, Session, Some, sym, Tail, true, up_to_fault, with_bodies, ℕ, ◌++◌, ◌∙◌, ◌∷◌, ◌≡◌}

-- ---- messages after messages

-- the requests and the fault of all, by the fault of the first ones: after a fault nothing is looked at
abbrev Joins : Option MessageError → List Ask → List Ask → List Ask → Option MessageError → Option MessageError → Type 0
Joins None asks after all fault of_all = (all ≡ asks ++ after) × (of_all ≡ fault)
Joins (Some first) asks after all fault of_all = (all ≡ asks) × (of_all ≡ Some first)

one_more : (ask : Ask) (first : Option MessageError) (asks after all : List Ask) (fault of_all : Option MessageError)
    → Joins first asks after all fault of_all → Joins first (ask ∷ asks) after (ask ∷ all) fault of_all
one_more ask first asks after all fault of_all h = grind arith

joins_in : (xs ys : List (Result Incoming MessageError))
    → Joins (fault_in xs) (asks_in xs) (asks_in ys) (asks_in (xs ++ ys)) (fault_in ys) (fault_in (xs ++ ys))
joins_in [] ys = (refl, refl)
joins_in (Ok (IsRequest r) ∷ xs) ys = one_more (Request r) (fault_in xs) _ _ _ _ _ (joins_in xs ys)
joins_in (Ok (IsBad seq command refusal) ∷ xs) ys = one_more (Bad seq command refusal) (fault_in xs) _ _ _ _ _ (joins_in xs ys)
joins_in (Ok Ignored ∷ xs) ys = joins_in xs ys
joins_in (Err fault ∷ xs) ys = (refl, refl)

-- the same of bodies
joins_of : (xs ys : List (List ℕ)) (first : Option MessageError) → message_fault_of xs ≡ first
    → Joins first (asks_of xs) (asks_of ys) (asks_of (xs ++ ys)) (message_fault_of ys) (message_fault_of (xs ++ ys))
joins_of xs ys first e = rw (← e, map-append incoming_of xs ys) (joins_in (map incoming_of xs) (map incoming_of ys))

-- ---- a reading, and what is read after it

-- one without a fault is followed by its requests and its fault
pub goes_on : (r more : Reading) → fault_of_reading r ≡ None
    → (asks_of (with_bodies r.bodies more).bodies ≡ asks_of r.bodies ++ asks_of more.bodies)
    × (fault_of_reading (with_bodies r.bodies more) ≡ fault_of_reading more)
goes_on r more h =
    let none : message_fault_of r.bodies ≡ None = grind arith in
    let j = joins_of r.bodies more.bodies None none in
    (j.0, ap (λ m. fault_or m (fault_of more.tail)) j.1)

-- one with a fault, continued, has the same requests and the same fault
pub record SameFault (r : Reading) (more : Reading) : Type 0 where
  pub asks : asks_of (with_bodies r.bodies more).bodies ≡ asks_of r.bodies
  pub fault : fault_of_reading (with_bodies r.bodies more) ≡ fault_of_reading r

by_fault : (bodies : List (List ℕ)) (tail : Tail) (piece : List ℕ) (m : Option MessageError) → message_fault_of bodies ≡ m
    → is_some (fault_or m (fault_of tail)) ≡ true
    → SameFault (record { bodies = bodies; tail = tail }) (reading_after BODY_LIMIT tail piece)
by_fault bodies tail piece (Some fault) e h =
    let more = reading_after BODY_LIMIT tail piece in
    let j = joins_of bodies more.bodies (Some fault) e in
    record {
      asks = j.0;
      fault = ap (λ m. fault_or m (fault_of more.tail)) j.1 ∙ sym (ap (λ m. fault_or m (fault_of tail)) e);
    }
by_fault bodies (Partial rest) piece None e h = absurd (cc)
by_fault bodies (Faulty fault) piece None e h =
    record { asks = ap asks_of (append-nil bodies); fault = ap (λ l. fault_or (message_fault_of l) (Some fault)) (append-nil bodies) }

pub fault_stays : (r : Reading) (piece : List ℕ) → is_some (fault_of_reading r) ≡ true → SameFault r (reading_after BODY_LIMIT r.tail piece)
fault_stays r piece h = by_fault r.bodies r.tail piece (message_fault_of r.bodies) refl h

-- ---- up to a fault

-- so it is of a faulty stream
stays : (stream more : List ℕ) → is_faulty stream ≡ true
    → (asks_of (reading_of BODY_LIMIT (stream ++ more)).bodies ≡ asks_of (reading_of BODY_LIMIT stream).bodies)
    × (fault_of_reading (reading_of BODY_LIMIT (stream ++ more)) ≡ fault_of_reading (reading_of BODY_LIMIT stream))
stays stream more h =
    let same = fault_stays (reading_of BODY_LIMIT stream) more h in
    let e = reading_of-append BODY_LIMIT stream more in
    (ap (λ (r : Reading). asks_of r.bodies) e ∙ same.asks, ap fault_of_reading e ∙ same.fault)

-- what more of a faulty stream doesn't change is the same up to the fault as of all
same_up_to : {X : Type 0} (f : List ℕ → X) → ((stream more : List ℕ) → is_faulty stream ≡ true → f (stream ++ more) ≡ f stream)
    → (stream piece : List ℕ) → f (up_to_fault stream piece) ≡ f (stream ++ piece)
same_up_to f keeps stream [] = sym (ap f (append-nil stream))
same_up_to f keeps stream (b ∷ piece) =
    if_keeps (λ (x : List ℕ). f x ≡ f (stream ++ b ∷ piece)) (is_faulty stream) _ _ (λ e. sym (keeps stream (b ∷ piece) e))
    (λ _. same_up_to f keeps (stream ++ b ∷ []) piece ∙ ap f (append_assoc stream (b ∷ []) piece))

pub asks_up_to : (stream piece : List ℕ)
    → asks_of (reading_of BODY_LIMIT (up_to_fault stream piece)).bodies ≡ asks_of (reading_of BODY_LIMIT (stream ++ piece)).bodies
asks_up_to = same_up_to (λ l. asks_of (reading_of BODY_LIMIT l).bodies) (λ stream more h. (stays stream more h).0)

pub fault_up_to : (stream piece : List ℕ)
    → fault_of_reading (reading_of BODY_LIMIT (up_to_fault stream piece)) ≡ fault_of_reading (reading_of BODY_LIMIT (stream ++ piece))
fault_up_to = same_up_to (λ l. fault_of_reading (reading_of BODY_LIMIT l)) (λ stream more h. (stays stream more h).1)

-- a faulty stream takes nothing more
up_to_fault_faulty : (stream piece : List ℕ) → is_faulty stream ≡ true → up_to_fault stream piece ≡ stream
up_to_fault_faulty stream [] h = refl
up_to_fault_faulty stream (b ∷ piece) h = cond-true (is_faulty stream) _ _ h

-- a stream without a fault is taken whole
pub up_to_fault_all : (stream piece : List ℕ) → is_faulty (stream ++ piece) ≡ false → up_to_fault stream piece ≡ stream ++ piece
up_to_fault_all stream [] h = sym (append-nil stream)
up_to_fault_all stream (b ∷ piece) h =
    if_keeps (λ (x : List ℕ). x ≡ stream ++ b ∷ piece) (is_faulty stream) _ _
    (λ e. absurd (let no : true ≡ false = sym (ap is_some (stays stream (b ∷ piece) e).1 ∙ e) ∙ h in cc))
    (λ _. up_to_fault_all (stream ++ b ∷ []) piece (ap is_faulty (append_assoc stream (b ∷ []) piece) ∙ h)
    ∙ append_assoc stream (b ∷ []) piece)

pub up_to_fault-append : (stream prefix after : List ℕ)
    → up_to_fault (up_to_fault stream prefix) after ≡ up_to_fault stream (prefix ++ after)
up_to_fault-append stream [] after = refl
up_to_fault-append stream (b ∷ prefix) after =
    if_keeps (λ (x : List ℕ). up_to_fault x after ≡ up_to_fault stream (b ∷ prefix ++ after)) (is_faulty stream) _ _
    (λ e. up_to_fault_faulty stream after e ∙ sym (up_to_fault_faulty stream (b ∷ prefix ++ after) e))
    (λ e. up_to_fault-append (stream ++ b ∷ []) prefix after ∙ sym (cond-false (is_faulty stream) _ _ e))

pub ends_at_fault : (stream prefix after : List ℕ) → is_faulty (stream ++ prefix) ≡ true
    → up_to_fault stream prefix ≡ up_to_fault stream (prefix ++ after)
ends_at_fault stream prefix after h =
    sym (up_to_fault_faulty (up_to_fault stream prefix) after (ap is_some (fault_up_to stream prefix) ∙ h))
    ∙ up_to_fault-append stream prefix after

-- a piece is read on after a piece
pub reading_after-append : (tail : Tail) (prefix after : List ℕ) → reading_after BODY_LIMIT tail (prefix ++ after)
    ≡ with_bodies (reading_after BODY_LIMIT tail prefix).bodies (reading_after BODY_LIMIT (reading_after BODY_LIMIT tail prefix).tail after)
reading_after-append (Partial rest) prefix after =
    ap (reading_of BODY_LIMIT) (sym (append_assoc rest prefix after)) ∙ reading_of-append BODY_LIMIT (rest ++ prefix) after
reading_after-append (Faulty fault) prefix after = refl

pub none_if : {X : Type 0} (o : Option X) → is_some o ≡ false → o ≡ None
none_if o e = grind arith

-- ---- what a session reads on

-- what a stream and a piece are read as
pub whole : (s : Session) (piece : List ℕ) → (reading_of BODY_LIMIT s.life.accepted).tail ≡ s.now.tail
    → reading_of BODY_LIMIT (s.life.accepted ++ piece) ≡ with_bodies (reading_of BODY_LIMIT s.life.accepted).bodies (read_on s.now piece)
whole s piece e =
    reading_of-append BODY_LIMIT s.life.accepted piece ∙ ap
    (λ t. with_bodies (reading_of BODY_LIMIT s.life.accepted).bodies (reading_after BODY_LIMIT t piece)) e

pub whole_goes_on : (s : Session) (piece : List ℕ) → (reading_of BODY_LIMIT s.life.accepted).tail ≡ s.now.tail
    → fault_of_reading (reading_of BODY_LIMIT s.life.accepted) ≡ None → let all = reading_of BODY_LIMIT (s.life.accepted ++ piece) in
    (asks_of all.bodies ≡ asks_of (reading_of BODY_LIMIT s.life.accepted).bodies ++ asks_of (read_on s.now piece).bodies)
    × (fault_of_reading all ≡ fault_of_reading (read_on s.now piece))
whole_goes_on s piece e n =
    let so = goes_on (reading_of BODY_LIMIT s.life.accepted) (read_on s.now piece) n in
    (ap (λ (x : Reading). asks_of x.bodies) (whole s piece e) ∙ so.0, ap fault_of_reading (whole s piece e) ∙ so.1)

pub nothing_is_read : asks_of (reading_of BODY_LIMIT []).bodies ≡ []
nothing_is_read = ap (λ (r : Reading). asks_of r.bodies) (nothing_stands BODY_LIMIT).reads

pub nothing_is_wrong : fault_of_reading (reading_of BODY_LIMIT []) ≡ None
nothing_is_wrong = ap fault_of_reading (nothing_stands BODY_LIMIT).reads
