-- Wherever what an editor sends is cut, the session takes the same of it.
use Rattle.session_laws.proofs.Common.{[], Accept, accepted_on, accepting, all_joined, Answer, ap, append_assoc, arith, Arrivals, Ask, asks_of, Beginning, BODY_LIMIT, Bool, Busy, Closing, cond, CutsDoNotMatter, done, Effect, Err, false, fault_of_reading, FaultIsOfTheBytes, Happened, histories, inl, inr, is_some, IsTaken, joined, leb, length, Link, LinkFault, List, ltb, MOST_PENDING, MOST_PIECE, None, Ok, Option, Outcome, outcome, outcome_at, performed, PieceTooLong, Reached, read_on, Reading, reading_after, reading_of, Received, Recv, refl, refused, RequestsAreRead, Session, Some, subst, sym, Tail, tail_kept, true, with_bodies, ℕ, ◌++◌, ◌∙◌, ◌∷◌, ◌≡◌, ◌⊎◌}
use Rattle.session_laws.proofs.Waiting.{Kept, always_kept, always_lived, by_link}
use Rattle.session_laws.proofs.Reading.{fault_stays, goes_on, whole_goes_on, up_to_fault-append, ends_at_fault, reading_after-append, none_if}

-- ---- the requests of a connection are those of its bytes

pub requests_are_read : (from : Beginning) (events : List Happened) → RequestsAreRead (Reached from events)
requests_are_read from events = λ c. (always_lived from events c).read

pub fault_is_of_the_bytes : (from : Beginning) (events : List Happened) → FaultIsOfTheBytes (Reached from events)
fault_is_of_the_bytes from events = (always_kept from events).faulty

-- ---- a piece that is taken

abbrev choice : Bool → Bool → Bool → List ℕ → Outcome
choice closing long busy piece =
    cond closing (refused Closing) (cond long (refused PieceTooLong) (cond busy (refused Busy) (done Received (Accept piece ∷ []))))

-- it is taken, or turned away
chosen : (closing long busy : Bool) (piece : List ℕ) → let o = choice closing long busy piece in
    (o.answer ≡ Ok Received → (closing ≡ false) × (o.acts ≡ Accept piece ∷ []))
    × (o.answer ≡ Err Closing → (closing ≡ true) × (o.acts ≡ []))
chosen closing long busy piece = grind arith

pub record Taken (s : Session) (piece : List ℕ) : Type 0 where
  pub link : Link
  pub is : s.now.link ≡ Some link
  pub goes_on : link.is_closing ≡ false
  pub acts : (outcome (histories.see s) (Recv piece)).acts ≡ Accept piece ∷ []

taken_on : (s : Session) (piece : List ℕ) (link : Option Link) → s.now.link ≡ link
    → (outcome_at (histories.see s) link (Recv piece)).answer ≡ Ok Received → Taken s piece
taken_on s piece None e h = cc
taken_on s piece (Some l) e h =
    let so = (chosen l.is_closing (ltb MOST_PIECE (length piece)) (leb MOST_PENDING (length s.now.arrivals.pending)) piece).0 h in
    record { link = l; is = e; goes_on = so.0; acts = ap (λ k. (outcome_at (histories.see s) k (Recv piece)).acts) e ∙ so.1 }

taken_is : (s : Session) (piece : List ℕ) → IsTaken s piece → Taken s piece
taken_is s piece h = taken_on s piece s.now.link refl h

leaves : (s : Session) (piece : List ℕ) (w : Taken s piece) (l : Link) → s.now.link ≡ Some l → l.is_closing ≡ false
    → Effect s (Recv piece) ≡ accepting l piece s
leaves s piece w l e n =
    ap (λ acts. performed histories acts s) w.acts ∙ ap (λ x. accepted_on x piece s) e ∙ ap (λ b. cond b s (accepting l piece s)) n

closed_to : (s : Session) (piece : List ℕ) (l : Link) → s.now.link ≡ Some l → Answer s (Recv piece) ≡ Err Closing
    → (l.is_closing ≡ true) × (Effect s (Recv piece) ≡ s)
closed_to s piece l e h =
    let so = (chosen l.is_closing (ltb MOST_PIECE (length piece)) (leb MOST_PENDING (length s.now.arrivals.pending)) piece).1
    (sym (ap (λ k. (outcome_at (histories.see s) k (Recv piece)).answer) e) ∙ h) in (
      so.0,
      ap (λ k. performed histories (outcome_at (histories.see s) k (Recv piece)).acts s) e ∙ ap
          (λ acts. performed histories acts s) so.1,
    )

-- ---- two pieces, and one

-- a session in which so much was taken
abbrev with_all : Session → Link → Option LinkFault → Arrivals → Tail → List Ask → List ℕ → Session
with_all s l fault came tail heard stream = record s {
  now = record s.now { link = Some (record l { is_closing = is_some fault }); arrivals = came; tail = tail; fault = fault };
  life = record s.life { accepted = stream; heard = heard };
}

all_joined-append : (xs ys : List Ask) (came : Arrivals) → all_joined (all_joined came xs) ys ≡ all_joined came (xs ++ ys)
all_joined-append [] ys came = refl
all_joined-append (x ∷ xs) ys came = all_joined-append xs ys (joined came x)

-- the second piece is taken too
both : (s : Session) (l : Link) (prefix after : List ℕ) → fault_of_reading (read_on s.now prefix) ≡ None → (k : Link)
    → k ≡ record l { is_closing = is_some (fault_of_reading (read_on s.now prefix)) }
    → accepting k after (accepting l prefix s) ≡ accepting l (prefix ++ after) s
both s l prefix after none k e =
    let r1 = read_on s.now prefix in
    let r2 = read_on (accepting l prefix s).now after in
    let r12 = read_on s.now (prefix ++ after) in
    let first = asks_of r1.bodies in
    let joins : with_bodies r1.bodies r2 ≡ r12 =
    ap (λ f. with_bodies r1.bodies (reading_after BODY_LIMIT (tail_kept f r1.tail) after)) none
    ∙ sym (reading_after-append s.now.tail prefix after) in
    let so = goes_on r1 r2 none in
    let fault : fault_of_reading r2 ≡ fault_of_reading r12 = sym so.1 ∙ ap fault_of_reading joins in
    let asks : first ++ asks_of r2.bodies ≡ asks_of r12.bodies = sym so.0 ∙ ap (λ (r : Reading). asks_of r.bodies) joins in
    let came : all_joined (all_joined s.now.arrivals first) (asks_of r2.bodies) ≡ all_joined s.now.arrivals (asks_of r12.bodies) =
    all_joined-append first (asks_of r2.bodies) s.now.arrivals ∙ ap (all_joined s.now.arrivals) asks in
    let heard : (s.life.heard ++ first) ++ asks_of r2.bodies ≡ s.life.heard ++ asks_of r12.bodies =
    append_assoc s.life.heard first (asks_of r2.bodies) ∙ ap (λ x. s.life.heard ++ x) asks in
    let tail : tail_kept (fault_of_reading r2) r2.tail ≡ tail_kept (fault_of_reading r12) r12.tail =
    ap (λ f. tail_kept f r2.tail) fault ∙ ap (λ (r : Reading). tail_kept (fault_of_reading r12) r.tail) joins in
    let stream = up_to_fault-append s.life.accepted prefix after in
    ap (λ x. accepting x after (accepting l prefix s)) e ∙ (λ i. with_all s l (fault i) (came i) (tail i) (heard i) (stream i))

-- the first piece closes the connection
closes : (s : Session) (l : Link) (prefix after : List ℕ) → (reading_of BODY_LIMIT s.life.accepted).tail ≡ s.now.tail
    → fault_of_reading (reading_of BODY_LIMIT s.life.accepted) ≡ None → is_some (fault_of_reading (read_on s.now prefix)) ≡ true
    → accepting l prefix s ≡ accepting l (prefix ++ after) s
closes s l prefix after kept fine h =
    let r1 = read_on s.now prefix in
    let r12 = read_on s.now (prefix ++ after) in
    let same = fault_stays r1 after h in
    let joins : r12 ≡ with_bodies r1.bodies (reading_after BODY_LIMIT r1.tail after) = reading_after-append s.now.tail prefix after in
    let fault : fault_of_reading r1 ≡ fault_of_reading r12 = sym (ap fault_of_reading joins ∙ same.fault) in
    let asks : asks_of r1.bodies ≡ asks_of r12.bodies = sym (ap (λ (r : Reading). asks_of r.bodies) joins ∙ same.asks) in
    let tail : tail_kept (fault_of_reading r1) r1.tail ≡ tail_kept (fault_of_reading r12) r12.tail =
    grind (arith, h, fault) in
    let stream = ends_at_fault s.life.accepted prefix after (ap is_some (whole_goes_on s prefix kept fine).1 ∙ h) in
    λ i. with_all s l (fault i) (all_joined s.now.arrivals (asks i)) (tail i) (s.life.heard ++ asks i) (stream i)

cut : (s : Session) → Kept s → CutsDoNotMatter s
cut s h prefix after taken as_one then =
    let w = taken_is s prefix taken in
    let l = w.link in
    let left : Effect s (Recv prefix) ≡ accepting l prefix s = leaves s prefix w l w.is w.goes_on in
    let one : Effect s (Recv (prefix ++ after)) ≡ accepting l (prefix ++ after) s = leaves s (prefix ++ after)
    (taken_is s (prefix ++ after) as_one) l w.is w.goes_on in
    let so = (by_link s (Some l) h w.is).goes_on w.goes_on in
    ap (λ x. Effect x (Recv after)) left ∙ second l so.0 so.1
    (subst (λ x. IsTaken x after ⊎ (Answer x (Recv after) ≡ Err Closing)) left then) ∙ sym one where
      second : (l : Link) → (reading_of BODY_LIMIT s.life.accepted).tail ≡ s.now.tail
          → fault_of_reading (reading_of BODY_LIMIT s.life.accepted) ≡ None
          → IsTaken (accepting l prefix s) after ⊎ (Answer (accepting l prefix s) (Recv after) ≡ Err Closing)
          → Effect (accepting l prefix s) (Recv after) ≡ accepting l (prefix ++ after) s
      second l tail fine (inl t) =
          let mid = accepting l prefix s in
          let v = taken_is mid after t in
          let k = v.link in
          let same : record l { is_closing = is_some (fault_of_reading (read_on s.now prefix)) } ≡ k = let e = v.is in cc in
          let none : fault_of_reading (read_on s.now prefix) ≡ None = none_if (fault_of_reading (read_on s.now prefix))
          (ap (λ (x : Link). x.is_closing) same ∙ v.goes_on) in
          leaves mid after v k v.is v.goes_on ∙ both s l prefix after none k (sym same)
      second l tail fine (inr t) =
          let mid = accepting l prefix s in
          let c = closed_to mid after (record l { is_closing = is_some (fault_of_reading (read_on s.now prefix)) }) refl t in
          c.1 ∙ closes s l prefix after tail fine c.0

pub cuts_do_not_matter : (from : Beginning) (events : List Happened) → CutsDoNotMatter (Reached from events)
cuts_do_not_matter from events = cut (Reached from events) (always_kept from events)
