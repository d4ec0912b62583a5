-- Messages that are written first, and numbered at once, are those that are queued one after the other.
use Rattle.session.proofs.Common.{[], Act, AllocError, answer_of, answer_to, Answering, answering, answering_as, ap, append-nil, append_assoc, arith, Bool, call_of, cases_Bool, changed, closing, cond, draft_of, draft_on, draft_told, drafted, Drafted, drafted_all, eqb, false, first_pending, given_of, IfOk, inl, inr, is_active, IsEvent, IsPrepared, keepings, keeps, Kept, kept_changed, Lent, Limits, Link, List, lt-ltb, ltb, map, Message, nat_tests, needs_memory, next_turn, None, Now, Option, others_pending, Pending, performed, Prepared, refers, refl, Response, response_to, said_on, Some, subst, sym, Tell, Terms, true, ℕ, ◌++◌, ◌+◌, ◌∙◌, ◌∷◌, ◌≡◌, ◌≤◌}
use Rattle.std.specs.Prelude.{Result}
use Rattle.replies.specs.declared.event.Event.{Event}
use Rattle.handlers.specs.declared.change.Change.{Change}
use Rattle.handlers.specs.declared.answer.Answer.{Answer as AnAnswer}
use Rattle.session.specs.Kept.{settled}
use Rattle.queues.specs.Writing.{frame_of}

-- on this connection, where these requests wait
abbrev pub at : Option Link → List Pending → Kept → Kept
at l pending k = record k { now = record k.now { link = l; arrivals = record k.now.arrivals { pending = pending } } }

-- what was drafted is queued, and its numbers are given; these requests wait then
abbrev pub settling : Option Link → List Pending → Drafted → Kept → Kept
settling l rest d k = record k { now = settled l d.seq rest k.now; waiting = k.waiting ++ d.bytes }

-- after some messages, at least one, by the test whether the last number was given
abbrev after : Bool → Link → List Pending → Kept → Drafted → Kept
after b link rest k d = record k {
  now = record k.now {
    link = Some (record link { seq = d.seq; is_closing = cond b true link.is_closing });
    arrivals = record k.now.arrivals { pending = cond b [] rest };
  };
  waiting = k.waiting ++ d.bytes;
}

-- ---- one message more

one_told : (link : Link) (rest : List Pending) (k : Kept) (d : Drafted) (m : Message) → let last = k.now.limits.last_seq in
    let t = after (eqb d.seq last) link rest k d in
    keeps (said_on t.now.link m t.now.arrivals.pending) t
    ≡ after (eqb (drafted k.now.limits m d).seq last) link rest k (drafted k.now.limits m d)
one_told link rest k d m = grind (arith, nat_tests, append_assoc)

all_told : (events : List Event) (link : Link) (rest : List Pending) (k : Kept) (d : Drafted) →
    performed keepings (map Tell events) (after (eqb d.seq k.now.limits.last_seq) link rest k d)
    ≡ after (eqb (drafted_all k.now.limits events d).seq k.now.limits.last_seq) link rest k (drafted_all k.now.limits events d)
all_told [] link rest k d = refl
all_told (e ∷ es) link rest k d =
    ap (performed keepings (map Tell es)) (one_told link rest k d (IsEvent e))
    ∙ all_told es link rest k (drafted k.now.limits (IsEvent e) d)

-- the draft only grows
grows : (limits : Limits) (events : List Event) (d : Drafted) → d.seq ≤ (drafted_all limits events d).seq
grows limits [] d = omega arith
grows limits (e ∷ es) d =
    let more = grows limits es (drafted limits (IsEvent e) d) in grind (arith, nat_tests)

-- ---- where no number is left, nothing is said and nothing is written

-- without a connection none is
abbrev IsFull : Limits → Option Link → Type 0
IsFull limits l = ltb (draft_on limits l).seq limits.last_seq ≡ false

full_says : (l : Option Link) (m : Message) (pending rest : List Pending) (k : Kept) → IsFull k.now.limits l
    → keeps (said_on l m rest) (at l pending k) ≡ at l pending k
full_says l m pending rest k h = grind arith

full_told : (events : List Event) (l : Option Link) (pending : List Pending) (k : Kept) → IsFull k.now.limits l
    → performed keepings (map Tell events) (at l pending k) ≡ at l pending k
full_told [] l pending k h = refl
full_told (e ∷ es) l pending k h =
    ap (performed keepings (map Tell es)) (full_says l (IsEvent e) pending pending k h) ∙ full_told es l pending k h

full_written : (limits : Limits) (events : List Event) (d : Drafted) → ltb d.seq limits.last_seq ≡ false → drafted_all limits events d ≡ d
full_written limits [] d h = refl
full_written limits (e ∷ es) d h = rw h (full_written limits es d h)

-- such a draft settles nothing
settles_none : (l : Option Link) (pending rest : List Pending) (k : Kept)
    → settling l rest (draft_on k.now.limits l) (at l pending k) ≡ at l pending k
settles_none l pending rest k = grind (arith, nat_tests, append-nil)

-- ---- a message, and events after it

abbrev Says : Option Link → Kept → List Pending → List Pending → Message → List Event → Type 0
Says l k pending rest m events =
    performed keepings (map Tell events) (keeps (said_on l m rest) (at l pending k))
    ≡ settling l rest (drafted_all k.now.limits events (drafted k.now.limits m (draft_on k.now.limits l))) (at l pending k)

full_stays : (l : Option Link) (k : Kept) (pending rest : List Pending) (m : Message) (events : List Event) → IsFull k.now.limits l
    → Says l k pending rest m events
full_stays l k pending rest m events h =
    ap (performed keepings (map Tell events)) (full_says l m pending rest k h) ∙ full_told events l pending k h
    ∙ sym (rw h (ap (λ (d : Drafted). settling l rest d (at l pending k)) (full_written k.now.limits events (draft_on k.now.limits l) h)
    ∙ settles_none l pending rest k))

-- where one is left, the message takes it, and what follows is drafted after it
more_says : (link : Link) (k : Kept) (pending rest : List Pending) (m : Message) (events : List Event)
    → ltb link.seq k.now.limits.last_seq ≡ true → Says (Some link) k pending rest m events
more_says link k pending rest m events h =
    let first : Drafted = record { bytes = frame_of (link.seq + 1) m; seq = link.seq + 1 } in
    let g = grows k.now.limits events first in
    let rises = lt-ltb link.seq (drafted_all k.now.limits events first).seq (omega (arith, g)) in
    rw (h, rises) (all_told events link rest (at (Some link) pending k) first)

pub says : (l : Option Link) (k : Kept) (pending rest : List Pending) (m : Message) (events : List Event) → Says l k pending rest m events
says None k pending rest m events = full_stays None k pending rest m events (grind (arith, nat_tests))
says (Some link) k pending rest m events = elim (cases_Bool (ltb link.seq k.now.limits.last_seq)) [
  | inl h ↦ more_says link k pending rest m events h
  | inr h ↦ full_stays (Some link) k pending rest m events h
]

-- ---- events alone

pub tells_all : (events : List Event) (l : Option Link) (pending : List Pending) (k : Kept) →
    performed keepings (map Tell events) (at l pending k) ≡ settling l pending (drafted_all k.now.limits events (draft_on k.now.limits l))
    (at l pending k)
tells_all [] l pending k = sym (settles_none l pending pending k)
tells_all (e ∷ es) l pending k = says l k pending pending (IsEvent e) es

-- to an editor that has said all
abbrev pub tells_if : Bool → List Event → List Act
tells_if b events = cond b (map Tell events) []

told_if : (b : Bool) (events : List Event) (l : Option Link) (pending : List Pending) (k : Kept) →
    performed keepings (tells_if b events) (at l pending k) ≡ settling l pending
    (cond b (drafted_all k.now.limits events (draft_on k.now.limits l)) (draft_on k.now.limits l)) (at l pending k)
told_if true events l pending k = tells_all events l pending k
told_if false events l pending k = sym (settles_none l pending pending k)

pub tells_told : (events : List Event) (k : Kept) →
    performed keepings (tells_if (is_active k.now.link) events) k ≡ settling k.now.link k.now.arrivals.pending
    (draft_told k.now.limits k.now.link events) k
tells_told events k = told_if (is_active k.now.link) events k.now.link k.now.arrivals.pending k

-- ---- an answer

abbrev numbers_given : Kept → Drafted → Kept
numbers_given k d = record k { now = settled k.now.link d.seq (others_pending k.now.arrivals.pending) k.now }

abbrev written : Kept → Drafted → Kept
written k d = record k { waiting = k.waiting ++ d.bytes }

pub performed_append : (xs ys : List Act) (k : Kept) → performed keepings (xs ++ ys) k ≡ performed keepings ys (performed keepings xs k)
performed_append [] ys k = refl
performed_append (x ∷ xs) ys k = performed_append xs ys (keepings.perform x k)

answers : (link : Link) (p : Pending) (rest : List Pending) (k : Kept) (c : Change) (a : Answering) → changed c k.now.debuggee ≡ a.debuggee
    → call_of c ≡ a.references →
    let s = at (Some link) (p ∷ rest) k in
    let d = draft_of k.now.limits (Some link) p a in
    performed keepings (closing a.closes) (numbers_given (kept_changed c a.terms (written s d)) d) ≡ performed keepings (answering a) s
answers link p rest k c a e f =
    let m : Message = Response (response_to p.ask a.outcome) in
    let l = record link { terms = a.terms } in
    let t : Kept = record k { now = refers (record k.now { debuggee = a.debuggee }) a.references } in
    rw (e, f) (sym (performed_append (map Tell a.events) (closing a.closes) (keeps (said_on (Some l) m rest) (at (Some l) (p ∷ rest) t))
    ∙ ap (performed keepings (closing a.closes)) (says (Some l) t (p ∷ rest) rest m a.events)))

-- what is kept once an answer that was written is queued, and its change is made, is what the turn leaves
abbrev Turns : Option (List ℕ) → Link → Pending → Prepared → Kept → Type 0
Turns file link p r k = IsPrepared k.now p (answer_to k.now link.terms file p) r → (t : Kept)
    → t ≡ kept_changed r.change r.terms (written k r.draft)
    → performed keepings (closing r.closes) (numbers_given t r.draft)
    ≡ performed keepings (next_turn k.now link.terms file k.now.arrivals.pending).acts k

at_once : (k : Kept) (link : Link) (file : Option (List ℕ)) (p : Pending) (rest : List Pending) (r : Prepared)
    → Turns file link p r (at (Some link) (p ∷ rest) k)
at_once k link file p rest r h t e =
    let a = answer_to (at (Some link) (p ∷ rest) k).now link.terms file p in
    rw (e, h.draft, h.terms, h.closes) (answers link p rest k r.change a h.debuggee h.references)

first_is : (pending : List Pending) (p : Pending) → Some p ≡ first_pending pending → pending ≡ p ∷ others_pending pending
first_is pending p e = grind arith

pub first_answers : (k t : Kept) (link : Link) (file : Option (List ℕ)) (p : Pending) (r : Prepared)
    → k.now.link ≡ Some link → Some p ≡ first_pending k.now.arrivals.pending → IsPrepared k.now p (answer_to k.now link.terms file p) r
    → t ≡ kept_changed r.change r.terms (written k r.draft)
    → performed keepings (closing r.closes) (numbers_given t r.draft) ≡ performed keepings (next_turn k.now link.terms file k.now.arrivals.pending).acts k
first_answers k t link file p r is_link first prepared changed =
    let rest = others_pending k.now.arrivals.pending in
    let waits = first_is k.now.arrivals.pending p first in
    let here : k ≡ at (Some link) (p ∷ rest) k = λ i. at (is_link i) (waits i) k in
    (subst (Turns file link p r) (sym here) (at_once k link file p rest r)) prepared t changed

-- an answer needs memory
pub answer_needs : (now : Now) (terms : Terms) (file : Option (List ℕ)) (pending : List Pending) (p : Pending)
    → Some p ≡ first_pending pending → needs_memory (next_turn now terms file pending).acts ≡ true
answer_needs now terms file pending p e = grind arith

-- an answer that was written is the one to the request, where what it was lent is the session's
pub prepared_so : (now : Now) (lent : Lent) (terms : Terms) (file : Option (List ℕ)) (p : Pending) (a : AnAnswer)
    (result : Result Prepared AllocError) → lent ≡ record { given = given_of now; terms = terms; file = file }
    → answering_as lent.given.debuggee a ≡ answer_of lent p → IfOk result (λ r. IsPrepared now p (answering_as now.debuggee a) r)
    → IfOk result (λ r. IsPrepared now p (answer_to now terms file p) r)
prepared_so now lent terms file p a result is answers prepared =
    let e : answering_as now.debuggee a ≡ answer_to now terms file p = rw is at answers in
    subst (λ (x : Answering). IfOk result (λ r. IsPrepared now p x r)) e prepared
