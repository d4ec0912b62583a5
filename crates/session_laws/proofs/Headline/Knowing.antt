-- Each success answers the first request that came with its number.
use Rattle.session_laws.proofs.Headline.Common.{[], after_answer, All, All-head, All-map, All-nil, All-push, All-tail, All-weaker, all_joined, AllKnown, and_parts, answer_to, answering, Answering, ap, append-nil, append_assoc, arith, Arrivals, Ask, asks_of, Bad, Beginning, Cancelled, cancelled_by, cancels, cond-false, demand_of, Done, each_life, eq-eqb, eqb, Event as Told, false, Fate, fate_of_cancel, first_asked, given_of, Happened, histories, if_keeps, is_above, is_named, is_repeat, is_taken_in, IsEvent, IsKnown, IsKnownBy, IsKnownIn, joined, KeptByEvents, le-ltb, Link, List, ltb, map, Meets, Message, name_of, nat_tests, ne_eqb, None, not-true, Now, number_of, of_answer, on, on_with, Option, option_or, Pending, pending_with, performed, performed_on, Reached, reached_by_events, read_on, refl, Refusal, refusing, Repeated, replied_on, Request as ARequest, Response as IsResponse, response_to, run_of, Said, said_by, said_next, saying, Session, Some, start, success_of, SuccessesAreKnown, sym, Tell, Terms, true, Waits, with_change, ℕ, ⊤, ◌++◌, ◌+◌, ◌∙◌, ◌∷◌, ◌≡◌}
use Rattle.queues.specs.declared.pending.Ask.TheVariants.{Request}

-- ---- more requests come

first_append : (xs ys : List Ask) (number : ℕ) → first_asked (xs ++ ys) number ≡ option_or (first_asked xs number) (first_asked ys number)
first_append [] ys number = refl
first_append (Request r ∷ xs) ys number = grind (arith, first_append xs ys number)
first_append (Bad seq command refusal ∷ xs) ys number = first_append xs ys number

-- the first stays, and where there is none the next is
pub first_more : (xs ys : List Ask) (number : ℕ) (r : ARequest) → first_asked xs number ≡ Some r → first_asked (xs ++ ys) number ≡ Some r
first_more xs ys number r e =
    first_append xs ys number ∙ ap (λ (x : Option ARequest). option_or x (first_asked ys number)) e

said_more : (xs ys : List Ask) (m : Message) → IsKnownIn xs m → IsKnownIn (xs ++ ys) m
said_more xs ys m k = grind (arith, first_more)

-- ---- requests that wait

-- none has a number above the highest
abbrev pub Within : Option ℕ → List Ask → Type 0
Within highest asks = All (λ (ask : Ask). is_above highest (number_of ask) ≡ false) asks

-- it is the first of its number
abbrev pub IsFirst : List Ask → Ask → Type 0
IsFirst asks (Request r) = first_asked asks r.seq ≡ Some r
IsFirst asks (Bad seq command refusal) = ⊤

-- or else a repeat
abbrev pub WaitsFirst : List Ask → Pending → Type 0
WaitsFirst asks p = is_repeat p.fate ≡ false → IsFirst asks p.ask

pub record Kept (asks : List Ask) (came : Arrivals) : Type 0 where
  pub highest : Within came.highest asks
  pub waits : All (WaitsFirst asks) came.pending

is_first_more : (xs ys : List Ask) (ask : Ask) → IsFirst xs ask → IsFirst (xs ++ ys) ask
is_first_more xs ys ask e = grind (arith, first_more)

none_yet : (highest : Option ℕ) (asks : List Ask) (number : ℕ) → Within highest asks → is_above highest number ≡ true
    → first_asked asks number ≡ None
none_yet highest [] number h e = refl
none_yet highest (Bad seq command refusal ∷ asks) number h e =
    none_yet highest asks number (All-tail (λ (a : Ask). is_above highest (number_of a) ≡ false) (Bad seq command refusal) asks h) e
none_yet highest (Request r ∷ asks) number h e =
    let low = All-head (λ (a : Ask). is_above highest (number_of a) ≡ false) (Request r) asks h in
    cond-false (eqb r.seq number) _ _
    (ne_eqb r.seq number (λ same. let no : true ≡ false = sym e ∙ sym (ap (is_above highest) same) ∙ low in cc))
    ∙ none_yet highest asks number (All-tail (λ (a : Ask). is_above highest (number_of a) ≡ false) (Request r) asks h) e

comes_first : (highest : Option ℕ) (asks : List Ask) (ask : Ask) → Within highest asks → is_above highest (number_of ask) ≡ true
    → IsFirst (asks ++ ask ∷ []) ask
comes_first highest asks (Request r) h e =
    grind (arith, first_append asks (Request r ∷ []) r.seq, none_yet highest asks r.seq h e, eq-eqb r.seq r.seq refl)
comes_first highest asks (Bad seq command refusal) h e = tt

-- ---- a request comes

cancels_first : (asks : List Ask) (id : _) (pending : List Pending) → All (WaitsFirst asks) pending
    → All (WaitsFirst asks) (map (cancelled_by id) pending)
cancels_first asks id pending h =
    All-map (WaitsFirst asks) (cancelled_by id) pending (All-weaker (WaitsFirst asks) (λ (p : Pending). WaitsFirst asks (cancelled_by id p))
    (λ p first. if_keeps (WaitsFirst asks) (is_named id p) (record p { fate = Cancelled }) p
    (λ e _. first (not-true (is_repeat p.fate) (and_parts _ _ e).0)) (λ _. first)) pending h)

waits_with : (asks : List Ask) (cancelled : Option _) (pending : List Pending) (ask : Ask) → All (WaitsFirst asks) pending
    → IsFirst asks ask → All (WaitsFirst asks) (pending_with cancelled pending ask)
waits_with asks None pending ask h first = All-push (WaitsFirst asks) pending (record { ask = ask; fate = Waits }) h (λ _. first)
waits_with asks (Some id) pending ask h first =
    All-push (WaitsFirst asks) (map (cancelled_by id) pending) (record { ask = ask; fate = fate_of_cancel id pending })
    (cancels_first asks id pending h) (λ _. first)

-- whatever is not above the highest is not above one that is
not_above : (highest : Option ℕ) (low high : ℕ) → is_above highest low ≡ false → is_above highest high ≡ true → ltb high low ≡ false
not_above highest low high a b = grind (arith, nat_tests)

joined_keeps : (asks : List Ask) (came : Arrivals) (ask : Ask) → Kept asks came → Kept (asks ++ ask ∷ []) (joined came ask)
joined_keeps asks came ask h =
    let now : List Ask = asks ++ ask ∷ [] in
    let more = All-weaker (WaitsFirst asks) (WaitsFirst now) (λ p first e. is_first_more asks (ask ∷ []) p.ask (first e)) came.pending h.waits in
    if_keeps (Kept now) (is_above came.highest (number_of ask)) _ _
    (λ e. record {
      highest =
          All-push (λ (a : Ask). ltb (number_of ask) (number_of a) ≡ false) asks ask
          (All-weaker (λ (a : Ask). is_above came.highest (number_of a) ≡ false) (λ (a : Ask). ltb (number_of ask) (number_of a) ≡ false)
          (λ a low. not_above came.highest (number_of a) (number_of ask) low e) asks h.highest)
          (le-ltb (number_of ask) (number_of ask) (omega arith));
      waits = waits_with now (cancels ask) came.pending ask more (comes_first came.highest asks ask h.highest e);
    })
    (λ e. record {
      highest = All-push (λ (a : Ask). is_above came.highest (number_of a) ≡ false) asks ask h.highest e;
      waits = All-push (WaitsFirst now) came.pending (record { ask = ask; fate = Repeated }) more (λ f. absurd (let no : true ≡ false = f in cc));
    })

all_joined_keep : (more asks : List Ask) (came : Arrivals) → Kept asks came → Kept (asks ++ more) (all_joined came more)
all_joined_keep [] asks came h = rw (append-nil asks) h
all_joined_keep (ask ∷ more) asks came h =
    rw (← append_assoc asks (ask ∷ []) more) (all_joined_keep more (asks ++ ask ∷ []) (joined came ask) (joined_keeps asks came ask h))

-- ---- the answer to a request

-- What holds of each refusal, and of the success of a request that is the first of its number, holds of the answer.
pub of_waiting : (P : Ask → Answering → Type 0) (asks : List Ask) (now : Now) (terms : Terms) (file : Option (List ℕ)) (p : Pending)
    → WaitsFirst asks p → ((refusal : Refusal) → P p.ask (refusing (given_of now) terms refusal None))
    → ((r : ARequest) → first_asked asks r.seq ≡ Some r → is_taken_in terms.phase r.command ≡ true → Meets (run_of now.debuggee.program) (demand_of r.command) → P (Request r) (success_of (given_of now) terms file r.command))
    → P p.ask (answer_to now terms file p)
of_waiting P asks now terms file p first refuses succeeds = by p.ask p.fate first refuses where
  by : (ask : Ask) (fate : Fate) → WaitsFirst asks (record { ask = ask; fate = fate })
      → ((refusal : Refusal) → P ask (refusing (given_of now) terms refusal None))
      → P ask (answer_to now terms file (record { ask = ask; fate = fate }))
  by ask Repeated first refuses = refuses _
  by ask fate first refuses =
      of_answer (λ a x. ((refusal : Refusal) → P a (refusing (given_of now) terms refusal None)) → IsFirst asks a → P a x) now terms file ask fate
      (λ refusal _ refuses _. refuses refusal) (λ r taken meets _ first. succeeds r first taken meets) refuses (first refl)

answer_is_known : (asks : List Ask) (now : Now) (terms : Terms) (file : Option (List ℕ)) (p : Pending) → WaitsFirst asks p
    → (let a = answer_to now terms file p in IsKnownBy asks (number_of p.ask) (response_to p.ask a.outcome).command a.outcome)
answer_is_known asks now terms file p first =
    of_waiting (λ ask a. IsKnownBy asks (number_of ask) (response_to ask a.outcome).command a.outcome) asks now terms file p first (λ _. tt)
    (λ r first _ _. let k : IsKnown asks r.seq (name_of r.command) = record { request = r; first = first; named = refl } in
    elim (success_of (given_of now) terms file r.command).outcome as (IsKnownBy asks r.seq (name_of r.command)) [ Done _ ↦ k | _ ↦ tt ])

-- ---- a session

abbrev pub KeptOn : Option Link → List Ask → Arrivals → Type 0
KeptOn None asks came = Unit {0}
KeptOn (Some l) asks came = Kept asks came

pub record Knows (s : Session) : Type 0 where
  pub before : All AllKnown s.before
  pub present : AllKnown s.life
  pub asks : KeptOn s.now.link s.life.heard s.now.arrivals

-- a message is queued, where its number may have been the last
saying_keeps : (l : Link) (m : Message) (rest : List Pending) (s : Session) → IsKnownIn s.life.heard m → All (WaitsFirst s.life.heard) rest
    → Knows (on (Some l) s) → Knows (saying l m rest (on (Some l) s))
saying_keeps l m rest s known waits h = record {
  before = h.before;
  present = All-push (λ (m : Said). IsKnownIn s.life.heard m.message) s.life.said (said_next s.now l m) h.present known;
  asks = record {
    highest = h.asks.highest;
    waits =
        if_keeps (All (WaitsFirst s.life.heard)) (eqb (l.seq + 1) s.now.limits.last_seq) [] rest (λ _. All-nil (WaitsFirst s.life.heard))
        (λ _. waits);
  };
}

all_told_keep : (events : List Told) (s : Session) → Knows s → Knows (performed histories (map Tell events) s)
all_told_keep [] s h = h
all_told_keep (e ∷ es) s h =
    all_told_keep es (performed_on (Tell e) s) (said_by Knows s.now.link (IsEvent e) s.now.arrivals.pending s
    (λ l _ x. saying_keeps l (IsEvent e) s.now.arrivals.pending s tt x.asks.waits x) h)

answering_keeps : (l : Link) (p : Pending) (rest : List Pending) (s : Session) (a : Answering)
    → IsKnownBy s.life.heard (number_of p.ask) (response_to p.ask a.outcome).command a.outcome
    → Knows (on_with (Some l) (p ∷ rest) s) → Knows (performed histories (answering a) (on_with (Some l) (p ∷ rest) s))
answering_keeps l p rest s a known h =
    let k : Link = record l { terms = a.terms } in
    let t = on_with (Some k) (p ∷ rest) (with_change a s) in
    let changed : Knows t = record { before = h.before; present = h.present; asks = h.asks } in
    after_answer Knows (λ _ _ h. record { before = h.before; present = h.present; asks = h.asks }) a.events a.closes
    (replied_on (p ∷ rest) a.outcome t) (all_told_keep a.events (replied_on (p ∷ rest) a.outcome t)
    (if_keeps Knows (ltb l.seq s.now.limits.last_seq) _ _
    (λ _. saying_keeps k (IsResponse (response_to p.ask a.outcome)) rest t known (All-tail (WaitsFirst s.life.heard) p rest h.asks.waits) changed)
    (λ _. changed)))

-- ---- every session

pub knows : KeptByEvents Knows
knows = record {
  opens = λ s h. record {
    before = All-push AllKnown s.before s.life h.before h.present;
    present = All-nil (λ (m : Said). IsKnownIn [] m.message);
    asks = record { highest = All-nil (λ (a : Ask). is_above None (number_of a) ≡ false); waits = All-nil (WaitsFirst []) };
  };
  closes = λ s h. record { before = h.before; present = h.present; asks = tt };
  accepts = λ l piece s e h.
      let heard = s.life.heard in
      let asks = asks_of (read_on s.now piece).bodies in
      record {
        before = h.before;
        present =
            All-weaker (λ (m : Said). IsKnownIn heard m.message) (λ (m : Said). IsKnownIn (heard ++ asks) m.message)
            (λ m k. said_more heard asks m.message k) s.life.said h.present;
        asks = all_joined_keep asks heard s.now.arrivals h.asks;
      };
  becomes = λ d s h. record { before = h.before; present = h.present; asks = h.asks };
  tells = λ l event s _ _ _ h. saying_keeps l (IsEvent event) s.now.arrivals.pending s tt h.asks.waits h;
  answers = λ l p rest file s _ _ _ h.
      let t = on_with (Some l) (p ∷ rest) s in
      answering_keeps l p rest s (answer_to t.now l.terms file p)
      (answer_is_known s.life.heard t.now l.terms file p (All-head (WaitsFirst s.life.heard) p rest h.asks.waits)) h;
  takes = λ n s h. record { before = h.before; present = h.present; asks = h.asks };
}

pub knows_at_first : (from : Beginning) → Knows (start from)
knows_at_first from = record { before = All-nil AllKnown; present = All-nil (λ (m : Said). IsKnownIn [] m.message); asks = tt }

pub successes_are_known : (from : Beginning) (events : List Happened) → SuccessesAreKnown (Reached from events)
successes_are_known from events =
    let s = Reached from events in
    let h : Knows s = reached_by_events Knows knows from (knows_at_first from) events in
    each_life AllKnown s (knows_at_first from).present h.before h.present
