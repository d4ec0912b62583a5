-- What is kept of each connection: its bytes, those that were taken and those that wait; the numbers of its messages; and its requests,
-- of which those that are not answered wait. And the lives are at their numbers.
use Rattle.session_laws.proofs.Common.{[], All, All-nil, All-push, answered_as, answered_in, AnswersInOrder, ap, append-nil, append_assoc, AreNumberedFrom, arith, asked_as, asked_in, asks_of, Beginning, BODY_LIMIT, Bool, bytes_of, cond, drop, each_life, eqb, Event, EveryByteIsTakenOrWaits, false, fault_of_reading, flat_map, frame_said, get_or, get_or-append-add, Happened, is_some, IsPrefixOf, length, length-append, Life, life_of, Link, LinkFault, List, LivesAreNumbered, map, map-append, Message, names, nat_tests, no_life, None, nothing_stands, NumbersRise, Option, Pending, pending_as, Reached, reached_by_acts, read_on, Reading, reading_of, refl, Response, response_to, Said, said_next, saying, Session, Some, subst, sym, Tail, tail_kept, take, take-append-drop, up_to_fault, with_said, with_taken, ℕ, ◌++◌, ◌+◌, ◌<◌, ◌∙◌, ◌∷◌, ◌≡◌}
use Rattle.session_laws.proofs.Reading.{asks_up_to, fault_up_to, none_if, nothing_is_read, nothing_is_wrong, up_to_fault_all, whole, whole_goes_on}
use lib.Seq.{drop-nil, take-nil}
use Rattle.std.proofs.lemmas.List.Concat.{flat_map-append}
use Rattle.session_laws.proofs.Joining.{all_joined_as}
use Rattle.session_laws.proofs.ByForms.{on, on_with, KeptByAnswers, KeptByOthers, by_forms}

-- what holds of each connection
pub record Lived (life : Life) : Type 0 where
  pub taken : IsPrefixOf life.taken (bytes_of life)
  pub answered : IsPrefixOf (answered_in life) (asked_in life)
  pub numbered : AreNumberedFrom 1 life.said
  pub read : life.heard ≡ asks_of (reading_of BODY_LIMIT life.accepted).bodies

nothing_lived : Lived no_life
nothing_lived = record { taken = ([], refl); answered = ([], refl); numbered = tt; read = sym nothing_is_read }

-- and of the present one, by its last number, and whether it is closing: one that is not has no fault, and what has arrived of the next
-- frame is kept
pub record Lasts (seq last : ℕ) (closing : Bool) (waiting : List ℕ) (pending : List Pending) (tail : Tail) (life : Life) : Type 0 where
  pub waits : bytes_of life ≡ life.taken ++ waiting
  pub rest : seq < last → asked_in life ≡ answered_in life ++ pending_as pending
  pub counts : seq ≡ length life.said
  pub goes_on : closing ≡ false
      → ((reading_of BODY_LIMIT life.accepted).tail ≡ tail) × (fault_of_reading (reading_of BODY_LIMIT life.accepted) ≡ None)

abbrev pub Present : Option Link → ℕ → List ℕ → List Pending → Tail → Life → Type 0
Present None last waiting pending tail life = waiting ≡ []
Present (Some l) last waiting pending tail life = Lasts l.seq last l.is_closing waiting pending tail life

pub record KeptOf (connections : ℕ) (before : List Life) (life : Life) (fault : Option LinkFault) (IsPresent : Type 0) : Type 0 where
  pub count : length before ≡ connections
  pub ended : All Lived before
  pub lived : Lived life
  pub faulty : fault ≡ fault_of_reading (reading_of BODY_LIMIT life.accepted)
  pub present : IsPresent

abbrev pub PresentIn : Session → Option Link → Type 0
PresentIn s l = Present l s.now.limits.last_seq s.waiting s.now.arrivals.pending s.now.tail s.life

abbrev pub Kept : Session → Type 0
Kept s = KeptOf s.now.connections s.before s.life s.now.fault (PresentIn s s.now.link)

-- ---- a message is said

said_last : {X : Type 0} (f : Said → List X) (xs : List Said) (m : Said) → flat_map f (xs ++ m ∷ []) ≡ flat_map f xs ++ f m
said_last f xs m = flat_map-append f xs (m ∷ []) ∙ ap (λ l. flat_map f xs ++ l) (append-nil (f m))

numbered_more : (n : ℕ) (xs : List Said) (m : Said) → AreNumberedFrom n xs → m.seq ≡ n + length xs → AreNumberedFrom n (xs ++ m ∷ [])
numbered_more n [] m h e = (omega (arith, e), tt)
numbered_more n (x ∷ xs) m h e = (h.0, numbered_more (n + 1) xs m h.1 (omega (arith, e)))

-- what waits after it, by the test whether its number was the last
still_wait : (n last : ℕ) (rest : List Pending) → n < last → (let none : List Pending = [] in cond (eqb n last) none rest) ≡ rest
still_wait n last rest h = let other : eqb n last ≡ false = grind (arith, nat_tests) in rw other refl

-- it answers those that wait no more
says : (l : Link) (m : Message) (rest : List Pending) (s : Session) → pending_as s.now.arrivals.pending ≡ names m ++ pending_as rest
    → l.seq < s.now.limits.last_seq → Kept (on (Some l) s) → Kept (saying l m rest (on (Some l) s))
says l m rest s first few h =
    let said : Said = said_next s.now l m in
    let life : Life = with_said s.life said in
    let now : asked_in life ≡ answered_in life ++ pending_as rest =
    cc (h.present.rest few, first, append_assoc (answered_in s.life) (names m) (pending_as rest), said_last answered_as s.life.said said) in
    let waits : bytes_of life ≡ s.life.taken ++ (s.waiting ++ frame_said said) =
    cc (said_last frame_said s.life.said said, h.present.waits, append_assoc s.life.taken s.waiting (frame_said said)) in
    let e : l.seq ≡ length s.life.said = h.present.counts in
    let next : l.seq + 1 ≡ 1 + length s.life.said = omega (arith, e) in
    record {
      count = h.count;
      ended = h.ended;
      faulty = h.faulty;
      lived = record {
        taken = (s.waiting ++ frame_said said, waits);
        answered = (pending_as rest, now);
        numbered = numbered_more 1 s.life.said said h.lived.numbered next;
        read = h.lived.read;
      };
      present = record {
        waits = waits;
        rest = λ left. rw (still_wait (l.seq + 1) s.now.limits.last_seq rest left) now;
        counts = ap (λ n. n + 1) e ∙ sym (length-append s.life.said (said ∷ []));
        goes_on = λ e. h.present.goes_on (grind arith);
      };
    }

answers : KeptByAnswers Kept
answers = λ l p rest outcome s few h. says l (Response (response_to p.ask outcome)) rest (on_with (Some l) (p ∷ rest) s) refl few h

-- ---- bytes are taken

more_taken : (l : Option Link) (n last : ℕ) (waiting : List ℕ) (pending : List Pending) (tail : Tail) (life : Life) → Lived life
    → Present l last waiting pending tail life
    → Lived (with_taken life (take n waiting)) × Present l last (drop n waiting) pending tail (with_taken life (take n waiting))
more_taken None n last waiting pending tail life h none =
    let same : life.taken ++ take n waiting ≡ life.taken = cc (none, take-nil {A = ℕ} n, append-nil life.taken) in
    let taken : IsPrefixOf (life.taken ++ take n waiting) (bytes_of life) = rw same h.taken in
    (assumption taken, ap (drop n) none ∙ drop-nil n)
more_taken (Some l) n last waiting pending tail life h present =
    let waits : bytes_of life ≡ (life.taken ++ take n waiting) ++ drop n waiting = present.waits
    ∙ ap (λ l. life.taken ++ l) (sym (take-append-drop n waiting)) ∙ sym (append_assoc life.taken (take n waiting) (drop n waiting)) in (
      record { taken = (drop n waiting, waits); answered = h.answered; numbered = h.numbered; read = h.read },
      record { waits = waits; rest = present.rest; counts = present.counts; goes_on = present.goes_on },
    )

-- ---- every session

kept : KeptByOthers Kept
kept = record {
  opens = λ s h. record {
    count = length-append s.before (s.life ∷ []) ∙ ap (λ n. n + 1) h.count;
    ended = All-push Lived s.before s.life h.ended h.lived;
    lived = nothing_lived;
    faulty = sym nothing_is_wrong;
    present = record {
      waits = refl;
      rest = λ few. refl;
      counts = refl;
      goes_on = λ g. (ap (λ (r : Reading). r.tail) (nothing_stands BODY_LIMIT).reads, nothing_is_wrong);
    };
  };
  closes = λ s h. record { count = h.count; ended = h.ended; lived = h.lived; faulty = h.faulty; present = refl };
  accepts = λ l piece s e h.
      let r = read_on s.now piece in
      let asks = asks_of r.bodies in
      let more : map asked_as (s.life.heard ++ asks) ≡ asked_in s.life ++ map asked_as asks = map-append asked_as s.life.heard asks in
      let asked = h.lived.answered in
      let so = h.present.goes_on e in
      let all = whole_goes_on s piece so.0 so.1 in
      record {
        count = h.count;
        ended = h.ended;
        faulty = sym (fault_up_to s.life.accepted piece ∙ all.1);
        lived = record {
          taken = h.lived.taken;
          answered = (asked.0 ++ map asked_as asks, cc (more, asked.1, append_assoc (answered_in s.life) asked.0 (map asked_as asks)));
          numbered = h.lived.numbered;
          read = ap (λ x. x ++ asks) h.lived.read ∙ sym all.0 ∙ sym (asks_up_to s.life.accepted piece);
        };
        present = record {
          waits = h.present.waits;
          rest = λ few. let joins = all_joined_as asked_as asks s.now.arrivals in
              let same = append_assoc (answered_in s.life) (pending_as s.now.arrivals.pending) (map asked_as asks) in
              cc (more, h.present.rest few, same, joins);
          counts = h.present.counts;
          goes_on = λ g.
              let none : fault_of_reading r ≡ None = none_if (fault_of_reading r) g in
              let same : up_to_fault s.life.accepted piece ≡ s.life.accepted ++ piece =
              up_to_fault_all s.life.accepted piece (ap is_some (all.1 ∙ none)) in (
                ap (λ x. (reading_of BODY_LIMIT x).tail) same ∙ ap (λ (x : Reading). x.tail) (whole s piece so.0) ∙ sym
                    (ap (λ f. tail_kept f r.tail) none),
                ap (λ x. fault_of_reading (reading_of BODY_LIMIT x)) same ∙ all.1 ∙ none,
              );
        };
      };
  agrees = λ l terms s h. h;
  refers = λ l call s h. h;
  becomes = λ d s h. h;
  tells = λ l event s few h. says l (Event event) s.now.arrivals.pending s refl few h;
  hangs = λ l s h. record {
    count = h.count;
    ended = h.ended;
    lived = h.lived;
    faulty = h.faulty;
    present = record { waits = h.present.waits; rest = h.present.rest; counts = h.present.counts; goes_on = λ e. absurd (cc) };
  };
  takes = λ n s h.
      let more = more_taken s.now.link n s.now.limits.last_seq s.waiting s.now.arrivals.pending s.now.tail s.life h.lived h.present in
      record { count = h.count; ended = h.ended; lived = more.0; faulty = h.faulty; present = more.1 };
}

pub always_kept : (from : Beginning) (events : List Happened) → Kept (Reached from events)
always_kept from events =
    reached_by_acts Kept (by_forms Kept kept answers) from
    (record { count = refl; ended = All-nil Lived; lived = nothing_lived; faulty = sym nothing_is_wrong; present = refl }) events

pub always_lived : (from : Beginning) (events : List Happened) (c : ℕ) → Lived (life_of c (Reached from events))
always_lived from events =
    let h = always_kept from events in each_life Lived (Reached from events) nothing_lived h.ended h.lived

-- what is known of the present connection, by whether there is one
pub by_link : (s : Session) (l : Option Link) → Kept s → s.now.link ≡ l → PresentIn s l
by_link s l h e = subst (PresentIn s) e h.present

pub every_byte_is_taken_or_waits : (from : Beginning) (events : List Happened) → EveryByteIsTakenOrWaits (Reached from events)
every_byte_is_taken_or_waits from events = let s = Reached from events in let h = always_kept from events in record {
  prefixes = λ c. (always_lived from events c).taken;
  rest = λ link e. (by_link s (Some link) h e).waits;
  none = by_link s None h;
}

pub numbers_rise : (from : Beginning) (events : List Happened) → NumbersRise (Reached from events)
numbers_rise from events = λ c. (always_lived from events c).numbered

pub answers_in_order : (from : Beginning) (events : List Happened) → AnswersInOrder (Reached from events)
answers_in_order from events = record {
  prefixes = λ c. (always_lived from events c).answered;
  rest = λ link e. (by_link (Reached from events) (Some link) (always_kept from events) e).rest;
}

-- ---- the lives are at their numbers

pub all_counted : (from : Beginning) (events : List Happened) → length (Reached from events).before ≡ (Reached from events).now.connections
all_counted from events = (always_kept from events).count

pub lives_are_numbered : (from : Beginning) (events : List Happened) → LivesAreNumbered (Reached from events)
lives_are_numbered from events =
    let s = Reached from events in
    let counted = all_counted from events in
    let last : s.now.connections ≡ length s.before + 0 = omega (arith, counted) in
    ap (λ c. get_or (s.before ++ s.life ∷ []) c no_life) last ∙ get_or-append-add s.before (s.life ∷ []) 0 no_life
