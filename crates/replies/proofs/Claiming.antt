-- A value that is a message claims to be that one, and what a value claims to be is in order.
use Rattle.replies.proofs.Common.{and_parts, ap, arith, body_data, body_in, Bool, bytes_eq, cond, Data, event_body, event_name, false, get, has_numbers, IfSome, is_some, is_word, IsBodyOf, IsNumber, IsOutcomeOf, IsProper, IsProperEvent, IsProperResponse, lawful_whole, List, lt-ltb, ltb-true, member_if, Message, message_data, nat_lt, None, object, Option, option_and_then, option_map, outcome_data, refl, Refusal, ResponseBody, shared_members, Some, then_is, true, whole, ℕ, ◌<◌, ◌^◌, ◌≡◌}
use Rattle.std.proofs.Common.{◌&&◌, codes}
use Rattle.protocol.specs.Properties.{◌>>=◌}
use Rattle.protocol.specs.Refusals.{has_text, the_refusal_of_its_number}
use Rattle.replies.specs.declared.message.Message.TheVariants.{Response, Event}
use Rattle.replies.specs.declared.event.Event as event
use Rattle.replies.specs.declared.response.Response as response
use Rattle.replies.specs.declared.response.Outcome.{Outcome}
use Rattle.replies.specs.declared.response.Outcome.TheVariants.{Done, Refused}
use Rattle.replies.proofs.BodyTable.{body_in-done, body_in-proper}
use Rattle.replies.proofs.EventTable.{event_named-event_data, event_named-proper, with_body}
use Rattle.replies.specs.Claims.{kept_if, number_at, text_at, truth_at, seq_in, own_text, refusal_in, refused_in, error_in, outcome_in, response_in, event_in, message_of, claim_in}

-- ---- a value that is a message

-- a success with this body, if it has one
abbrev done_data : ℕ → ℕ → List ℕ → Option Data → Data
done_data seq request_seq command body = object (member_if (codes "body") (λ d. d) body (shared_members seq request_seq command true))

kept_seq : (seq : ℕ) → IsNumber seq → kept_if (λ n. nat_lt 0 n && nat_lt n (2 ^ 31)) (Some seq) ≡ Some seq
kept_seq seq h = rw (lt-ltb 0 seq (omega arith), lt-ltb seq (2 ^ 31) (omega arith)) refl

seq_in-done : (seq request_seq : ℕ) (command : List ℕ) (body : Option Data) → IsNumber seq
    → seq_in (done_data seq request_seq command body) ≡ Some seq
seq_in-done seq request_seq command None h = kept_seq seq h
seq_in-done seq request_seq command (Some body) h = kept_seq seq h

seq_in-outcome_data : (seq request_seq : ℕ) (command : List ℕ) (outcome : Outcome) → IsNumber seq
    → seq_in (outcome_data seq request_seq command outcome) ≡ Some seq
seq_in-outcome_data seq request_seq command (Done body) h = seq_in-done seq request_seq command (body_data body) h
seq_in-outcome_data seq request_seq command (Refused refusal text) h = kept_seq seq h

request_seq-done : (seq request_seq : ℕ) (command : List ℕ) (body : Option Data) → request_seq < 2 ^ 32
    → (get (codes "request_seq") (done_data seq request_seq command body) >>= whole.found) ≡ Some request_seq
request_seq-done seq request_seq command None h = rw (lt-ltb _ _ h) refl
request_seq-done seq request_seq command (Some body) h = rw (lt-ltb _ _ h) refl

request_seq-outcome_data : (seq request_seq : ℕ) (command : List ℕ) (outcome : Outcome) → request_seq < 2 ^ 32
    → (get (codes "request_seq") (outcome_data seq request_seq command outcome) >>= whole.found) ≡ Some request_seq
request_seq-outcome_data seq request_seq command (Done body) h = request_seq-done seq request_seq command (body_data body) h
request_seq-outcome_data seq request_seq command (Refused refusal text) h = rw (lt-ltb _ _ h) refl

command_in-done : (seq request_seq : ℕ) (command : List ℕ) (body : Option Data)
    → text_at (codes "command") (done_data seq request_seq command body) ≡ Some command
command_in-done seq request_seq command None = refl
command_in-done seq request_seq command (Some body) = refl

command_in-outcome_data : (seq request_seq : ℕ) (command : List ℕ) (outcome : Outcome)
    → text_at (codes "command") (outcome_data seq request_seq command outcome) ≡ Some command
command_in-outcome_data seq request_seq command (Done body) = command_in-done seq request_seq command (body_data body)
command_in-outcome_data seq request_seq command (Refused refusal text) = refl

success_in-done : (seq request_seq : ℕ) (command : List ℕ) (body : Option Data)
    → truth_at (codes "success") (done_data seq request_seq command body) ≡ Some true
success_in-done seq request_seq command None = refl
success_in-done seq request_seq command (Some body) = refl

type_in-done : (seq request_seq : ℕ) (command : List ℕ) (body : Option Data)
    → text_at (codes "type") (done_data seq request_seq command body) ≡ Some (codes "response")
type_in-done seq request_seq command None = refl
type_in-done seq request_seq command (Some body) = refl

type_in-outcome_data : (seq request_seq : ℕ) (command : List ℕ) (outcome : Outcome)
    → text_at (codes "type") (outcome_data seq request_seq command outcome) ≡ Some (codes "response")
type_in-outcome_data seq request_seq command (Done body) = type_in-done seq request_seq command (body_data body)
type_in-outcome_data seq request_seq command (Refused refusal text) = refl

-- whether a request with this outcome succeeded
abbrev succeeded : Outcome → Bool
succeeded (Done body) = true
succeeded (Refused refusal text) = false

success_in-outcome_data : (seq request_seq : ℕ) (command : List ℕ) (outcome : Outcome)
    → truth_at (codes "success") (outcome_data seq request_seq command outcome) ≡ Some (succeeded outcome)
success_in-outcome_data seq request_seq command (Done body) = success_in-done seq request_seq command (body_data body)
success_in-outcome_data seq request_seq command (Refused refusal text) = refl

own_text-error_data : (seq request_seq : ℕ) (command : List ℕ) (refusal : Refusal) (text : Option (List ℕ)) (has : Bool)
    → is_some text ≡ has → own_text has (outcome_data seq request_seq command (Refused refusal text)) ≡ Some text
own_text-error_data seq request_seq command refusal None true h = absurd cc
own_text-error_data seq request_seq command refusal (Some text) true h = refl
own_text-error_data seq request_seq command refusal None false h = refl
own_text-error_data seq request_seq command refusal (Some text) false h = absurd cc

outcome_in-outcome_data : (seq request_seq : ℕ) (command : List ℕ) (outcome : Outcome) → IsOutcomeOf command outcome
    → outcome_in command (outcome_data seq request_seq command outcome) (succeeded outcome) ≡ Some outcome
outcome_in-outcome_data seq request_seq command (Done body) h = ap (option_map Done) (body_in-done seq request_seq command body h.0 h.1)
outcome_in-outcome_data seq request_seq command (Refused refusal text) h =
    rw (the_refusal_of_its_number refusal, own_text-error_data seq request_seq command refusal text (has_text refusal) h) refl

seq_in-with_body : (seq : ℕ) (name : List ℕ) (body : Option Data) → IsNumber seq → seq_in (with_body seq name body) ≡ Some seq
seq_in-with_body seq name None h = kept_seq seq h
seq_in-with_body seq name (Some body) h = kept_seq seq h

type_in-with_body : (seq : ℕ) (name : List ℕ) (body : Option Data) → text_at (codes "type") (with_body seq name body) ≡ Some (codes "event")
type_in-with_body seq name None = refl
type_in-with_body seq name (Some body) = refl

name_in-with_body : (seq : ℕ) (name : List ℕ) (body : Option Data) → text_at (codes "event") (with_body seq name body) ≡ Some name
name_in-with_body seq name None = refl
name_in-with_body seq name (Some body) = refl

-- it claims to be that message
pub claim_in-message_data : (seq : ℕ) (message : Message) → IsNumber seq → IsProper message
    → claim_in (message_data seq message) ≡ Some (seq, message)
claim_in-message_data seq (Response r) h proper =
    rw (
      seq_in-outcome_data seq r.request_seq r.command r.outcome h,
      type_in-outcome_data seq r.request_seq r.command r.outcome,
      request_seq-outcome_data seq r.request_seq r.command r.outcome proper.0,
      command_in-outcome_data seq r.request_seq r.command r.outcome,
      success_in-outcome_data seq r.request_seq r.command r.outcome,
      outcome_in-outcome_data seq r.request_seq r.command r.outcome proper.1,
    ) refl
claim_in-message_data seq (Event e) h proper =
    rw (
      seq_in-with_body seq (event_name e) (event_body e) h,
      type_in-with_body seq (event_name e) (event_body e),
      name_in-with_body seq (event_name e) (event_body e),
      event_named-event_data seq e proper,
    ) refl

-- ---- what any value claims to be

IfSome-and_then : {A B : Type 0} (P : A → Type 0) (Q : B → Type 0) (f : A → Option B) (o : Option A) → IfSome o P
    → ((a : A) → P a → IfSome (f a) Q) → IfSome (option_and_then f o) Q
IfSome-and_then P Q f None p h = tt
IfSome-and_then P Q f (Some a) p h = h a p

if_keeps : {A : Type 0} (P : A → Type 0) (b : Bool) (x y : A) → (b ≡ true → P x) → P y → P (cond b x y)
if_keeps P true x y h k = h refl
if_keeps P false x y h k = k

any : {A : Type 0} (o : Option A) → IfSome o (λ _. Unit {0})
any None = tt
any (Some a) = tt

IfSome-kept_if : {A : Type 0} (P : A → Type 0) (test : A → Bool) (o : Option A) → ((a : A) → test a ≡ true → P a)
    → IfSome (kept_if test o) P
IfSome-kept_if P test None h = tt
IfSome-kept_if P test (Some a) h = if_keeps (λ o. IfSome o P) (test a) (Some a) None (h a) tt

IsNumber-seq_in : (value : Data) → IfSome (seq_in value) IsNumber
IsNumber-seq_in value =
    IfSome-kept_if IsNumber _ (number_at (codes "seq") value) (λ n e. let p = and_parts _ _ e in (ltb-true _ _ p.0, ltb-true _ _ p.1))

small-request_seq : (value : Data) → IfSome (get (codes "request_seq") value >>= whole.found) (λ n. is_word n ≡ true)
small-request_seq value = then_is _ (get (codes "request_seq") value) whole.found (lawful_whole {n = 0}).kept

done : (command : List ℕ) (o : Option ResponseBody) → IfSome o (λ body. IsBodyOf command body × (has_numbers body ≡ true))
    → IfSome (option_map Done o) (IsOutcomeOf command)
done command None h = tt
done command (Some body) h = h

own : (b : Bool) (value : Data) → IfSome (own_text b value) (λ text. is_some text ≡ b)
own true value = some (option_and_then (text_at (codes "format")) (error_in value)) where
  some : (o : Option (List ℕ)) → IfSome (option_map (λ (s : List ℕ). Some s) o) (λ text. is_some text ≡ true)
  some None = tt
  some (Some s) = refl
own false value = refl

with_text : (command : List ℕ) (refusal : Refusal) (o : Option (Option (List ℕ))) → IfSome o (λ text. is_some text ≡ has_text refusal)
    → IfSome (option_map (λ text. Refused refusal text) o) (IsOutcomeOf command)
with_text command refusal None h = tt
with_text command refusal (Some text) h = h

refused : (command : List ℕ) (value : Data) → IfSome (refused_in value) (IsOutcomeOf command)
refused command value =
    IfSome-and_then _ _ _ (refusal_in value) (any _)
    (λ refusal _. with_text command refusal (own_text (has_text refusal) value) (own (has_text refusal) value))

IsOutcomeOf-outcome_in : (command : List ℕ) (value : Data) (success : Bool)
    → IfSome (outcome_in command value success) (IsOutcomeOf command)
IsOutcomeOf-outcome_in command value true = done command (body_in command value) (body_in-proper command value)
IsOutcomeOf-outcome_in command value false = refused command value

IsProperResponse-response_in : (value : Data) → IfSome (response_in value) IsProperResponse
IsProperResponse-response_in value =
    IfSome-and_then _ _ _ (get (codes "request_seq") value >>= whole.found) (small-request_seq value) (λ request_seq small.
    IfSome-and_then _ _ _ (text_at (codes "command") value) (any _) (λ command _.
    IfSome-and_then _ _ _ (truth_at (codes "success") value) (any _) (λ success _.
    IfSome-and_then _ _ _ (outcome_in command value success) (IsOutcomeOf-outcome_in command value success)
    (λ outcome fits. (ltb-true _ _ small, fits)))))

IsProperEvent-event_in : (value : Data) → IfSome (event_in value) IsProperEvent
IsProperEvent-event_in value = IfSome-and_then _ _ _ (text_at (codes "event") value) (any _) (λ name _. event_named-proper name value)

IsProper-message_of : (kind : List ℕ) (value : Data) → IfSome (message_of kind value) IsProper
IsProper-message_of kind value =
    if_keeps (λ o. IfSome o IsProper) (bytes_eq kind (codes "response")) _ _
    (λ _. answer (response_in value) (IsProperResponse-response_in value))
    (if_keeps (λ o. IfSome o IsProper) (bytes_eq kind (codes "event")) _ _
    (λ _. tell (event_in value) (IsProperEvent-event_in value)) tt) where
      answer : (o : Option response.Response) → IfSome o IsProperResponse → IfSome (option_map Response o) IsProper
      answer None h = tt
      answer (Some r) h = h

      tell : (o : Option event.Event) → IfSome o IsProperEvent → IfSome (option_map Event o) IsProper
      tell None h = tt
      tell (Some e) h = h

InOrder-claim_in : (value : Data) → IfSome (claim_in value) (λ found. IsNumber found.0 × IsProper found.1)
InOrder-claim_in value =
    IfSome-and_then _ _ _ (seq_in value) (IsNumber-seq_in value) (λ seq number.
    IfSome-and_then _ _ _ (text_at (codes "type") value) (any _) (λ kind _.
    IfSome-and_then IsProper _ _ (message_of kind value) (IsProper-message_of kind value) (λ message proper. (number, proper))))

-- it is in order
pub claim_in-proper : (value : Data) (seq : ℕ) (message : Message) → claim_in value ≡ Some (seq, message) → IsNumber seq × IsProper message
claim_in-proper value seq message e = rw e at (InOrder-claim_in value)
