-- What holds of the JSON value of each message: it nests little, has no float, its names rise, and it is plain.
use Rattle.replies.proofs.Common.{are_ascii, AreMembersPlain, arith, body_data, Bool, Data, depth, event_body, event_members, event_name, false, format_of, has_float, IfSome, is_ordered, IsNumber, IsOutcomeOf, IsPlain, IsProper, IsUtf8, IsUtf8-are_ascii, json_of, json_of-compact_text, List, max_depth, member_if, Message, message_data, None, object, Option, outcome_data, refl, Refusal, shared_members, Some, text_of, true, ℕ, ◌<◌, ◌^◌, ◌≡◌, ◌≤◌}
use Rattle.std.proofs.Common.{codes}
use Rattle.replies.specs.declared.message.Message.TheVariants.{Response, Event}
use Rattle.replies.specs.declared.response.Outcome.{Outcome}
use Rattle.replies.specs.declared.response.Outcome.TheVariants.{Done, Refused}
use Rattle.replies.specs.Laws.{HasOutcomeTexts, HasTexts}
use Rattle.replies.proofs.BodyTable.{IsGood, IsGood-body_data, IsPlain-body_data}
use Rattle.replies.proofs.EventTable.{IsGood-event_body, IsPlain-event_body, text-event_name, with_body}
use Rattle.replies.proofs.Refusals.{text-name_of, small-id_of}

-- ---- depth and floats

-- a success with this body, if it has one
abbrev done_data : ℕ → ℕ → List ℕ → Option Data → Data
done_data seq request_seq command body = object (member_if (codes "body") (λ d. d) body (shared_members seq request_seq command true))

depth-done : (seq request_seq : ℕ) (command : List ℕ) (body : Option Data) → IfSome body IsGood
    → depth (done_data seq request_seq command body) ≤ max_depth
depth-done seq request_seq command None good = omega arith
depth-done seq request_seq command (Some body) good = omega (arith, good.shallow)

depth-outcome_data : (seq request_seq : ℕ) (command : List ℕ) (outcome : Outcome)
    → depth (outcome_data seq request_seq command outcome) ≤ max_depth
depth-outcome_data seq request_seq command (Done body) = depth-done seq request_seq command (body_data body) (IsGood-body_data body)
depth-outcome_data seq request_seq command (Refused refusal text) = omega arith

depth-with_body : (seq : ℕ) (name : List ℕ) (body : Option Data) → IfSome body IsGood → depth (with_body seq name body) ≤ max_depth
depth-with_body seq name None good = omega arith
depth-with_body seq name (Some body) good = omega (arith, good.shallow)

-- it nests no deeper than is read
pub depth-message_data : (seq : ℕ) (message : Message) → depth (message_data seq message) ≤ max_depth
depth-message_data seq (Response r) = depth-outcome_data seq r.request_seq r.command r.outcome
depth-message_data seq (Event e) = depth-with_body seq (event_name e) (event_body e) (IsGood-event_body e)

has_float-done : (seq request_seq : ℕ) (command : List ℕ) (body : Option Data) → IfSome body IsGood
    → has_float (done_data seq request_seq command body) ≡ false
has_float-done seq request_seq command None good = refl
has_float-done seq request_seq command (Some body) good = rw good.no_float refl

has_float-outcome_data : (seq request_seq : ℕ) (command : List ℕ) (outcome : Outcome)
    → has_float (outcome_data seq request_seq command outcome) ≡ false
has_float-outcome_data seq request_seq command (Done body) = has_float-done seq request_seq command (body_data body) (IsGood-body_data body)
has_float-outcome_data seq request_seq command (Refused refusal text) = refl

has_float-with_body : (seq : ℕ) (name : List ℕ) (body : Option Data) → IfSome body IsGood → has_float (with_body seq name body) ≡ false
has_float-with_body seq name None good = refl
has_float-with_body seq name (Some body) good = rw good.no_float refl

-- it has no float
pub has_float-message_data : (seq : ℕ) (message : Message) → has_float (message_data seq message) ≡ false
has_float-message_data seq (Response r) = has_float-outcome_data seq r.request_seq r.command r.outcome
has_float-message_data seq (Event e) = has_float-with_body seq (event_name e) (event_body e) (IsGood-event_body e)

-- ---- order

is_ordered-done : (seq request_seq : ℕ) (command : List ℕ) (body : Option Data) → IfSome body IsGood
    → is_ordered (done_data seq request_seq command body) ≡ true
is_ordered-done seq request_seq command None good = refl
is_ordered-done seq request_seq command (Some body) good = rw good.ordered refl

is_ordered-outcome_data : (seq request_seq : ℕ) (command : List ℕ) (outcome : Outcome)
    → is_ordered (outcome_data seq request_seq command outcome) ≡ true
is_ordered-outcome_data seq request_seq command (Done body) =
    is_ordered-done seq request_seq command (body_data body) (IsGood-body_data body)
is_ordered-outcome_data seq request_seq command (Refused refusal text) = refl

is_ordered-with_body : (seq : ℕ) (name : List ℕ) (body : Option Data) → IfSome body IsGood → is_ordered (with_body seq name body) ≡ true
is_ordered-with_body seq name None good = refl
is_ordered-with_body seq name (Some body) good = rw good.ordered refl

-- its names rise
pub is_ordered-message_data : (seq : ℕ) (message : Message) → is_ordered (message_data seq message) ≡ true
is_ordered-message_data seq (Response r) = is_ordered-outcome_data seq r.request_seq r.command r.outcome
is_ordered-message_data seq (Event e) = is_ordered-with_body seq (event_name e) (event_body e) (IsGood-event_body e)

-- ---- texts and numbers

shared_plain : (seq request_seq : ℕ) (command : List ℕ) (success : Bool) → seq < 2 ^ 31 → request_seq < 2 ^ 32 → IsUtf8 command
    → AreMembersPlain (shared_members seq request_seq command success)
shared_plain seq request_seq command success small request_small text =
    let name = λ (s : List ℕ) (e : are_ascii s ≡ true). IsUtf8-are_ascii s e in (
      name (codes "command") refl,
      text,
      (
        name (codes "request_seq") refl,
        omega arith,
        (
          name (codes "seq") refl,
          omega arith,
          (name (codes "success") refl, tt, (name (codes "type") refl, name (codes "response") refl, tt)),
        ),
      ),
    )

plain_done : (seq request_seq : ℕ) (command : List ℕ) (body : Option Data) → IfSome body IsPlain → seq < 2 ^ 31 → request_seq < 2 ^ 32
    → IsUtf8 command → IsPlain (done_data seq request_seq command body)
plain_done seq request_seq command None plain small request_small text = shared_plain seq request_seq command true small request_small text
plain_done seq request_seq command (Some body) plain small request_small text =
    (IsUtf8-are_ascii (codes "body") refl, plain, shared_plain seq request_seq command true small request_small text)

text-format_of : (refusal : Refusal) (text : Option (List ℕ)) → IfSome text IsUtf8 → IsUtf8 (format_of refusal text)
text-format_of refusal None h = text-name_of refusal
text-format_of refusal (Some text) h = h

plain_outcome : (seq request_seq : ℕ) (command : List ℕ) (outcome : Outcome) → IsOutcomeOf command outcome → seq < 2 ^ 31
    → request_seq < 2 ^ 32 → IsUtf8 command → HasOutcomeTexts outcome → IsPlain (outcome_data seq request_seq command outcome)
plain_outcome seq request_seq command (Done body) proper small request_small text texts =
    plain_done seq request_seq command (body_data body) (IsPlain-body_data body proper.1 texts) small request_small text
plain_outcome seq request_seq command (Refused refusal format) proper small request_small text texts =
    let name = λ (s : List ℕ) (e : are_ascii s ≡ true). IsUtf8-are_ascii s e in
    let rest = shared_plain seq request_seq command false small request_small text in (
      name (codes "body") refl,
      (
        name (codes "error") refl,
        (name (codes "format") refl, text-format_of refusal format texts, (name (codes "id") refl, small-id_of refusal, tt)),
        tt,
      ),
      (rest.0, rest.1, (name (codes "message") refl, text-name_of refusal, rest.2)),
    )

members_plain : (seq : ℕ) (name : List ℕ) → seq < 2 ^ 31 → IsUtf8 name → AreMembersPlain (event_members seq name)
members_plain seq name small text =
    let known = λ (s : List ℕ) (e : are_ascii s ≡ true). IsUtf8-are_ascii s e in
    (known (codes "event") refl, text, (known (codes "seq") refl, omega arith, (known (codes "type") refl, known (codes "event") refl, tt)))

plain_with_body : (seq : ℕ) (name : List ℕ) (body : Option Data) → IfSome body IsPlain → seq < 2 ^ 31 → IsUtf8 name
    → IsPlain (with_body seq name body)
plain_with_body seq name None plain small text = members_plain seq name small text
plain_with_body seq name (Some body) plain small text = (IsUtf8-are_ascii (codes "body") refl, plain, members_plain seq name small text)

-- it is plain
pub IsPlain-message_data : (seq : ℕ) (message : Message) → IsNumber seq → IsProper message → HasTexts message
    → IsPlain (message_data seq message)
IsPlain-message_data seq (Response r) in_range proper texts =
    plain_outcome seq r.request_seq r.command r.outcome proper.1 in_range.1 proper.0 texts.0 texts.1
IsPlain-message_data seq (Event e) in_range proper texts =
    plain_with_body seq (event_name e) (event_body e) (IsPlain-event_body e proper texts) in_range.1 (text-event_name e)

-- its text has this value
pub json_of-text_of : (seq : ℕ) (message : Message) → IsNumber seq → IsProper message → HasTexts message
    → json_of (text_of seq message) ≡ Some (message_data seq message)
json_of-text_of seq message in_range proper texts =
    json_of-compact_text (message_data seq message) (IsPlain-message_data seq message in_range proper texts)
    (is_ordered-message_data seq message) (depth-message_data seq message)
