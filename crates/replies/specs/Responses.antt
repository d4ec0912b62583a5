-- What the adapter answers to a request, as JSON.
--
-- A response (DAP specification, `Response`) names the request by its number and by its command. A success may have a
-- body. A request that was refused is answered with `success` false, the refusal's name as `message`, and a body whose
-- `error` has the refusal's number and a text for people (`ErrorResponse`, `Message`): the refusal's own text if it has
-- one, else its name.
--
-- The members of each object stand in byte order of their names, which is where `put` puts them.
use Rattle.std.specs.Prelude.{◌≡◌, ℕ, ◌^◌, ◌<◌, List, Bool, true, false, Option, Some, None, is_some, codes}
use Rattle.serde_json.specs.Data.{Data, boolean, number, unsigned, string, object, Members, no_members, member, put}
use Rattle.message_parts.specs.Forms.{member_if}
use Rattle.protocol.specs.declared.refusal.Refusal.{Refusal}
use Rattle.protocol.specs.Refusals.{has_text, id_of, name_of}
use Rattle.replies.specs.declared.response.Response.{Response}
use Rattle.replies.specs.declared.response.Outcome.{Outcome}
use Rattle.replies.specs.declared.response.Outcome.TheVariants.{Done, Refused}
use Rattle.replies.specs.Bodies.{IsBodyOf, body_data, has_numbers}

-- the text for people
abbrev pub format_of : Refusal → Option (List ℕ) → List ℕ
format_of refusal None = name_of refusal
format_of refusal (Some text) = text

-- the body of a refusal
abbrev pub error_data : Refusal → Option (List ℕ) → Data
error_data refusal text =
    object (member (codes "error")
    (object (member (codes "format") (string (format_of refusal text))
    (member (codes "id") (number (unsigned (id_of refusal)))
    no_members)))
    no_members)

-- the members of every response that stand after its command: the request's number, its own number, and whether the
-- request succeeded
abbrev pub last_members : ℕ → ℕ → Bool → Members
last_members seq request_seq success =
    member (codes "request_seq") (number (unsigned request_seq))
    (member (codes "seq") (number (unsigned seq))
    (member (codes "success") (boolean success)
    (member (codes "type") (string (codes "response"))
    no_members)))

-- the members of every response
abbrev pub shared_members : ℕ → ℕ → List ℕ → Bool → Members
shared_members seq request_seq command success =
    member (codes "command") (string command) (last_members seq request_seq success)

-- a response with this number, to a request of this number and command
abbrev pub outcome_data : ℕ → ℕ → List ℕ → Outcome → Data
outcome_data seq request_seq command (Done body) =
    object (member_if (codes "body") (λ d. d) (body_data body) (shared_members seq request_seq command true))
outcome_data seq request_seq command (Refused refusal text) =
    object (put (codes "body") (error_data refusal text)
    (put (codes "message") (string (name_of refusal))
    (shared_members seq request_seq command false)))

-- a response with this number
abbrev pub response_data : ℕ → Response → Data
response_data seq response = outcome_data seq response.request_seq response.command response.outcome

-- ---- which responses are the adapter's

-- the body is of its command and its numbers are in range, and a refusal has a text exactly if it is of the kind
-- that has
abbrev pub IsOutcomeOf : List ℕ → Outcome → Type 0
IsOutcomeOf command (Done body) = IsBodyOf command body × (has_numbers body ≡ true)
IsOutcomeOf command (Refused refusal text) = is_some text ≡ has_text refusal

-- a response of the adapter: the request's number is a `u32`, and the outcome is of the command
abbrev pub IsProperResponse : Response → Type 0
IsProperResponse response = (response.request_seq < 2 ^ 32) × IsOutcomeOf response.command response.outcome
