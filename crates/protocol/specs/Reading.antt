-- What the body of a frame means to the adapter (base protocol, "Content Part"; `ProtocolMessage`,
-- `Request`).
--
-- A message is a JSON object that says by its `type` whether it is a request, a response or an
-- event. An editor sends requests. It has no reason to send a response or an event, since the
-- adapter asks nothing of it. So these are passed over: even their number isn't looked at.
--
-- A request has a name, which is a text, and a number from 0 to 2,147,483,647; without them there
-- is nothing to name in an answer. One that has both is answered, if only by a refusal.
--
-- The faults have an order, which is that of the lines below: what is reported is the first.
use Rattle.std.specs.Prelude.{ℕ, List, Result, Ok, Err, ok_or, ⊤, bytes_eq, codes, refl, ◌||◌, ◌≡◌, if◌then◌else◌}
use Rattle.serde_json.specs.Data.{Data, array, no_items, number, string, unsigned, Members, no_members, member}
use Rattle.serde_json.specs.Find.{as_object}
use Rattle.protocol.specs.Json.{json_of}
use Rattle.protocol.specs.Properties.{property, text, sequence_number}
use Rattle.protocol.specs.Commands.{command_of}
use Rattle.protocol.specs.declared.command.Command.{Command}
use Rattle.protocol.specs.declared.command.Command.TheVariants.{Threads}
use Rattle.protocol.specs.declared.refusal.Refusal.{Refusal}
use Rattle.protocol.specs.declared.refusal.Refusal.TheVariants.{BadArguments}
use Rattle.protocol.specs.declared.request.Incoming.{Incoming}
use Rattle.protocol.specs.declared.request.Incoming.TheVariants.{Request, Bad, Ignored}
use Rattle.protocol.specs.declared.request.MessageError.{MessageError}
use Rattle.protocol.specs.declared.request.MessageError.TheVariants.{NotJson, NotAMessage, BadSeq, NoMemory}
use Rattle.protocol.specs.declared.members.TheConstants.{SEQ, TYPE, COMMAND, ARGUMENTS, REQUEST, RESPONSE, EVENT}

-- what follows, where there was no fault so far
infixl 10 ◌>>=◌
abbrev pub ◌>>=◌ : {A B : Type 0} → Result A MessageError → (A → Result B MessageError)
    → Result B MessageError
(Ok value) >>= next = next value
(Err fault) >>= next = Err fault

-- a request with that number and name, by what the two and its arguments come to
abbrev pub received : ℕ → List ℕ → Result Command Refusal → Incoming
received seq name (Ok command) = Request (record { seq = seq; command = command })
received seq name (Err refusal) = Bad seq name refusal

-- what a request means
abbrev pub request_of : Members → Result Incoming MessageError
request_of members = do
  name ← ok_or (text (property COMMAND.now members)) NotAMessage
  seq ← ok_or (sequence_number (property SEQ.now members)) BadSeq
  Ok (received seq name (command_of name (property ARGUMENTS.now members)))

-- what a message of that type means
abbrev pub typed_message_of : List ℕ → Members → Result Incoming MessageError
typed_message_of kind members =
    if bytes_eq kind REQUEST.now then request_of members
    else (if bytes_eq kind RESPONSE.now || bytes_eq kind EVENT.now
    then Ok Ignored else Err NotAMessage)

-- what an object means
abbrev pub message_of : Members → Result Incoming MessageError
message_of members = do
  kind ← ok_or (text (property TYPE.now members)) NotAMessage
  typed_message_of kind members

a_response : message_of (member (codes "type") (string (codes "response")) no_members) ≡ Ok Ignored
a_response = refl

an_event : message_of (member (codes "type") (string (codes "event")) no_members) ≡ Ok Ignored
an_event = refl

-- the members of a request for the threads, and what else stands in it
threads_with : Members → Members
threads_with more =
    member (codes "type") (string (codes "request"))
    (member (codes "command") (string (codes "threads"))
    (member (codes "seq") (number (unsigned 2)) more))

a_request : message_of (threads_with no_members)
    ≡ Ok (Request (record { seq = 2; command = Threads }))
unfolding threads_with
a_request = refl

a_refused_request : message_of (threads_with (member (codes "arguments") (array no_items) no_members))
    ≡ Ok (Bad 2 (codes "threads") BadArguments)
unfolding threads_with
a_refused_request = refl

-- what a JSON value means
abbrev pub value_means : Data → Result Incoming MessageError
value_means value = do
  members ← ok_or (as_object value) NotAMessage
  message_of members

-- what a body means
unfoldable pub incoming_of : List ℕ → Result Incoming MessageError
incoming_of body = do
  value ← ok_or (json_of body) NotJson
  value_means value

-- A call that takes memory gives what is meant, or it finds none.
abbrev pub Gives : Result Incoming MessageError → Result Incoming MessageError → Type 0
Gives (Err NoMemory) meant = Unit {0}
Gives result meant = result ≡ meant

-- For private clauses alone: what is meant is a request, taken or refused
abbrev pub IsOfARequest : Result Incoming MessageError → Type 0
IsOfARequest (Ok (Request request)) = ⊤
IsOfARequest (Ok (Bad seq name refusal)) = ⊤
IsOfARequest (Ok Ignored) = ⊥
IsOfARequest (Err fault) = ⊥

-- For private clauses alone: a call that takes memory only for a request gives what is meant, or it finds none for a
-- request.
abbrev pub GivesMeaning : Result Incoming MessageError → Result Incoming MessageError → Type 0
GivesMeaning (Err NoMemory) meant = IsOfARequest meant
GivesMeaning result meant = result ≡ meant
