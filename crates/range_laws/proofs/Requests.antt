-- What a request gives to be written is bytes.
use Rattle.range_laws.proofs.Common.{AreBytes, Bool, bytes_eq, cond, Err, false, IfSome, List, None, Ok, ok_or, Option, option_and_then, refl, Result, Some, subst, true, ℕ, ◌||◌, ◌≡◌}
use Rattle.serde_json.specs.Data.{Data, Members}
use Rattle.serde_json.specs.Find.{as_bool, as_object, as_str}
use Rattle.base64.specs.Engines.{standard}
use Rattle.base64.specs.GeneralPurpose.{decoded_of}
use Rattle.protocol.specs.Arguments.{arguments_members, base64, optional, required}
use Rattle.protocol.specs.Commands.{command_of, execution_requests, inspection_requests}
use Rattle.protocol.proofs.Requests.{of_arguments, read_by_its_name}
use Rattle.protocol.specs.Json.{json_of}
use Rattle.protocol.specs.Properties.{integer, property, sequence_number, text}
use Rattle.protocol.specs.Reading.{◌>>=◌, incoming_of, message_of, received, request_of, typed_message_of}
use Rattle.protocol.specs.WriteMemory.{write_memory_arguments}
use Rattle.protocol.specs.declared.command.Command.{Command}
use Rattle.protocol.specs.declared.command.Command.TheVariants.{WriteMemory}
use Rattle.protocol.specs.declared.members.TheConstants.{ARGUMENTS, COMMAND, EVENT, MEMORY_REFERENCE, OFFSET, REQUEST, RESPONSE, SEQ, TYPE}
use Rattle.protocol.specs.declared.refusal.Refusal.{Refusal}
use Rattle.protocol.specs.declared.request.Incoming.{Incoming}
use Rattle.protocol.specs.declared.request.Incoming.TheVariants.{Request}
use Rattle.protocol.specs.declared.request.MessageError.{MessageError}
use Rattle.protocol.specs.declared.request.MessageError.TheVariants.{BadSeq, NotAMessage, NotJson}
use Rattle.protocol.specs.declared.write_memory.TheConstants.{ALLOW_PARTIAL, DATA}
use Rattle.protocol.specs.declared.write_memory.WriteMemoryArguments.{WriteMemoryArguments}
use Rattle.range_laws.specs.Requests.{GivesBytes, RequestsGiveBytes}
use Rattle.range_laws.proofs.Base64.{decoded_in_range}

-- ---- the bytes of `writeMemory`

-- what holds of a value that is read, and of what follows from each such value, holds of what follows
then_holds : {A B : Type 0} (P : A → Type 0) (Q : B → Type 0) (found : Option A) (next : A → Option B) → IfSome found P
    → ((a : A) → P a → IfSome (next a) Q) → IfSome (option_and_then next found) Q
then_holds P Q None next h on = tt
then_holds P Q (Some a) next h on = on a h

-- the same, of any value
then_any : {A B : Type 0} (Q : B → Type 0) (found : Option A) (next : A → Option B) → ((a : A) → IfSome (next a) Q)
    → IfSome (option_and_then next found) Q
then_any Q None next on = tt
then_any Q (Some a) next on = on a

base64_in_range : (value : Data) → IfSome (base64 value) AreBytes
base64_in_range value = then_any AreBytes (as_str value) (decoded_of standard) decoded_in_range

data_in_range : (value : Option Data) → IfSome (required base64 value) AreBytes
data_in_range value = then_any AreBytes value base64 base64_in_range

abbrev HasBytes : WriteMemoryArguments → Type 0
HasBytes arguments = AreBytes arguments.bytes

write_memory_gives : (members : Members) → IfSome (write_memory_arguments members) HasBytes
write_memory_gives members =
    then_any HasBytes (required as_str (property MEMORY_REFERENCE.now members)) _ (λ reference.
    then_any HasBytes (optional integer (property OFFSET.now members)) _ (λ offset.
    then_holds AreBytes HasBytes (required base64 (property DATA.now members)) _ (data_in_range (property DATA.now members)) (λ bytes h.
    then_any HasBytes (optional as_bool (property ALLOW_PARTIAL.now members)) _ (λ partial. h))))

-- ---- commands

-- only `writeMemory` gives bytes
command_gives : (name : List ℕ) (arguments : Option Data) (command : Command)
    → command_of name arguments ≡ Ok command → GivesBytes command
unfolding execution_requests inspection_requests
command_gives name arguments (WriteMemory a) e =
    of_arguments HasBytes GivesBytes (λ b. WriteMemory b) write_memory_arguments (arguments_members arguments) (WriteMemory a)
    write_memory_gives (λ b h. h) (read_by_its_name name arguments (WriteMemory a) e)
command_gives name arguments other e = tt

-- ---- what is read

-- what a body gives, where it means a request
abbrev pub BodyGives : Result Incoming MessageError → Type 0
BodyGives (Ok (Request request)) = GivesBytes request.command
BodyGives other = Unit {0}

next_gives : {A : Type 0} (found : Option A) (fault : MessageError) (next : A → Result Incoming MessageError)
    → ((a : A) → BodyGives (next a)) → BodyGives (ok_or found fault >>= next)
next_gives None fault next on = tt
next_gives (Some a) fault next on = on a

if_gives : (b : Bool) (x y : Result Incoming MessageError) → BodyGives x → BodyGives y → BodyGives (cond b x y)
if_gives true x y p q = p
if_gives false x y p q = q

received_gives : (seq : ℕ) (name : List ℕ) (found : Result Command Refusal)
    → ((command : Command) → found ≡ Ok command → GivesBytes command) → BodyGives (Ok (received seq name found))
received_gives seq name (Ok command) h = h command refl
received_gives seq name (Err refusal) h = tt

request_gives : (members : Members) → BodyGives (request_of members)
request_gives members =
    next_gives (text (property COMMAND.now members)) NotAMessage _ (λ name.
    next_gives (sequence_number (property SEQ.now members)) BadSeq _ (λ seq.
    received_gives seq name _ (command_gives name (property ARGUMENTS.now members))))

typed_gives : (kind : List ℕ) (members : Members) → BodyGives (typed_message_of kind members)
typed_gives kind members =
    if_gives (bytes_eq kind REQUEST.now) _ _ (request_gives members)
    (if_gives (bytes_eq kind RESPONSE.now || bytes_eq kind EVENT.now) _ _ tt tt)

message_gives : (members : Members) → BodyGives (message_of members)
message_gives members = next_gives (text (property TYPE.now members)) NotAMessage _ (λ kind. typed_gives kind members)

pub body_gives : (body : List ℕ) → BodyGives (incoming_of body)
unfolding incoming_of
body_gives body =
    next_gives (json_of body) NotJson _ (λ value.
    next_gives (as_object value) NotAMessage _ (λ members. message_gives members))

pub requests_give_bytes : RequestsGiveBytes
requests_give_bytes body request is = subst BodyGives is (body_gives body)
