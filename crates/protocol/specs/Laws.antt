-- What follows from the meaning of a body, in the protocol's own terms.
use Rattle.std.specs.Prelude.{◌≡◌, ◌≢◌, ◌≤◌, ◌⊎◌, ◌↔◌, ℕ, All, List, Option, Some, Ok, Err, ⊤}
use Rattle.base64.specs.Engines.{standard}
use Rattle.base64.specs.GeneralPurpose.{IsBytes, encode_of}
use Rattle.serde_json.specs.Data.{Data, object, string, Members, put}
use Rattle.protocol.specs.Json.{json_of}
use Rattle.protocol.specs.Properties.{property, text}
use Rattle.protocol.specs.Arguments.{base64}
use Rattle.protocol.specs.Commands.{command_of, name_of}
use Rattle.protocol.specs.Reading.{incoming_of, message_of}
use Rattle.protocol.specs.declared.command.Command.{Command}
use Rattle.protocol.specs.declared.command.Command.TheVariants as one
use Rattle.protocol.specs.declared.refusal.Refusal.{Refusal}
use Rattle.protocol.specs.declared.refusal.Refusal.TheVariants.{UnknownCommand, BadArguments}
use Rattle.protocol.specs.declared.request.Request.{Request as ARequest}
use Rattle.protocol.specs.declared.request.Incoming.TheVariants.{Request, Bad, Ignored}
use Rattle.protocol.specs.declared.request.MessageError.TheVariants.{NoMemory}
use Rattle.protocol.specs.declared.members.TheConstants.{SEQ, TYPE, COMMAND, ARGUMENTS, RESPONSE, EVENT}

-- the message is of that type
abbrev pub IsOfType : List ℕ → Members → Type 0
IsOfType kind members = text (property TYPE.now members) ≡ Some kind

-- A response or an event is passed over, whatever else stands in it.
abbrev pub IgnoresWhatIsNoRequest : Type 0
IgnoresWhatIsNoRequest =
    (body : List ℕ) (members : Members) → json_of body ≡ Some (object members)
    → IsOfType RESPONSE.now members ⊎ IsOfType EVENT.now members → incoming_of body ≡ Ok Ignored

-- A name that is unknown with some arguments is unknown with all.
abbrev pub KnowsRequestsByName : Type 0
KnowsRequestsByName =
    (name : List ℕ) (some all : Option Data) → command_of name some ≡ Err UnknownCommand
    → command_of name all ≡ Err UnknownCommand

-- A command that is read has the name by which it was asked for.
abbrev pub KeepsTheName : Type 0
KeepsTheName = (name : List ℕ) (arguments : Option Data) (command : Command)
    → command_of name arguments ≡ Ok command → name_of command ≡ name

-- The number of a request is at most 2,147,483,647.
abbrev pub NumbersWithinSeq : Type 0
NumbersWithinSeq =
    (body : List ℕ) (request : ARequest) → incoming_of body ≡ Ok (Request request)
    → request.seq ≤ 2147483647

-- The number of a request that is refused as it stands is so too.
abbrev pub BadNumbersWithinSeq : Type 0
BadNumbersWithinSeq =
    (body : List ℕ) (seq : ℕ) (name : List ℕ) (refusal : Refusal)
    → incoming_of body ≡ Ok (Bad seq name refusal) → seq ≤ 2147483647

-- the lines for which breakpoints are asked are at most 2,147,483,647
abbrev pub AsksLinesWithin : Command → Type 0
AsksLinesWithin (one.Initialize arguments) = ⊤
AsksLinesWithin (one.Launch arguments) = ⊤
AsksLinesWithin one.Attach = ⊤
AsksLinesWithin one.ConfigurationDone = ⊤
AsksLinesWithin one.Threads = ⊤
AsksLinesWithin (one.Cancel arguments) = ⊤
AsksLinesWithin one.Restart = ⊤
AsksLinesWithin one.Terminate = ⊤
AsksLinesWithin (one.Disconnect arguments) = ⊤
AsksLinesWithin (one.SetBreakpoints arguments) = All (λ b. b.line ≤ 2147483647) arguments.breakpoints
AsksLinesWithin (one.SetFunctionBreakpoints arguments) = ⊤
AsksLinesWithin (one.SetInstructionBreakpoints arguments) = ⊤
AsksLinesWithin one.SetExceptionBreakpoints = ⊤
AsksLinesWithin (one.Continue arguments) = ⊤
AsksLinesWithin (one.Next arguments) = ⊤
AsksLinesWithin (one.StepIn arguments) = ⊤
AsksLinesWithin (one.StepOut arguments) = ⊤
AsksLinesWithin (one.StepBack arguments) = ⊤
AsksLinesWithin (one.ReverseContinue arguments) = ⊤
AsksLinesWithin (one.Pause arguments) = ⊤
AsksLinesWithin (one.StackTrace arguments) = ⊤
AsksLinesWithin (one.Scopes arguments) = ⊤
AsksLinesWithin (one.Variables arguments) = ⊤
AsksLinesWithin (one.SetVariable arguments) = ⊤
AsksLinesWithin (one.Evaluate arguments) = ⊤
AsksLinesWithin (one.Disassemble arguments) = ⊤
AsksLinesWithin (one.ReadMemory arguments) = ⊤
AsksLinesWithin (one.WriteMemory arguments) = ⊤

-- Each line that a request asks for is so.
abbrev pub LinesWithinMax : Type 0
LinesWithinMax =
    (body : List ℕ) (request : ARequest) → incoming_of body ≡ Ok (Request request)
    → AsksLinesWithin request.command

-- Read on its own, a request is refused for its name or its arguments alone, and never for its phase.
abbrev pub RefusesForNameOrArguments : Type 0
RefusesForNameOrArguments =
    (body : List ℕ) (seq : ℕ) (name : List ℕ) (refusal : Refusal)
    → incoming_of body ≡ Ok (Bad seq name refusal)
    → (refusal ≡ UnknownCommand) ⊎ (refusal ≡ BadArguments)

-- A member that the protocol does not name changes nothing.
abbrev pub PassesOverUnknownMembers : Type 0
PassesOverUnknownMembers =
    (members : Members) (name : List ℕ) (value : Data)
    → TYPE.now ≢ name → COMMAND.now ≢ name → SEQ.now ≢ name → ARGUMENTS.now ≢ name
    → message_of (put name value members) ≡ message_of members

-- What a body means is never that memory ran out.
abbrev pub NeverMeansNoMemory : Type 0
NeverMeansNoMemory = (body : List ℕ) → incoming_of body ≢ Err NoMemory

-- A text in base64 is read as the bytes that it encodes (RFC 4648, section 4), and no other text is read as these.
abbrev pub ReadsEncodings : Type 0
ReadsEncodings =
    (text bytes : List ℕ) → IsBytes text → IsBytes bytes
    → (base64 (string text) ≡ Some bytes) ↔ (text ≡ encode_of standard bytes)
