-- What an editor gives to be set is in range (DAP specification, `WriteMemoryRequest`, `SetVariableRequest`).
--
-- Bytes come as a text in base64 (RFC 4648, section 4): four symbols of six bits are three bytes, and nothing else is
-- read. A value comes as a text too, which is refused where it writes no number of 32 bits.
use Rattle.std.specs.Prelude.{◌≡◌, ℕ, IfSome, List, Ok, slice_set, ⊤}
use Rattle.protocol.specs.Reading.{incoming_of}
use Rattle.protocol.specs.declared.command.Command.{Command}
use Rattle.protocol.specs.declared.command.Command.TheVariants.{WriteMemory}
use Rattle.protocol.specs.declared.request.Incoming.TheVariants.{Request}
use Rattle.protocol.specs.declared.request.Request.{Request as ARequest}
use Rattle.variables.specs.Values.{value_of}
use Rattle.range_laws.specs.Machines.{AreBytes, AreRegisters, IsWord}

-- what a command gives to be written is bytes
abbrev pub GivesBytes : Command → Type 0
GivesBytes (WriteMemory arguments) = AreBytes arguments.bytes
GivesBytes other = ⊤

-- So it is of each request that is read.
abbrev pub RequestsGiveBytes : Type 0
RequestsGiveBytes =
    (body : List ℕ) (request : ARequest) → incoming_of body ≡ Ok (Request request) → GivesBytes request.command

-- The value that a text writes is a word,
abbrev pub TextsGiveWords : Type 0
TextsGiveWords = (text : List ℕ) → IfSome (value_of text) IsWord

-- and registers are words when one of them is set to a word.
abbrev pub RegistersStayInRange : Type 0
RegistersStayInRange =
    (x : List ℕ) (number value : ℕ) → IsWord value → AreRegisters x → AreRegisters (slice_set x number value)
