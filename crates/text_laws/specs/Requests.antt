-- The texts of a request that is read (base protocol, "Content Part").
--
-- The body of a frame is bytes. Each text that a request has was read from them, so it is UTF-8 as JSON texts are
-- (RFC 8259, section 8.1), and it has at most as many bytes as the body: an escape is no shorter than what it
-- represents. A list has at most as many entries as the body has bytes.
use Rattle.std.specs.Prelude.{ℕ, ◌≤◌, All, IfSome, List, length, Ok, Err, Result, ⊤}
use Rattle.protocol.specs.Reading.{incoming_of}
use Rattle.protocol.specs.declared.command.Command.{Command}
use Rattle.protocol.specs.declared.command.Command.TheVariants.{Launch, SetBreakpoints, SetFunctionBreakpoints}
use Rattle.protocol.specs.declared.command.Command.TheVariants.{SetInstructionBreakpoints}
use Rattle.protocol.specs.declared.request.Incoming.{Incoming}
use Rattle.protocol.specs.declared.request.Incoming.TheVariants.{Request, Bad, Ignored}
use Rattle.protocol.specs.declared.request.MessageError.{MessageError}
use Rattle.protocol.specs.declared.set_breakpoints.SourceBreakpoint.{SourceBreakpoint}
use Rattle.text_laws.specs.Texts.{IsTextWithin}

-- what a breakpoint of a source writes, if anything, is such a text
abbrev pub WritesWithin : ℕ → SourceBreakpoint → Type 0
WritesWithin most breakpoint = IfSome breakpoint.log_message (IsTextWithin most)

-- the path of a program is such a text, as is what logpoints write, and a list of breakpoints has at most this many entries
abbrev pub AsksWithin : ℕ → Command → Type 0
AsksWithin most (Launch arguments) = IsTextWithin most arguments.program
AsksWithin most (SetBreakpoints arguments) =
    (length arguments.breakpoints ≤ most) × All (WritesWithin most) arguments.breakpoints
AsksWithin most (SetFunctionBreakpoints arguments) = length arguments.breakpoints ≤ most
AsksWithin most (SetInstructionBreakpoints arguments) = length arguments.breakpoints ≤ most
AsksWithin most other = ⊤

-- the same of what a body means; the name of a request that is refused as it stands is such a text too
abbrev pub MeansWithin : ℕ → Result Incoming MessageError → Type 0
MeansWithin most (Ok (Request request)) = AsksWithin most request.command
MeansWithin most (Ok (Bad seq command refusal)) = IsTextWithin most command
MeansWithin most (Ok Ignored) = ⊤
MeansWithin most (Err fault) = ⊤

-- What a body means has texts within it.
abbrev pub RequestsHaveTexts : Type 0
RequestsHaveTexts = (body : List ℕ) → MeansWithin (length body) (incoming_of body)
