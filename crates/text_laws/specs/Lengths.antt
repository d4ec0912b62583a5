-- How many bytes the text of a message has at most.
--
-- A JSON text has a text in quotes, and each of its bytes as it is, but for quotes, backslashes and control characters:
-- of these it has escapes, each of six bytes at most (RFC 8259, section 7). A number has twenty digits at most. So a
-- message has as many bytes as its texts have where they are written, and more for each entry of a list, for the rest
-- of the body and for the message round it: the names of members, numbers, addresses. Here each of these is taken for
-- 1,000 bytes, which is a round number that none reaches.
use Rattle.std.specs.Prelude.{◌≡◌, ℕ, ◌+◌, ◌*◌, ◌≤◌, List, [], ◌∷◌, Option, Some, None, codes, length, refl}
use Rattle.std.specs.List.{sum_by}
use Rattle.json.specs.Print.{escape_byte, quoted}
use Rattle.message_parts.specs.declared.disassemble.Instruction.{Instruction}
use Rattle.message_parts.specs.declared.disassemble.Instruction.TheVariants.{Valid, Invalid}
use Rattle.message_parts.specs.declared.set_breakpoints.SourceBreakpoint.{SourceBreakpoint}
use Rattle.message_parts.specs.declared.set_breakpoints.SourceBreakpoint.TheVariants as of_source
use Rattle.message_parts.specs.declared.set_instruction_breakpoints.InstructionBreakpoint.{InstructionBreakpoint}
use Rattle.message_parts.specs.declared.set_instruction_breakpoints.InstructionBreakpoint.TheVariants as at_instruction
use Rattle.message_parts.specs.declared.stack_trace.Source.{Source}
use Rattle.message_parts.specs.declared.stack_trace.StackFrame.{StackFrame}
use Rattle.message_parts.specs.declared.variables.Variable.{Variable}
use Rattle.replies.specs.Messages.{IsNumber, IsProper, text_of}
use Rattle.replies.specs.declared.event.Event.{Event}
use Rattle.replies.specs.declared.event.Event.TheVariants as event
use Rattle.replies.specs.declared.message.Message.{Message}
use Rattle.replies.specs.declared.message.Message.TheVariants as message
use Rattle.replies.specs.declared.response.Outcome.{Outcome}
use Rattle.replies.specs.declared.response.Outcome.TheVariants.{Done, Refused}
use Rattle.replies.specs.declared.response.ResponseBody.{ResponseBody}
use Rattle.replies.specs.declared.response.ResponseBody.TheVariants as kind
use Rattle.text_laws.specs.Texts.{IsPlain}

-- how many bytes a text has in a JSON text: with its quotes and its escapes
abbrev pub written_length : List ℕ → ℕ
written_length text = length (quoted text)

a_line_feed : written_length (codes "a\n") ≡ 5
unfolding escape_byte
a_line_feed = refl

another_control_character : written_length (31 ∷ []) ≡ 8
unfolding escape_byte
another_control_character = refl

-- the same of one that there may be
abbrev pub written_length_if : Option (List ℕ) → ℕ
written_length_if None = 0
written_length_if (Some text) = written_length text

-- ---- the entries of lists: at most this many bytes each

-- what became of a breakpoint of a source
abbrev pub most_of_source_breakpoint : SourceBreakpoint → ℕ
most_of_source_breakpoint (of_source.Verified id address line) = 1000
most_of_source_breakpoint (of_source.Unverified line message) = 1000 + written_length message

-- what became of a breakpoint at an instruction or a function
abbrev pub most_of_instruction_breakpoint : InstructionBreakpoint → ℕ
most_of_instruction_breakpoint (at_instruction.Verified id address) = 1000
most_of_instruction_breakpoint (at_instruction.Unverified message) = 1000 + written_length message

-- a source
abbrev pub most_of_source : Option Source → ℕ
most_of_source None = 0
most_of_source (Some source) = written_length source.name + written_length source.path

-- a frame
abbrev pub most_of_frame : StackFrame → ℕ
most_of_frame frame = 1000 + written_length frame.name + most_of_source frame.source

-- a variable
abbrev pub most_of_variable : Variable → ℕ
most_of_variable variable = 1000 + written_length variable.name

-- what is at an address
abbrev pub most_of_instruction : Instruction → ℕ
most_of_instruction (Valid address instruction word) = 1000 + written_length instruction
most_of_instruction (Invalid address) = 1000

-- ---- bodies

-- the body of a success; bytes of memory are in base64, four characters for three bytes
abbrev pub most_of_body : ResponseBody → ℕ
most_of_body kind.Initialize = 1000
most_of_body kind.Threads = 1000
most_of_body kind.Continue = 1000
most_of_body (kind.SetBreakpoints body) = 1000 + sum_by most_of_source_breakpoint body.breakpoints
most_of_body (kind.SetFunctionBreakpoints body) = 1000 + sum_by most_of_instruction_breakpoint body.breakpoints
most_of_body (kind.SetInstructionBreakpoints body) = 1000 + sum_by most_of_instruction_breakpoint body.breakpoints
most_of_body (kind.StackTrace body) = 1000 + sum_by most_of_frame body.stack_frames
most_of_body (kind.Scopes body) = 1000 + 1000 * length body.scopes
most_of_body (kind.Variables body) = 1000 + sum_by most_of_variable body.variables
most_of_body (kind.SetVariable body) = 1000
most_of_body (kind.Evaluate body) = 1000
most_of_body (kind.Disassemble body) = 1000 + sum_by most_of_instruction body.instructions
most_of_body (kind.ReadMemory body) = 1000 + 2 * length body.bytes
most_of_body (kind.WriteMemory body) = 1000
most_of_body kind.Empty = 0

-- what became of a request
abbrev pub most_of_outcome : Outcome → ℕ
most_of_outcome (Done body) = most_of_body body
most_of_outcome (Refused refusal text) = 1000 + written_length_if text

-- the body of an event
abbrev pub most_of_event : Event → ℕ
most_of_event event.Initialized = 0
most_of_event (event.Stopped body) = 1000 + 21 * length body.hit_breakpoint_ids + written_length_if body.text
most_of_event event.Continued = 1000
most_of_event (event.Output body) = 1000 + written_length body.output
most_of_event (event.Exited body) = 1000
most_of_event event.Terminated = 0

-- ---- messages

-- a message
abbrev pub most_bytes : Message → ℕ
most_bytes (message.Response response) = 1000 + written_length response.command + most_of_outcome response.outcome
most_bytes (message.Event event) = 1000 + most_of_event event

-- The text of a message has at most this many bytes.
abbrev pub TextsAreBounded : Type 0
TextsAreBounded = (seq : ℕ) (message : Message) → IsNumber seq → IsProper message
    → length (text_of seq message) ≤ most_bytes message

-- A text of printed characters, but for quotes and backslashes, has as many bytes as in memory, and two for its quotes.
abbrev pub PlainTextsStand : Type 0
PlainTextsStand = (text : List ℕ) → IsPlain text → written_length text ≡ length text + 2

-- A text has at most six times as many bytes as in memory, and two for its quotes.
abbrev pub TextsAreEscaped : Type 0
TextsAreEscaped = (text : List ℕ) → written_length text ≤ 6 * length text + 2
