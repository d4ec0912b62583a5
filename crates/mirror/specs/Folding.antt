-- What a message makes of the facts (DAP specification, `Event`, `Response`).
--
-- An event speaks for itself. A response tells something where it is a success, the request of its number is known, and
-- its body is one of that request; else it changes nothing. When the machine continues or stops, what was known of it while
-- it stood still is forgotten: its frames, its registers and its memory may be others now. Its breakpoints stay.
use Rattle.std.specs.Prelude.{◌≡◌, ℕ, ◌+◌, ◌-◌, ◌^◌, ◌==◌, nat_le, nat_lt, ◌&&◌, if◌then◌else◌, true, List, []}
use Rattle.std.specs.Prelude.{◌∷◌, length, map, fold, take, filter_map, slice_get, bytes_eq, Option, Some, None, codes, pos, refl}
use Rattle.message_parts.specs.declared.set_breakpoints.SourceBreakpoint.{SourceBreakpoint}
use Rattle.message_parts.specs.declared.set_breakpoints.SourceBreakpoint.TheVariants.{Verified, Unverified}
use Rattle.message_parts.specs.declared.set_instruction_breakpoints.InstructionBreakpoint.{InstructionBreakpoint}
use Rattle.message_parts.specs.declared.set_instruction_breakpoints.InstructionBreakpoint.TheVariants.{Verified as VerifiedAt}
use Rattle.message_parts.specs.declared.set_instruction_breakpoints.InstructionBreakpoint.TheVariants.{Unverified as UnverifiedAt}
use Rattle.message_parts.specs.declared.stack_trace.StackFrame.{StackFrame}
use Rattle.message_parts.specs.declared.variables.Variable.{Variable}
use Rattle.replies.specs.declared.event.Event.{Event}
use Rattle.replies.specs.declared.event.Event.TheVariants.{Initialized, Stopped as HasStopped, Continued, Output, Exited}
use Rattle.replies.specs.declared.event.Event.TheVariants.{Terminated}
use Rattle.replies.specs.declared.message.Message.{Message}
use Rattle.replies.specs.declared.message.Message.TheVariants.{Response as IsResponse, Event as IsEvent}
use Rattle.replies.specs.declared.response.Outcome.{Outcome}
use Rattle.replies.specs.declared.response.Outcome.TheVariants.{Done, Refused}
use Rattle.replies.specs.declared.response.ResponseBody.{ResponseBody}
use Rattle.facts.specs.Facts.{Facts, nothing_known, unknown}
use Rattle.mirror.specs.Requests.{register_of}
use Rattle.mirror.specs.declared.asked.Asked.{Asked}
use Rattle.mirror.specs.declared.asked.Asked.TheVariants.{Continue, Resume, ConfigurationDone, Launch, Terminate, Disconnect}
use Rattle.mirror.specs.declared.asked.Asked.TheVariants.{SetBreakpoints, SetFunctionBreakpoints, SetInstructionBreakpoints}
use Rattle.mirror.specs.declared.asked.Asked.TheVariants.{StackTrace, Variables, SetVariable, ReadMemory, WriteMemory}
use Rattle.facts.specs.declared.breakpoint.BreakInfo.{BreakInfo}
use Rattle.facts.specs.declared.frame.FrameInfo.{FrameInfo}
use Rattle.facts.specs.declared.run.RunState.{RunState}
use Rattle.facts.specs.declared.run.RunState.TheVariants.{Unknown, Running, Stopped, Ended}
use Rattle.replies.specs.declared.response.ResponseBody.TheVariants.{Initialize, Threads, Scopes, Evaluate, Disassemble, Empty}
use Rattle.replies.specs.declared.response.ResponseBody.TheVariants.{Continue as GoesOn, SetBreakpoints as SourceList}
use Rattle.replies.specs.declared.response.ResponseBody.TheVariants.{SetFunctionBreakpoints as FunctionList}
use Rattle.replies.specs.declared.response.ResponseBody.TheVariants.{SetInstructionBreakpoints as InstructionList}
use Rattle.replies.specs.declared.response.ResponseBody.TheVariants.{StackTrace as Frames, Variables as Values}
use Rattle.replies.specs.declared.response.ResponseBody.TheVariants.{SetVariable as NewValue, ReadMemory as Bytes}
use Rattle.replies.specs.declared.response.ResponseBody.TheVariants.{WriteMemory as Written}

-- ---- the machine continues, stops or ends

-- the machine is in another state, and what was known of it as it stood is forgotten
abbrev pub in_state : RunState → Facts → Facts
in_state run f = record f { run = run; frame = unknown; register = unknown; byte = unknown }

-- it has ended: an exit code that was told is kept
abbrev pub ended : RunState → RunState
ended (Ended code) = Ended code
ended Unknown = Ended None
ended Running = Ended None
ended Stopped = Ended None

-- ---- breakpoints

-- the breakpoint that an entry tells, if it is set
abbrev pub verified_at : SourceBreakpoint → Option BreakInfo
verified_at (Verified id address line) = Some (record { id = id; address = address })
verified_at (Unverified line message) = None

-- the same of an entry for an instruction, or for a function
abbrev pub verified_instruction : InstructionBreakpoint → Option BreakInfo
verified_instruction (VerifiedAt id address) = Some (record { id = id; address = address })
verified_instruction (UnverifiedAt message) = None

-- the lists of the sources, after one for this path
abbrev pub listed : List ℕ → List BreakInfo → (List ℕ → List BreakInfo) → List ℕ → List BreakInfo
listed path breaks old asked = if bytes_eq path asked then breaks else old asked

-- ---- frames, registers and bytes

-- what a list tells of the places that follow each other from the first on, over what was known; places are numbers of 32
-- bits
abbrev pub upto : {A : Type 0} → ℕ → ℕ → List A → (ℕ → Option A) → ℕ → Option A
upto count first items old place =
    if nat_le first place && nat_lt place (first + count) && nat_lt place (2 ^ 32)
    then slice_get items (place - first) else old place

unfoldable pub over : {A : Type 0} → ℕ → List A → (ℕ → Option A) → ℕ → Option A
over first items old place = upto (length items) first items old place

-- the frame that an entry tells
abbrev pub frame_of : StackFrame → FrameInfo
frame_of frame = record { id = frame.id; address = frame.instruction_pointer_reference; name = frame.name }

-- a register has a value
abbrev pub valued : Option ℕ → ℕ → (ℕ → Option ℕ) → ℕ → Option ℕ
valued None value old number = old number
valued (Some register) value old number = if register == number then Some value else old number

-- the registers after a variable: one that has no register's name tells nothing
abbrev pub after_variable : (ℕ → Option ℕ) → Variable → ℕ → Option ℕ
after_variable old variable = valued (register_of variable.name) variable.value old

-- the registers after a list of variables
abbrev pub after_variables : (ℕ → Option ℕ) → List Variable → ℕ → Option ℕ
after_variables old variables = fold after_variable old variables

-- ---- responses

-- the list of a source: a request with no path tells nothing
abbrev pub source_listed : Option (List ℕ) → List BreakInfo → Facts → Facts
source_listed None breaks f = f
source_listed (Some path) breaks f = record f { source = listed path breaks f.source }

-- the bytes that were written: as many as the body says, from the place on that the request names, if it names one
abbrev pub written : Option ℕ → List ℕ → Facts → Facts
written None bytes f = f
written (Some place) bytes f = record f { byte = over place bytes f.byte }

-- a success with no body
abbrev pub acknowledged : Asked → Facts → Facts
acknowledged Resume f = in_state Running f
acknowledged ConfigurationDone f = if f.launched then in_state Running f else f
acknowledged Launch f = record f { launched = true }
acknowledged Terminate f = record f { run = ended f.run }
acknowledged Disconnect f = nothing_known
acknowledged _ f = f

-- a success of `continue`
abbrev pub gone_on : Asked → Facts → Facts
gone_on Continue f = in_state Running f
gone_on _ f = f

-- a success of `setBreakpoints`
abbrev pub source_set : List SourceBreakpoint → Asked → Facts → Facts
source_set entries (SetBreakpoints path) f = source_listed path (filter_map verified_at entries) f
source_set entries _ f = f

-- a success of `setFunctionBreakpoints`
abbrev pub functions_set : List InstructionBreakpoint → Asked → Facts → Facts
functions_set entries SetFunctionBreakpoints f = record f { functions = filter_map verified_instruction entries }
functions_set entries _ f = f

-- a success of `setInstructionBreakpoints`
abbrev pub instructions_set : List InstructionBreakpoint → Asked → Facts → Facts
instructions_set entries SetInstructionBreakpoints f = record f { instructions = filter_map verified_instruction entries }
instructions_set entries _ f = f

-- a success of `stackTrace`
abbrev pub frames_told : List StackFrame → Asked → Facts → Facts
frames_told frames (StackTrace start) f = record f { frame = over start (map frame_of frames) f.frame }
frames_told frames _ f = f

-- a success of `variables`
abbrev pub variables_told : List Variable → Asked → Facts → Facts
variables_told variables Variables f = record f { register = after_variables f.register variables }
variables_told variables _ f = f

-- a success of `setVariable`
abbrev pub variable_set : ℕ → Asked → Facts → Facts
variable_set value (SetVariable name) f = record f { register = valued (register_of name) value f.register }
variable_set value _ f = f

-- a success of `readMemory`
abbrev pub bytes_read : ℕ → List ℕ → Asked → Facts → Facts
bytes_read address bytes ReadMemory f = record f { byte = over address bytes f.byte }
bytes_read address bytes _ f = f

-- a success of `writeMemory`
abbrev pub bytes_written : ℕ → Asked → Facts → Facts
bytes_written count (WriteMemory place bytes) f = written place (take count bytes) f
bytes_written count _ f = f

-- a success with this body
abbrev pub succeeded : ResponseBody → Asked → Facts → Facts
succeeded Empty asked f = acknowledged asked f
succeeded GoesOn asked f = gone_on asked f
succeeded (SourceList b) asked f = source_set b.breakpoints asked f
succeeded (FunctionList b) asked f = functions_set b.breakpoints asked f
succeeded (InstructionList b) asked f = instructions_set b.breakpoints asked f
succeeded (Frames b) asked f = frames_told b.stack_frames asked f
succeeded (Values b) asked f = variables_told b.variables asked f
succeeded (NewValue b) asked f = variable_set b.value asked f
succeeded (Bytes b) asked f = bytes_read b.address b.bytes asked f
succeeded (Written b) asked f = bytes_written b.bytes_written asked f
succeeded Initialize asked f = f
succeeded Threads asked f = f
succeeded (Scopes b) asked f = f
succeeded (Evaluate b) asked f = f
succeeded (Disassemble b) asked f = f

-- a response to what was asked, if that is known
abbrev pub answered : Option Asked → Outcome → Facts → Facts
answered None outcome f = f
answered (Some asked) (Refused refusal text) f = f
answered (Some asked) (Done body) f = succeeded body asked f

-- ---- events

abbrev pub happened : Event → Facts → Facts
happened (HasStopped body) f = in_state Stopped f
happened Continued f = in_state Running f
happened (Exited body) f = record f { run = Ended (Some body.exit_code) }
happened Terminated f = record f { run = ended f.run }
happened Initialized f = f
happened (Output body) f = f

-- ---- a message

-- the facts after a message, by what was asked
abbrev pub folded : (ℕ → Option Asked) → Facts → Message → Facts
folded asked f (IsEvent event) = happened event f
folded asked f (IsResponse response) = answered (asked response.request_seq) response.outcome f

-- ---- examples

-- two frames from the second on
two_frames : List FrameInfo
two_frames = record { id = 4; address = 65536; name = codes "f" } ∷ record { id = 5; address = 65544; name = codes "g" } ∷ []

the_third_frame : over 1 two_frames unknown 2 ≡ Some (record { id = 5; address = 65544; name = codes "g" })
unfolding over two_frames
the_third_frame = refl

not_the_first_frame : over 1 two_frames unknown 0 ≡ None
unfolding over two_frames
not_the_first_frame = refl

-- as the machine continues, its registers are forgotten
registers_are_forgotten : (folded unknown (record nothing_known { register = λ number. Some 7 }) (IsEvent Continued)).register 10 ≡ None
registers_are_forgotten = refl

-- the end keeps the exit code
code_is_kept : (folded unknown (record nothing_known { run = Ended (Some (pos 6)) }) (IsEvent Terminated)).run ≡ Ended (Some (pos 6))
code_is_kept = refl

-- a success of a request that is not known tells nothing
nobody_asked : folded unknown nothing_known (IsResponse (record { request_seq = 4; command = codes "next"; outcome = Done Empty })) ≡ nothing_known
nobody_asked = refl

-- a success of `next`
next_goes_on : (folded (λ seq. Some Resume) nothing_known
    (IsResponse (record { request_seq = 4; command = codes "next"; outcome = Done Empty }))).run ≡ Running
next_goes_on = refl
