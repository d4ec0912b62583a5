-- The arguments of requests, as JSON objects.
--
-- An object has a member for each argument that the request has, also where it is what an absent one would be. The names
-- stand in byte order, as they do in what the adapter sends. The standard asks for two arguments that the adapter never
-- looks at: which adapter is meant (`InitializeRequestArguments.adapterID`), and at which exceptions to stop
-- (`SetExceptionBreakpointsArguments.filters`), which is at none.
use Rattle.std.specs.Prelude.{ℕ, ℤ, Bool, true, false, List, [], ◌∷◌, Option, Some, codes}
use Rattle.serde_json.specs.Data.{Members, array, no_items, no_members, string}
use Rattle.message_parts.specs.EncodedBytes.{encoded_bytes}
use Rattle.message_parts.specs.Forms.{Fields, Form, field, fixed, list, none, object_of, one_of, optional, made_of, signed, text, truth, whole}
use Rattle.protocol.specs.declared.command.Command.{Command}
use Rattle.protocol.specs.declared.command.Command.TheVariants as command
use Rattle.protocol.specs.declared.filter.Filter.{Filter}
use Rattle.protocol.specs.declared.filter.Filter.TheVariants.{Indexed, Named}
use Rattle.protocol.specs.declared.granularity.Granularity.{Granularity}
use Rattle.protocol.specs.declared.granularity.Granularity.TheVariants.{Statement, Line, Instruction}
use Rattle.protocol.specs.declared.set_breakpoints.Source.{Source}
use Rattle.protocol.specs.declared.set_breakpoints.SourceBreakpoint.{SourceBreakpoint}
use Rattle.protocol.specs.declared.set_function_breakpoints.FunctionBreakpoint.{FunctionBreakpoint}
use Rattle.protocol.specs.declared.set_instruction_breakpoints.InstructionBreakpoint.{InstructionBreakpoint}

-- ---- names that stand for a choice

-- how far a step goes (`SteppingGranularity`)
abbrev pub granularities : List Granularity
granularities = Statement ∷ Line ∷ Instruction ∷ []

abbrev pub granularity_name : Granularity → List ℕ
granularity_name Statement = codes "statement"
granularity_name Line = codes "line"
granularity_name Instruction = codes "instruction"

-- which kind of variables (`VariablesArguments.filter`)
abbrev pub filters : List Filter
filters = Indexed ∷ Named ∷ []

abbrev pub filter_name : Filter → List ℕ
filter_name Indexed = codes "indexed"
filter_name Named = codes "named"

-- ---- what lists of breakpoints are made of

-- a source (`Source`)
abbrev pub source : Form Source
source = made_of (λ s. (s.path, tt)) (λ p. Some (record { path = p.0 })) (object_of (optional (codes "path") text none))

-- a breakpoint at a line (`SourceBreakpoint`)
abbrev pub source_breakpoint : Form SourceBreakpoint
source_breakpoint =
    made_of (λ b. (b.condition, (b.hit_condition, (b.line, (b.log_message, tt)))))
    (λ p. Some (record { condition = p.0; hit_condition = p.1.0; line = p.1.1.0; log_message = p.1.1.1.0 }))
    (object_of (optional (codes "condition") text
    (optional (codes "hitCondition") text
    (field (codes "line") whole
    (optional (codes "logMessage") text none)))))

-- a breakpoint at a function (`FunctionBreakpoint`)
abbrev pub function_breakpoint : Form FunctionBreakpoint
function_breakpoint =
    made_of (λ b. (b.condition, (b.hit_condition, (b.name, tt))))
    (λ p. Some (record { condition = p.0; hit_condition = p.1.0; name = p.1.1.0 }))
    (object_of (optional (codes "condition") text
    (optional (codes "hitCondition") text
    (field (codes "name") text none))))

-- a breakpoint at an address (`InstructionBreakpoint`)
abbrev pub instruction_breakpoint : Form InstructionBreakpoint
instruction_breakpoint =
    made_of (λ b. (b.condition, (b.hit_condition, (b.instruction_reference, (b.offset, tt)))))
    (λ p. Some (record { condition = p.0; hit_condition = p.1.0; instruction_reference = p.1.1.0; offset = p.1.1.1.0 }))
    (object_of (optional (codes "condition") text
    (optional (codes "hitCondition") text
    (field (codes "instructionReference") text
    (field (codes "offset") signed none)))))

-- ---- the arguments of each request, by its name

abbrev pub initialize : Fields (Bool × (Bool × Unit {0}))
initialize =
    fixed (codes "adapterID") (string (codes "rvdap"))
    (field (codes "columnsStartAt1") truth (field (codes "linesStartAt1") truth none))

abbrev pub launch : Fields (List ℕ × (Bool × Unit {0}))
launch = field (codes "program") text (field (codes "stopOnEntry") truth none)

abbrev pub cancel : Fields (Option ℤ × Unit {0})
cancel = optional (codes "requestId") signed none

abbrev pub disconnect : Fields (Option Bool × (Option Bool × Unit {0}))
disconnect = optional (codes "suspendDebuggee") truth (optional (codes "terminateDebuggee") truth none)

abbrev pub set_breakpoints : Fields (List SourceBreakpoint × (Source × Unit {0}))
set_breakpoints = field (codes "breakpoints") (list source_breakpoint) (field (codes "source") source none)

abbrev pub set_function_breakpoints : Fields (List FunctionBreakpoint × Unit {0})
set_function_breakpoints = field (codes "breakpoints") (list function_breakpoint) none

abbrev pub set_instruction_breakpoints : Fields (List InstructionBreakpoint × Unit {0})
set_instruction_breakpoints = field (codes "breakpoints") (list instruction_breakpoint) none

abbrev pub set_exception_breakpoints : Fields (Unit {0})
set_exception_breakpoints = fixed (codes "filters") (array no_items) none

-- those of `continue`, `reverseContinue` and `pause`
abbrev pub thread : Fields (ℤ × Unit {0})
thread = field (codes "threadId") signed none

-- those of `next`, `stepIn`, `stepOut` and `stepBack`
abbrev pub step : Fields (Granularity × (ℤ × Unit {0}))
step = field (codes "granularity") (one_of granularity_name granularities) thread

abbrev pub stack_trace : Fields (Option ℕ × (ℕ × (ℤ × Unit {0})))
stack_trace = optional (codes "levels") whole (field (codes "startFrame") whole thread)

abbrev pub scopes : Fields (ℤ × Unit {0})
scopes = field (codes "frameId") signed none

abbrev pub variables : Fields (Option ℕ × (Option Filter × (ℕ × (ℤ × Unit {0}))))
variables =
    optional (codes "count") whole
    (optional (codes "filter") (one_of filter_name filters)
    (field (codes "start") whole
    (field (codes "variablesReference") signed none)))

abbrev pub set_variable : Fields (List ℕ × (List ℕ × (ℤ × Unit {0})))
set_variable =
    field (codes "name") text
    (field (codes "value") text
    (field (codes "variablesReference") signed none))

abbrev pub evaluate : Fields (List ℕ × (Option ℤ × Unit {0}))
evaluate = field (codes "expression") text (optional (codes "frameId") signed none)

abbrev pub disassemble : Fields (ℕ × (ℤ × (List ℕ × (ℤ × Unit {0}))))
disassemble =
    field (codes "instructionCount") whole
    (field (codes "instructionOffset") signed
    (field (codes "memoryReference") text
    (field (codes "offset") signed none)))

abbrev pub read_memory : Fields (ℕ × (List ℕ × (ℤ × Unit {0})))
read_memory =
    field (codes "count") whole
    (field (codes "memoryReference") text
    (field (codes "offset") signed none))

abbrev pub write_memory : Fields (Bool × (List ℕ × (List ℕ × (ℤ × Unit {0}))))
write_memory =
    field (codes "allowPartial") truth
    (field (codes "data") encoded_bytes
    (field (codes "memoryReference") text
    (field (codes "offset") signed none)))

-- ---- of each command

-- whether the request has arguments
abbrev pub has_arguments : Command → Bool
has_arguments command.ConfigurationDone = false
has_arguments command.Threads = false
has_arguments command.Restart = false
has_arguments command.Terminate = false
has_arguments _ = true

-- the members of its arguments
abbrev pub members_of : Command → Members
members_of (command.Initialize a) = initialize.members (a.columns_start_at1, (a.lines_start_at1, tt))
members_of (command.Launch a) = launch.members (a.program, (a.stop_on_entry, tt))
members_of command.Attach = no_members
members_of command.ConfigurationDone = no_members
members_of command.Threads = no_members
members_of (command.Cancel a) = cancel.members (a.request_id, tt)
members_of command.Restart = no_members
members_of command.Terminate = no_members
members_of (command.Disconnect a) = disconnect.members (a.suspend_debuggee, (a.terminate_debuggee, tt))
members_of (command.SetBreakpoints a) = set_breakpoints.members (a.breakpoints, (a.source, tt))
members_of (command.SetFunctionBreakpoints a) = set_function_breakpoints.members (a.breakpoints, tt)
members_of (command.SetInstructionBreakpoints a) = set_instruction_breakpoints.members (a.breakpoints, tt)
members_of command.SetExceptionBreakpoints = set_exception_breakpoints.members tt
members_of (command.Continue a) = thread.members (a.thread_id, tt)
members_of (command.Next a) = step.members (a.granularity, (a.thread_id, tt))
members_of (command.StepIn a) = step.members (a.granularity, (a.thread_id, tt))
members_of (command.StepOut a) = step.members (a.granularity, (a.thread_id, tt))
members_of (command.StepBack a) = step.members (a.granularity, (a.thread_id, tt))
members_of (command.ReverseContinue a) = thread.members (a.thread_id, tt)
members_of (command.Pause a) = thread.members (a.thread_id, tt)
members_of (command.StackTrace a) = stack_trace.members (a.levels, (a.start_frame, (a.thread_id, tt)))
members_of (command.Scopes a) = scopes.members (a.frame_id, tt)
members_of (command.Variables a) = variables.members (a.count, (a.filter, (a.start, (a.variables_reference, tt))))
members_of (command.SetVariable a) = set_variable.members (a.name, (a.value, (a.variables_reference, tt)))
members_of (command.Evaluate a) = evaluate.members (a.expression, (a.frame_id, tt))
members_of (command.Disassemble a) =
    disassemble.members (a.instruction_count, (a.instruction_offset, (a.memory_reference, (a.offset, tt))))
members_of (command.ReadMemory a) = read_memory.members (a.count, (a.memory_reference, (a.offset, tt)))
members_of (command.WriteMemory a) = write_memory.members (a.allow_partial, (a.bytes, (a.memory_reference, (a.offset, tt))))
