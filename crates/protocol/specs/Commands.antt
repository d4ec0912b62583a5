-- The requests that the adapter has, in one table.
--
-- A request is known by its name (`Request.command`), and its arguments mean what that request says of them, in its
-- own file. A name that is not in the table is an unknown command, whatever the arguments are. The arguments of a
-- known one are bad where they are no object, or where one that is required is absent, or one that is looked at has
-- another type than the schema's or is a number out of range.
use Rattle.std.specs.Prelude.{◌≡◌, ℕ, List, [], ◌∷◌, ◌++◌, Option, Some, None, option_and_then, Result}
use Rattle.std.specs.Prelude.{Ok, Err, map, ok_or, bytes_eq, true, codes, refl, if◌then◌else◌}
use Rattle.serde_json.specs.Data.{Data, array, no_items, Members}
use Rattle.protocol.specs.Arguments.{arguments_members}
use Rattle.protocol.specs.Rows.{Row, bare}
use Rattle.protocol.specs.Initialize.{initialize_request}
use Rattle.protocol.specs.Launch.{launch_request}
use Rattle.protocol.specs.Cancel.{cancel_request}
use Rattle.protocol.specs.Disconnect.{disconnect_request}
use Rattle.protocol.specs.SetBreakpoints.{set_breakpoints_request}
use Rattle.protocol.specs.SetFunctionBreakpoints.{set_function_breakpoints_request}
use Rattle.protocol.specs.SetInstructionBreakpoints.{set_instruction_breakpoints_request}
use Rattle.protocol.specs.StepArguments.{step}
use Rattle.protocol.specs.ThreadArguments.{on_thread}
use Rattle.protocol.specs.StackTrace.{stack_trace_request}
use Rattle.protocol.specs.Scopes.{scopes_request}
use Rattle.protocol.specs.Variables.{variables_request}
use Rattle.protocol.specs.SetVariable.{set_variable_request}
use Rattle.protocol.specs.Evaluate.{evaluate_request}
use Rattle.protocol.specs.Disassemble.{disassemble_request}
use Rattle.protocol.specs.ReadMemory.{read_memory_request}
use Rattle.protocol.specs.WriteMemory.{write_memory_request}
use Rattle.protocol.specs.declared.command.Command.{Command}
use Rattle.protocol.specs.declared.command.Command.TheVariants as command
use Rattle.protocol.specs.declared.refusal.Refusal.{Refusal}
use Rattle.protocol.specs.declared.refusal.Refusal.TheVariants.{UnknownCommand, BadArguments}
use Rattle.protocol.specs.declared.unread.Unread.{Unread}
use Rattle.protocol.specs.declared.unread.Unread.TheVariants.{Bad}
use Rattle.protocol.specs.declared.attach.TheConstants.{NAME as ATTACH}
use Rattle.protocol.specs.declared.configuration_done.TheConstants.{NAME as CONFIGURATION_DONE}
use Rattle.protocol.specs.declared.threads.TheConstants.{NAME as THREADS}
use Rattle.protocol.specs.declared.restart.TheConstants.{NAME as RESTART}
use Rattle.protocol.specs.declared.terminate.TheConstants.{NAME as TERMINATE}
use Rattle.protocol.specs.declared.set_exception_breakpoints.TheConstants.{NAME as SET_EXCEPTION_BREAKPOINTS}
use Rattle.protocol.specs.declared.continue_.TheConstants.{NAME as CONTINUE}
use Rattle.protocol.specs.declared.next.TheConstants.{NAME as NEXT}
use Rattle.protocol.specs.declared.step_in.TheConstants.{NAME as STEP_IN}
use Rattle.protocol.specs.declared.step_out.TheConstants.{NAME as STEP_OUT}
use Rattle.protocol.specs.declared.step_back.TheConstants.{NAME as STEP_BACK}
use Rattle.protocol.specs.declared.reverse_continue.TheConstants.{NAME as REVERSE_CONTINUE}
use Rattle.protocol.specs.declared.pause.TheConstants.{NAME as PAUSE}

-- the start and the end of a session, and what is asked at any time
abbrev pub session_requests : List Row
session_requests = initialize_request
    ∷ launch_request
    ∷ bare ATTACH.now command.Attach
    ∷ bare CONFIGURATION_DONE.now command.ConfigurationDone
    ∷ bare THREADS.now command.Threads
    ∷ cancel_request
    ∷ bare RESTART.now command.Restart
    ∷ bare TERMINATE.now command.Terminate
    ∷ disconnect_request
    ∷ []

-- where the program stops, and how it continues
unfoldable pub execution_requests : List Row
execution_requests = set_breakpoints_request
    ∷ set_function_breakpoints_request
    ∷ set_instruction_breakpoints_request
    ∷ bare SET_EXCEPTION_BREAKPOINTS.now command.SetExceptionBreakpoints
    ∷ on_thread CONTINUE.now (λ a. command.Continue a)
    ∷ step NEXT.now (λ a. command.Next a)
    ∷ step STEP_IN.now (λ a. command.StepIn a)
    ∷ step STEP_OUT.now (λ a. command.StepOut a)
    ∷ step STEP_BACK.now (λ a. command.StepBack a)
    ∷ on_thread REVERSE_CONTINUE.now (λ a. command.ReverseContinue a)
    ∷ on_thread PAUSE.now (λ a. command.Pause a)
    ∷ []

-- what the program is at
unfoldable pub inspection_requests : List Row
inspection_requests = stack_trace_request
    ∷ scopes_request
    ∷ variables_request
    ∷ set_variable_request
    ∷ evaluate_request
    ∷ disassemble_request
    ∷ read_memory_request
    ∷ write_memory_request
    ∷ []

-- the requests
abbrev pub requests : List Row
requests = session_requests ++ (execution_requests ++ inspection_requests)

their_names : map (λ r. r.name) requests
    ≡ codes "initialize" ∷ codes "launch" ∷ codes "attach" ∷ codes "configurationDone" ∷ codes "threads"
    ∷ codes "cancel" ∷ codes "restart" ∷ codes "terminate" ∷ codes "disconnect" ∷ codes "setBreakpoints"
    ∷ codes "setFunctionBreakpoints" ∷ codes "setInstructionBreakpoints" ∷ codes "setExceptionBreakpoints"
    ∷ codes "continue" ∷ codes "next" ∷ codes "stepIn" ∷ codes "stepOut" ∷ codes "stepBack"
    ∷ codes "reverseContinue" ∷ codes "pause" ∷ codes "stackTrace" ∷ codes "scopes" ∷ codes "variables"
    ∷ codes "setVariable" ∷ codes "evaluate" ∷ codes "disassemble" ∷ codes "readMemory" ∷ codes "writeMemory" ∷ []
unfolding execution_requests inspection_requests
their_names = refl

-- the command of that name among the requests, by the members of its arguments (None: they are no
-- object), or why it is refused
abbrev pub command_among : List Row → List ℕ → Option Members → Result Command Refusal
command_among [] name members = Err UnknownCommand
command_among (r ∷ rs) name members =
    if bytes_eq name r.name then ok_or (option_and_then r.meaning members) BadArguments
    else command_among rs name members

-- the command of that name with those arguments, or why it is refused
abbrev pub command_of : List ℕ → Option Data → Result Command Refusal
command_of name arguments = command_among requests name (arguments_members arguments)

initialize_has_defaults : command_of (codes "initialize") None
    ≡ Ok (command.Initialize (record { lines_start_at1 = true; columns_start_at1 = true }))
initialize_has_defaults = refl

cancel_may_name_no_request : command_of (codes "cancel") None
    ≡ Ok (command.Cancel (record { request_id = None }))
cancel_may_name_no_request = refl

disconnect_leaves_it_open : command_of (codes "disconnect") None
    ≡ Ok (command.Disconnect (record { terminate_debuggee = None; suspend_debuggee = None }))
disconnect_leaves_it_open = refl

threads_needs_no_arguments : command_of (codes "threads") None ≡ Ok command.Threads
threads_needs_no_arguments = refl

threads_takes_no_list : command_of (codes "threads") (Some (array no_items)) ≡ Err BadArguments
threads_takes_no_list = refl

pause_needs_a_thread : command_of (codes "pause") None ≡ Err BadArguments
unfolding execution_requests
pause_needs_a_thread = refl

unknown_with_a_list : command_of (codes "Threads") (Some (array no_items)) ≡ Err UnknownCommand
unfolding execution_requests inspection_requests
unknown_with_a_list = refl

-- what `Request.command` says
abbrev pub name_of : Command → List ℕ
name_of (command.Initialize arguments) = initialize_request.name
name_of (command.Launch arguments) = launch_request.name
name_of command.Attach = ATTACH.now
name_of command.ConfigurationDone = CONFIGURATION_DONE.now
name_of command.Threads = THREADS.now
name_of (command.Cancel arguments) = cancel_request.name
name_of command.Restart = RESTART.now
name_of command.Terminate = TERMINATE.now
name_of (command.Disconnect arguments) = disconnect_request.name
name_of (command.SetBreakpoints arguments) = set_breakpoints_request.name
name_of (command.SetFunctionBreakpoints arguments) = set_function_breakpoints_request.name
name_of (command.SetInstructionBreakpoints arguments) = set_instruction_breakpoints_request.name
name_of command.SetExceptionBreakpoints = SET_EXCEPTION_BREAKPOINTS.now
name_of (command.Continue arguments) = CONTINUE.now
name_of (command.Next arguments) = NEXT.now
name_of (command.StepIn arguments) = STEP_IN.now
name_of (command.StepOut arguments) = STEP_OUT.now
name_of (command.StepBack arguments) = STEP_BACK.now
name_of (command.ReverseContinue arguments) = REVERSE_CONTINUE.now
name_of (command.Pause arguments) = PAUSE.now
name_of (command.StackTrace arguments) = stack_trace_request.name
name_of (command.Scopes arguments) = scopes_request.name
name_of (command.Variables arguments) = variables_request.name
name_of (command.SetVariable arguments) = set_variable_request.name
name_of (command.Evaluate arguments) = evaluate_request.name
name_of (command.Disassemble arguments) = disassemble_request.name
name_of (command.ReadMemory arguments) = read_memory_request.name
name_of (command.WriteMemory arguments) = write_memory_request.name

-- For private clauses alone: a command that was read is what is meant, and where there is none (a name that is
-- unknown, arguments that are bad), that is meant.
abbrev pub Finds : Result (Option Command) Unread → Result Command Refusal → Type 0
Finds (Ok (Some found)) meant = meant ≡ Ok found
Finds (Ok None) meant = meant ≡ Err UnknownCommand
Finds (Err why) meant = why ≡ Bad → meant ≡ Err BadArguments
