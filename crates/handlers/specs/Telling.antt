-- What an editor is told of the program that it debugs (DAP specification, `StoppedEvent`, `OutputEvent`,
-- `ExitedEvent`).
use Rattle.std.specs.Prelude.{ℕ, ℤ, List, [], ◌∷◌, ◌++◌, Option, Some, None, codes}
use Rattle.std.specs.Fmt.{signed_decimal}
use Rattle.debuggee.specs.declared.run.Why.{Why}
use Rattle.debuggee.specs.declared.run.Why.TheVariants as why
use Rattle.message_parts.specs.declared.output.Category.TheVariants.{Console, Stdout}
use Rattle.message_parts.specs.declared.stopped.Reason.{Reason}
use Rattle.message_parts.specs.declared.stopped.Reason.TheVariants as reason
use Rattle.replies.specs.declared.event.Event.{Event}
use Rattle.replies.specs.declared.event.Event.TheVariants as event
use Rattle.rv32i.specs.Causes.{cause_text}
use Rattle.stepping.specs.declared.tick.Reason.TheVariants as met

-- the reason of a stop
abbrev pub reason_of : Why → Reason
reason_of why.Entry = reason.Entry
reason_of why.Pause = reason.Pause
reason_of why.Limit = reason.Exception
reason_of (why.Met (met.Exception c)) = reason.Exception
reason_of (why.Met met.Ebreak) = reason.Breakpoint
reason_of (why.Met met.Source) = reason.Breakpoint
reason_of (why.Met met.Instruction) = reason.InstructionBreakpoint
reason_of (why.Met met.Function) = reason.FunctionBreakpoint
reason_of (why.Met met.Goal) = reason.Step
reason_of (why.Met met.Start) = reason.Step

-- the text of a stop: an exception's name, that the instruction limit is reached, or that a run back undid all recorded moves
abbrev pub text_of : Why → Option (List ℕ)
text_of why.Entry = None
text_of why.Pause = None
text_of why.Limit = Some (codes "instruction limit")
text_of (why.Met (met.Exception c)) = Some (cause_text c)
text_of (why.Met met.Ebreak) = None
text_of (why.Met met.Source) = None
text_of (why.Met met.Instruction) = None
text_of (why.Met met.Function) = None
text_of (why.Met met.Goal) = None
text_of (why.Met met.Start) = Some (codes "start of history")

-- a stop, with the numbers of the breakpoints that made it
abbrev pub stop_event : Why → List ℕ → Event
stop_event why ids =
    event.Stopped (record { hit_breakpoint_ids = ids; reason = reason_of why; text = text_of why })

-- a number that the program printed, in decimal, on a line
abbrev pub output_event : ℤ → Event
output_event number = event.Output (record { category = Stdout; output = signed_decimal number ++ codes "\n" })

-- what a logpoint writes, on a line; it is no output of the program
abbrev pub log_event : List ℕ → Event
log_event text = event.Output (record { category = Console; output = text ++ codes "\n" })

-- the end of the program, with its code
abbrev pub exit_events : ℤ → List Event
exit_events code = event.Exited (record { exit_code = code }) ∷ event.Terminated ∷ []
