-- What the arguments of a step mean: of `next`, `stepIn`, `stepOut` and `stepBack` (`NextRequest`, `StepInRequest`,
-- `StepOutRequest`, `StepBackRequest`).
--
-- The editor names a thread by an integer, and may say how far the step goes. Where it doesn't, the step goes to
-- another statement. Whatever it says, a step back goes back by one instruction; a granularity that the schema does not
-- have is refused all the same. `singleThread` is not looked at, since there is one thread.
use Rattle.std.specs.Prelude.{ℕ, List, None, Option, Some, codes, pos, refl, unwrap_or, ◌≡◌}
use Rattle.serde_json.specs.Data.{Members, member, no_members, number, string, unsigned}
use Rattle.protocol.specs.Properties.{integer, property, ◌>>=◌}
use Rattle.protocol.specs.Arguments.{optional, required}
use Rattle.protocol.specs.Granularity.{granularity_of}
use Rattle.protocol.specs.declared.granularity.TheConstants.{GRANULARITY}
use Rattle.protocol.specs.declared.granularity.Granularity.TheVariants.{Statement, Line, Instruction}
use Rattle.protocol.specs.declared.members.TheConstants.{THREAD_ID}
use Rattle.protocol.specs.declared.step_arguments.StepArguments.{StepArguments}
use Rattle.protocol.specs.declared.command.Command.{Command}
use Rattle.protocol.specs.Rows.{Row, row}

-- the arguments; None where the thread is absent, or one of the two has another type
abbrev pub step_arguments : Members → Option StepArguments
step_arguments members = do
  thread_id ← required integer (property THREAD_ID.now members)
  granularity ← optional granularity_of (property GRANULARITY.now members)
  Some (record { thread_id = thread_id; granularity = unwrap_or granularity Statement })

-- a request of these arguments
abbrev pub step : List ℕ → (StepArguments → Command) → Row
step name command = row name step_arguments command

by_statements : step_arguments (member (codes "threadId") (number (unsigned 1)) no_members)
    ≡ Some (record { thread_id = pos 1; granularity = Statement })
by_statements = refl

by_lines : step_arguments
    (member (codes "granularity") (string (codes "line"))
    (member (codes "threadId") (number (unsigned 1)) no_members))
    ≡ Some (record { thread_id = pos 1; granularity = Line })
by_lines = refl

by_instructions : step_arguments
    (member (codes "granularity") (string (codes "instruction"))
    (member (codes "threadId") (number (unsigned 1)) no_members))
    ≡ Some (record { thread_id = pos 1; granularity = Instruction })
by_instructions = refl

by_nothing_else : step_arguments
    (member (codes "granularity") (string (codes "call"))
    (member (codes "threadId") (number (unsigned 1)) no_members))
    ≡ None
by_nothing_else = refl
