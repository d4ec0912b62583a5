-- What the arguments mean of a request that names a thread alone: of `continue`, `pause` and `reverseContinue`
-- (`ContinueRequest`, `PauseRequest`, `ReverseContinueRequest`).
--
-- The editor names a thread by an integer. Which threads there are is asked later. `singleThread` is not looked at,
-- since there is one thread.
use Rattle.std.specs.Prelude.{ℕ, List, None, Option, Some, codes, pos, refl, ◌≡◌}
use Rattle.serde_json.specs.Data.{Members, member, no_members, number, unsigned}
use Rattle.protocol.specs.Properties.{integer, property, ◌>>=◌}
use Rattle.protocol.specs.Arguments.{required}
use Rattle.protocol.specs.declared.members.TheConstants.{THREAD_ID}
use Rattle.protocol.specs.declared.thread_arguments.ThreadArguments.{ThreadArguments}
use Rattle.protocol.specs.declared.command.Command.{Command}
use Rattle.protocol.specs.Rows.{Row, row}

-- the arguments; None where the thread is absent, or no integer
abbrev pub thread_arguments : Members → Option ThreadArguments
thread_arguments members = do
  thread_id ← required integer (property THREAD_ID.now members)
  Some (record { thread_id = thread_id })

-- a request of these arguments
abbrev pub on_thread : List ℕ → (ThreadArguments → Command) → Row
on_thread name command = row name thread_arguments command

thread_1 : thread_arguments (member (codes "threadId") (number (unsigned 1)) no_members)
    ≡ Some (record { thread_id = pos 1 })
thread_1 = refl

a_thread_has_to_be_named : thread_arguments no_members ≡ None
a_thread_has_to_be_named = refl
