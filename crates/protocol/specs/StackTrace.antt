-- The request `stackTrace` (`StackTraceRequest`): what its arguments mean.
--
-- The editor names a thread by an integer, and may say from which frame on, and how many. The frames are
-- counted from 0, so a start below 0 is none. Where it doesn't say how many, that stays open here.
-- `format` is not looked at.
use Rattle.std.specs.Prelude.{None, Option, Some, codes, pos, refl, unwrap_or, ◌≡◌}
use Rattle.serde_json.specs.Data.{Members, member, no_members, number, unsigned}
use Rattle.protocol.specs.Properties.{integer, natural, property, ◌>>=◌}
use Rattle.protocol.specs.Arguments.{optional, required}
use Rattle.protocol.specs.declared.members.TheConstants.{THREAD_ID}
use Rattle.protocol.specs.declared.stack_trace.StackTraceArguments.{StackTraceArguments}
use Rattle.protocol.specs.declared.stack_trace.TheConstants.{NAME, START_FRAME, LEVELS}
use Rattle.protocol.specs.declared.command.Command.TheVariants as command
use Rattle.protocol.specs.Rows.{Row, row}

-- the arguments; None where the thread is absent, or one of the three has another type
abbrev pub stack_trace_arguments : Members → Option StackTraceArguments
stack_trace_arguments members = do
  thread_id ← required integer (property THREAD_ID.now members)
  start_frame ← optional natural (property START_FRAME.now members)
  levels ← optional natural (property LEVELS.now members)
  Some (record { thread_id = thread_id; start_frame = unwrap_or start_frame 0; levels = levels })

-- the request
abbrev pub stack_trace_request : Row
stack_trace_request = row NAME.now stack_trace_arguments (λ a. command.StackTrace a)

from_the_innermost : stack_trace_arguments (member (codes "threadId") (number (unsigned 1)) no_members)
    ≡ Some (record { thread_id = pos 1; start_frame = 0; levels = None })
from_the_innermost = refl

twenty_frames : stack_trace_arguments
    (member (codes "levels") (number (unsigned 20))
    (member (codes "threadId") (number (unsigned 1)) no_members))
    ≡ Some (record { thread_id = pos 1; start_frame = 0; levels = Some 20 })
twenty_frames = refl

from_frame_2 : stack_trace_arguments
    (member (codes "startFrame") (number (unsigned 2))
    (member (codes "threadId") (number (unsigned 1)) no_members))
    ≡ Some (record { thread_id = pos 1; start_frame = 2; levels = None })
from_frame_2 = refl
