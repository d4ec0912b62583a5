-- Why the program ends, where it served editors or a stream failed.
use Rattle.std.specs.Prelude.{Option, Some, None}
use Rattle.std.specs.declared.io.ErrorKind.{ErrorKind}
use Rattle.std.specs.declared.io.ErrorKind.TheVariants as kind
use Rattle.commands.specs.declared.exit_reason.ExitReason.{ExitReason}
use Rattle.commands.specs.declared.exit_reason.ExitReason.TheVariants.{Success, BadMessage, ReadOrWriteFault, NoMemory}
use Rattle.session.specs.declared.event.LinkFault.{LinkFault}
use Rattle.transport.specs.declared.end.DriveEnd.{DriveEnd}
use Rattle.transport.specs.declared.end.DriveEnd.TheVariants.{Closed, Fault, Turns, NoMemory as OutOfMemory}

-- by how driving or serving ended, and what closed the connection, if something did
abbrev pub exit_reason_of : DriveEnd → Option LinkFault → ExitReason
exit_reason_of Closed None = Success
exit_reason_of Closed (Some fault) = BadMessage
exit_reason_of Fault fault = ReadOrWriteFault
exit_reason_of Turns fault = ReadOrWriteFault
exit_reason_of OutOfMemory fault = NoMemory

-- by the error with which a stream failed
abbrev pub exit_reason_by : ErrorKind → ExitReason
exit_reason_by kind.OutOfMemory = NoMemory
exit_reason_by _ = ReadOrWriteFault
