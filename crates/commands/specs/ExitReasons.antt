-- Why the program ends: its status, and its line on standard error.
use Rattle.std.specs.Prelude.{ℕ, List, Option, Some, None, codes}
use Rattle.commands.specs.declared.exit_reason.ExitReason.{ExitReason}
use Rattle.commands.specs.declared.exit_reason.ExitReason.TheVariants.{Success, BadMessage, ReadOrWriteFault, NoMemory}

-- the status of the process
abbrev pub status_of : ExitReason → ℕ
status_of Success = 0
status_of BadMessage = 1
status_of ReadOrWriteFault = 1
status_of NoMemory = 1

-- what the line says after `rvdap: `
abbrev pub reason_of : ExitReason → Option (List ℕ)
reason_of Success = None
reason_of BadMessage = Some (codes "bad message")
reason_of ReadOrWriteFault = Some (codes "read or write fault")
reason_of NoMemory = Some (codes "no memory")
