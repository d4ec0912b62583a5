-- How `rvdap run` says how a program ended.
--
-- A program that ends by itself gives its exit code, modulo 256, as every process does. Another end has a status that no
-- shell uses for something else (126 and 127 are a shell's own, and those from 128 on are signals'): 125 where the text
-- does not assemble, 124 where the limit of instructions was reached, 123 where an instruction trapped, 122 where an
-- EBREAK retired, and 121 where more was printed than may be.
use Rattle.std.specs.Prelude.{ℕ, ◌+◌, ◌-◌, ◌%◌, ◌^◌, List, Option, Some, None, codes}
use Rattle.std.specs.Int.{cast_unsigned, w32}
use Rattle.execution.specs.declared.end.ExecutionEnd.{ExecutionEnd}
use Rattle.execution.specs.declared.end.ExecutionEnd.TheVariants.{Ended, Stopped, Limit, OutputLimit}
use Rattle.rv32i.specs.Causes.{cause_text}
use Rattle.rv32i.specs.declared.stepped.Cause.{Cause}
use Rattle.stepping.specs.declared.tick.Reason.TheVariants as why

-- how many instructions may run, or how many bytes may be printed
abbrev pub most : Option ℕ → ℕ
most None = 2 ^ 62
most (Some limit) = limit

-- the status
abbrev pub status_of : ExecutionEnd → ℕ
status_of (Ended code) = cast_unsigned w32 code % 256
status_of Limit = 124
status_of OutputLimit = 121
status_of (Stopped (why.Exception cause)) = 123
status_of (Stopped why.Ebreak) = 122
status_of (Stopped why.Source) = 122
status_of (Stopped why.Instruction) = 122
status_of (Stopped why.Function) = 122
status_of (Stopped why.Goal) = 122
status_of (Stopped why.Start) = 122

-- what the line on standard error says, if there is one
abbrev pub reason_of : ExecutionEnd → Option (List ℕ)
reason_of (Ended code) = None
reason_of Limit = Some (codes "instruction limit")
reason_of OutputLimit = Some (codes "output limit")
reason_of (Stopped (why.Exception cause)) = Some (cause_text cause)
reason_of (Stopped why.Ebreak) = Some (codes "ebreak")
reason_of (Stopped why.Source) = Some (codes "ebreak")
reason_of (Stopped why.Instruction) = Some (codes "ebreak")
reason_of (Stopped why.Function) = Some (codes "ebreak")
reason_of (Stopped why.Goal) = Some (codes "ebreak")
reason_of (Stopped why.Start) = Some (codes "ebreak")

-- where the instruction is that stopped it: an EBREAK retires, and so does a call that prints, so pc is 4 above it then
abbrev pub place_of : ExecutionEnd → ℕ → ℕ
place_of (Stopped why.Ebreak) pc = (pc + (2 ^ 32 - 4)) % 2 ^ 32
place_of OutputLimit pc = (pc + (2 ^ 32 - 4)) % 2 ^ 32
place_of (Stopped (why.Exception cause)) pc = pc
place_of (Stopped why.Source) pc = pc
place_of (Stopped why.Instruction) pc = pc
place_of (Stopped why.Function) pc = pc
place_of (Stopped why.Goal) pc = pc
place_of (Stopped why.Start) pc = pc
place_of (Ended code) pc = pc
place_of Limit pc = pc

-- the cause of the trap that stopped it, if one did
abbrev pub cause_of : ExecutionEnd → Option Cause
cause_of (Stopped (why.Exception cause)) = Some cause
cause_of (Stopped why.Ebreak) = None
cause_of (Stopped why.Source) = None
cause_of (Stopped why.Instruction) = None
cause_of (Stopped why.Function) = None
cause_of (Stopped why.Goal) = None
cause_of (Stopped why.Start) = None
cause_of (Ended code) = None
cause_of Limit = None
cause_of OutputLimit = None
