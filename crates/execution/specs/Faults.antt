-- What a program did wrong where an instruction trapped, as far as can be seen from where it stands.
--
-- Where another word stands in a line's code than its image has, the program wrote over the instruction, whatever that led to.
-- Else it went to where no memory is; or a word that is no instruction stands there, since it ran past the last line or into
-- data; or the address that its instruction uses is none, or no multiple of what it has to be; or a7 has the number of no call.
use Rattle.std.specs.Prelude.{◌≡◌, ℕ, ◌+◌, ◌-◌, Bool, false, not, ◌==◌, nat_lt, if◌then◌else◌, List, length, take, drop}
use Rattle.std.specs.Prelude.{Option, Some, None, Result, Ok, Err, slice_index}
use Rattle.image.specs.Lines.{line_of}
use Rattle.image.specs.Memory.{first_address, little_endian, word_at}
use Rattle.image.specs.declared.fault.MemFault.{MemFault}
use Rattle.rv32i.specs.Encoding.{IsDecoding}
use Rattle.rv32i.specs.declared.hart.Hart.{Hart}
use Rattle.rv32i.specs.declared.instr.Instr.{Instr}
use Rattle.rv32i.specs.declared.stepped.Cause.{Cause}
use Rattle.rv32i.specs.declared.stepped.Cause.TheVariants as cause
use Rattle.execution.specs.Uses.{use_of}
use Rattle.execution.specs.declared.faults.Fault.{Fault}
use Rattle.execution.specs.declared.faults.Fault.TheVariants.{WentOutside, Empty, RanPastEnd, NotCode, WroteOver, Outside, Misaligned, UnknownCall}
use Rattle.execution.specs.declared.loading.Loaded.{Loaded}
use Rattle.execution.specs.declared.uses.Use.{Use}

-- the word that an image's bytes have at an address, if there is one
abbrev pub word_in : List ℕ → ℕ → Option ℕ
word_in bytes address = if nat_lt address first_address then None
    else if nat_lt (length bytes) (address - first_address + 4) then None
    else Some (little_endian (take 4 (drop (address - first_address) bytes)))

-- another word stands in a line's code than was there
abbrev pub differs : Option ℕ → Option ℕ → ℕ → Bool
differs (Some line) (Some was) word = not (was == word)
differs (Some line) None word = false
differs None was word = false

abbrev pub is_written_over : Loaded → ℕ → Bool
is_written_over loaded word = differs (line_of loaded.lines loaded.runner.hart.pc) (word_in loaded.bytes loaded.runner.hart.pc) word

-- a word that is illegal and that nothing was written over: after the last byte, or where no line's code is
abbrev pub fault_of_illegal : Loaded → Fault
fault_of_illegal loaded = if length loaded.bytes == 0 then Empty
    else if loaded.runner.hart.pc == first_address + length loaded.bytes then RanPastEnd else NotCode

-- the address that an instruction uses, if there is one
abbrev pub used : Option Instr → Hart → Option Use
used None hart = None
used (Some instr) hart = use_of instr hart

abbrev pub misaligned : Option Use → Option Fault
misaligned None = None
misaligned (Some u) = Some (Misaligned u)

abbrev pub outside : Option Use → Option Fault
outside None = None
outside (Some u) = Some (Outside u)

-- by the cause, where nothing was written over the instruction
abbrev pub fault_by : Loaded → Cause → Option Instr → Option Fault
fault_by loaded cause.FetchOutside instr = Some WentOutside
fault_by loaded cause.Illegal instr = Some (fault_of_illegal loaded)
fault_by loaded cause.JumpMisaligned instr = misaligned (used instr loaded.runner.hart)
fault_by loaded cause.LoadMisaligned instr = misaligned (used instr loaded.runner.hart)
fault_by loaded cause.StoreMisaligned instr = misaligned (used instr loaded.runner.hart)
fault_by loaded cause.LoadOutside instr = outside (used instr loaded.runner.hart)
fault_by loaded cause.StoreOutside instr = outside (used instr loaded.runner.hart)
fault_by loaded cause.UnknownCall instr = Some (UnknownCall (slice_index loaded.runner.hart.x 17))

-- by the word at pc and its instruction
abbrev pub fault_at : Loaded → Cause → ℕ → Option Instr → Option Fault
fault_at loaded cause word instr = if is_written_over loaded word then Some WroteOver else fault_by loaded cause instr

-- where there is no word at pc
abbrev pub fault_without_word : Cause → Option Fault
fault_without_word cause.FetchOutside = Some WentOutside
fault_without_word cause.Illegal = None
fault_without_word cause.JumpMisaligned = None
fault_without_word cause.LoadMisaligned = None
fault_without_word cause.StoreMisaligned = None
fault_without_word cause.LoadOutside = None
fault_without_word cause.StoreOutside = None
fault_without_word cause.UnknownCall = None

-- by what is read at pc
abbrev pub IsFaultBy : Result ℕ MemFault → Loaded → Cause → Option Fault → Type 0
IsFaultBy (Err none) loaded cause fault = fault ≡ fault_without_word cause
IsFaultBy (Ok word) loaded cause fault = (instr : Option Instr) × IsDecoding word instr × (fault ≡ fault_at loaded cause word instr)

-- what a program did wrong that trapped for this cause, if that can be seen
abbrev pub IsFault : Loaded → Cause → Option Fault → Type 0
IsFault loaded cause fault = IsFaultBy (word_at loaded.runner.memory loaded.runner.hart.pc) loaded cause fault
