-- How the code makes a move: cited by `perform` and `settle` alone. `perform` answers the next pc, or why there is none,
-- and `settle` makes of that what a step answers. A reader of `Hart::step` needs none of this.
use Rattle.std.specs.Prelude.{◌≡◌, ℕ, ◌%◌, ◌==◌, if◌then◌else◌, List, [], length, Option, Some, None, Result, Ok, Err}
use Rattle.std.specs.Prelude.{alloc_error}
use Rattle.std.specs.declared.alloc.AllocError.{AllocError}
use Rattle.image.specs.Memory.{NeedsPage, fault_at, bytes_at, with_bytes, memory_after, little_endian}
use Rattle.image.specs.declared.fault.MemFault.{MemFault}
use Rattle.image.specs.declared.fault.MemFault.TheVariants.{Misaligned, Outside, NoMemory as NoRoom}
use Rattle.rv32i.specs.Machine.{Machine, Store, StoreNeedsPage, effect_of, calls, store_of, sum, with_register}
use Rattle.rv32i.specs.declared.performing.Halt.{Halt}
use Rattle.rv32i.specs.declared.performing.Halt.TheVariants.{Stopped, NoMemory, Calls, Breaks}
use Rattle.rv32i.specs.declared.stepped.Cause.TheVariants.{JumpMisaligned, LoadMisaligned, LoadOutside, StoreMisaligned}
use Rattle.rv32i.specs.declared.stepped.Cause.TheVariants.{StoreOutside}
use Rattle.rv32i.specs.declared.stepped.Stepped.{Stepped}
use Rattle.rv32i.specs.declared.stepped.Stepped.TheVariants.{Retired, Break, Trap}
use Rattle.rv32i.specs.declared.instr.Instr.{Instr}
use Rattle.rv32i.specs.declared.instr.Instr.TheVariants.{Ecall, Ebreak}

-- how an instruction halts by a fault of a load
abbrev pub load_halt : MemFault → Halt
load_halt Misaligned = Stopped LoadMisaligned
load_halt other = Stopped LoadOutside

-- what a load gives: the value, or how it halts by the fault
abbrev pub loaded_unless : Option MemFault → ℕ → Result ℕ Halt
loaded_unless None value = Ok value
loaded_unless (Some fault) value = Err (load_halt fault)

-- what a load of `count` bytes gives
abbrev pub loaded : ℕ → List ℕ → ℕ → Result ℕ Halt
loaded count memory address =
    loaded_unless (fault_at memory count address count) (little_endian (bytes_at memory address count))

-- the same with its value extended
abbrev pub extended : (ℕ → ℕ) → Result ℕ Halt → Result ℕ Halt
extended f (Ok value) = Ok (f value)
extended f (Err halt) = Err halt

-- a load's value goes into rd; else the registers stay
abbrev pub keeps : Result ℕ Halt → ℕ → ℕ → List ℕ → Result ℕ Halt → List ℕ → Type 0
keeps (Ok value) rd next before answer after = (answer ≡ Ok next) × (after ≡ with_register rd value before)
keeps (Err halt) rd next before answer after = (answer ≡ Err halt) × (after ≡ before)

-- where a jump goes
abbrev pub target_of : ℕ → Result ℕ Halt
target_of target = if target % 4 == 0 then Ok target else Err (Stopped JumpMisaligned)

-- it goes there with the address of the following instruction in rd; a trap leaves the registers
abbrev pub links : ℕ → ℕ → ℕ → List ℕ → Result ℕ Halt → List ℕ → Type 0
links target rd next before answer after = (answer ≡ target_of target)
    × (after ≡ (if target % 4 == 0 then with_register rd next before else before))

-- how an instruction halts by a fault of a store
abbrev pub store_halt : MemFault → Halt
store_halt Misaligned = Stopped StoreMisaligned
store_halt Outside = Stopped StoreOutside
store_halt NoRoom = NoMemory

-- what a store answers: the next pc, or how it halts by the fault
abbrev pub stored_unless : Option MemFault → ℕ → Result ℕ Halt
stored_unless None next = Ok next
stored_unless (Some fault) next = Err (store_halt fault)

-- a store of `count` bytes: what it answers, and the memory after it; or it finds no room for the page
abbrev pub Stores : ℕ → List ℕ → ℕ → ℕ → List ℕ → Result ℕ Halt → List ℕ → Type 0
Stores count bytes address next before (Err NoMemory) after =
    NeedsPage count before address count × (after ≡ before)
Stores count bytes address next before answer after =
    (answer ≡ stored_unless (fault_at before count address count) next)
    × (after ≡ memory_after (fault_at before count address count) (with_bytes before address bytes) before)

-- no memory is left: that is a store, which has found no room for its page, and nothing has changed
abbrev pub Lacks : Option Store → Instr → Machine → List ℕ → List ℕ → Type 0
Lacks (Some store) i before x memory =
    NeedsPage (length store.bytes) before.memory store.address (length store.bytes)
    × ((x ≡ before.x) × (memory ≡ before.memory))
Lacks None i before x memory = ⊥

-- what `perform` answers for an effect, and the registers and memory that it leaves
abbrev pub Performs : Instr → Machine → Result ℕ Halt → List ℕ → List ℕ → Type 0
Performs i before (Ok pc) x memory =
    effect_of i before ≡ record { answer = Ok Retired; machine = record { pc = pc; x = x; memory = memory } }
Performs i before (Err (Stopped cause)) x memory =
    effect_of i before
    ≡ record { answer = Ok (Trap cause); machine = record { pc = before.pc; x = x; memory = memory } }
Performs i before (Err NoMemory) x memory = Lacks (store_of i before) i before x memory
Performs i before (Err Calls) x memory = (i ≡ Ecall) × (x ≡ before.x) × (memory ≡ before.memory)
Performs i before (Err Breaks) x memory = (i ≡ Ebreak) × (x ≡ before.x) × (memory ≡ before.memory)

-- what an instruction is carried out to: its effect, or it needs a page, and nothing has changed
abbrev pub CarriesOut : Instr → Machine → Result Stepped AllocError → Machine → Type 0
CarriesOut i before (Ok stepped) after = record { answer = Ok stepped; machine = after } ≡ effect_of i before
CarriesOut i before (Err error) after = StoreNeedsPage i before × (after ≡ before)

-- what a step answers where there is no next pc, and the pc after it
abbrev pub settles : Halt → ℕ → List ℕ → Result Stepped AllocError → ℕ → Type 0
settles (Stopped cause) pc x answer after = (answer ≡ Ok (Trap cause)) × (after ≡ pc)
settles NoMemory pc x answer after = (answer ≡ Err alloc_error) × (after ≡ pc)
settles Calls pc x answer after =
    record { answer = answer; machine = record { pc = after; x = x; memory = [] } }
    ≡ calls (record { pc = pc; x = x; memory = [] })
settles Breaks pc x answer after = (answer ≡ Ok Break) × (after ≡ sum pc 4)
