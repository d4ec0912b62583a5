-- The moves of the machine (RISC-V Unprivileged ISA 20191213, chapter 2).
--
-- The machine has a program counter, the registers x0 to x31, and memory. Of a hart each number is below 2 ^ 32, a byte
-- below 2 ^ 8, and sums wrap. x0 is hardwired to 0 (section 2.1): it is 0 in each hart, and a value for x0 is dropped.
--
-- A move fetches the word at pc and does what its instruction says, one clause for each instruction below. A trap is
-- precise: it leaves the machine as it was, and so does the end of the program.
--
-- Each machine has one move, and that is answered. A step makes it, or finds no memory for a page and leaves the machine
-- as it was: that is no effect of an instruction, so no clause speaks of it, and `MoveNeedsPage` says when it may be.
use Rattle.std.specs.Prelude.{◌≡◌, ℕ, ℤ, ◌+◌, ◌-◌, ◌*◌, ◌/◌, ◌%◌, ◌^◌, Bool, ◌==◌, nat_lt, not, if◌then◌else◌, List, []}
use Rattle.std.specs.Prelude.{◌∷◌, length, slice_index, slice_set, bit_and, bit_or, bit_xor, Option, Some, None, Result, Ok}
use Rattle.std.specs.Prelude.{Err, MatchResult, ⊤}
use Rattle.std.specs.Int.{cast_signed, cast_unsigned, int_shr, w32}
use Rattle.std.specs.Int.RustNames.{int_lt}
use Rattle.std.specs.declared.alloc.AllocError.{AllocError}
use Rattle.image.specs.Memory.{NeedsPage, fault_at, bytes_at, with_bytes, little_endian, halfword_bytes}
use Rattle.image.specs.Memory.{word_bytes, word_at}
use Rattle.image.specs.declared.fault.MemFault.{MemFault}
use Rattle.image.specs.declared.fault.MemFault.TheVariants.{Misaligned}
use Rattle.rv32i.specs.Encoding.{Encodes, IsDecoding, IsIllegal}
use Rattle.rv32i.specs.declared.stepped.Stepped.{Stepped}
use Rattle.rv32i.specs.declared.stepped.Stepped.TheVariants.{Retired, Printed, Break, Exit, Trap}
use Rattle.rv32i.specs.declared.stepped.Cause.{Cause}
use Rattle.rv32i.specs.declared.stepped.Cause.TheVariants.{FetchOutside, Illegal, JumpMisaligned, LoadMisaligned}
use Rattle.rv32i.specs.declared.stepped.Cause.TheVariants.{LoadOutside, StoreMisaligned, StoreOutside, UnknownCall}
use Rattle.rv32i.specs.declared.hart.Hart.{Hart}
use Rattle.rv32i.specs.declared.instr.Instr.{Instr}
use Rattle.rv32i.specs.declared.instr.Instr.TheVariants.{Lui, Auipc, Jal, Jalr, Beq, Bne, Blt, Bge, Bltu, Bgeu, Lb, Lh}
use Rattle.rv32i.specs.declared.instr.Instr.TheVariants.{Lw, Lbu, Lhu, Sb, Sh, Sw, Addi, Slti, Sltiu, Xori, Ori, Andi}
use Rattle.rv32i.specs.declared.instr.Instr.TheVariants.{Slli, Srli, Srai, Add, Sub, Sll, Slt, Sltu, Xor, Srl, Sra, Or}
use Rattle.rv32i.specs.declared.instr.Instr.TheVariants.{And, Fence, Ecall, Ebreak}

-- pc, the registers and the bytes of memory
pub record Machine : Type 0 where
  pub pc : ℕ
  pub x : List ℕ
  pub memory : List ℕ

-- the machine of a hart and its memory
abbrev pub machine_of : Hart → List ℕ → Machine
machine_of hart memory = record { pc = hart.pc; x = hart.x; memory = memory }

-- What a step answers, and the machine after it. That of a move is never an error (the law `moves_answer`).
pub record Effect : Type 0 where
  pub answer : Result Stepped AllocError
  pub machine : Machine

-- ---- numbers of 32 bits

-- "Arithmetic overflow is ignored": the low 32 bits of a sum
abbrev pub sum : ℕ → ℕ → ℕ
sum a b = (a + b) % 2 ^ 32

-- and of a difference
abbrev pub difference : ℕ → ℕ → ℕ
difference a b = (a + (2 ^ 32 - b)) % 2 ^ 32

-- 32 bits as a two's complement number
abbrev pub signed : ℕ → ℤ
signed a = cast_signed w32 a

-- less than, as signed numbers
abbrev pub is_less_than : ℕ → ℕ → Bool
is_less_than a b = int_lt (signed a) (signed b)

-- less than, as unsigned numbers
abbrev pub is_less_than_unsigned : ℕ → ℕ → Bool
is_less_than_unsigned a b = nat_lt a b

-- 1 for true, 0 for false
abbrev pub flag : Bool → ℕ
flag test = if test then 1 else 0

-- the low 5 bits of a register say how far to shift (section 2.4)
abbrev pub places : ℕ → ℕ
places a = a % 32

-- zeros are shifted into the lower bits
abbrev pub shifted_left : ℕ → ℕ → ℕ
shifted_left a by = (a * 2 ^ by) % 2 ^ 32

-- "zeros are shifted into the upper bits"
abbrev pub shifted_right : ℕ → ℕ → ℕ
shifted_right a by = a / 2 ^ by

-- "the original sign bit is copied into the vacated upper bits": the signed number divided by a power of 2, rounded
-- down
abbrev pub shifted_right_signed : ℕ → ℕ → ℕ
shifted_right_signed a by = cast_unsigned w32 (int_shr (signed a) by)

-- a byte, sign-extended to 32 bits
abbrev pub byte_extended : ℕ → ℕ
byte_extended a = if nat_lt a 128 then a else a + (2 ^ 32 - 2 ^ 8)

-- a halfword, sign-extended to 32 bits
abbrev pub halfword_extended : ℕ → ℕ
halfword_extended a = if nat_lt a 32768 then a else a + (2 ^ 32 - 2 ^ 16)

-- ---- what a move is made of

-- the value of a register
abbrev pub value : ℕ → Machine → ℕ
value r m = slice_index m.x r

-- the registers with another value in one; x0 keeps its own
abbrev pub with_register : ℕ → ℕ → List ℕ → List ℕ
with_register r v x = if r == 0 then x else slice_set x r v

-- the instruction retires, and the next one is at this address
abbrev pub retired : ℕ → Machine → Effect
retired pc m = record { answer = Ok Retired; machine = record m { pc = pc } }

-- it retires with this value in rd, and the next one follows
abbrev pub gives : ℕ → ℕ → Machine → Effect
gives rd v m = record { answer = Ok Retired; machine = record m { pc = sum m.pc 4; x = with_register rd v m.x } }

-- it does not retire, and nothing changes
abbrev pub trapped : Cause → Machine → Effect
trapped cause m = record { answer = Ok (Trap cause); machine = m }

-- "An instruction-address-misaligned exception is generated on a taken branch or unconditional jump if the target
-- address is not four-byte aligned" (section 2.2): then nothing changes, rd neither.
abbrev pub jumps : ℕ → Machine → Machine → Effect
jumps target before linked = if target % 4 == 0 then retired target linked else trapped JumpMisaligned before

-- the machine with the address of the following instruction in rd
abbrev pub linked : ℕ → Machine → Machine
linked rd m = record m { x = with_register rd (sum m.pc 4) m.x }

-- a branch: to its target where it is taken, and else to the next instruction
abbrev pub branches : Bool → ℕ → Machine → Effect
branches taken offset m = if taken then jumps (sum m.pc offset) m m else retired (sum m.pc 4) m

-- What a fault of a load does. An address has two: it is no multiple of what it has to be, or else there is a byte
-- that it does not have (`fault_at`).
abbrev pub load_fault : MemFault → Machine → Effect
load_fault Misaligned m = trapped LoadMisaligned m
load_fault other m = trapped LoadOutside m

-- a value goes into rd unless there is a fault
abbrev pub loads_unless : Option MemFault → ℕ → ℕ → Machine → Effect
loads_unless None rd v m = gives rd v m
loads_unless (Some fault) rd v m = load_fault fault m

-- A load of `count` bytes, at an address that is a multiple of their number: rd gets what is made of their value.
abbrev pub loads : ℕ → (ℕ → ℕ) → ℕ → ℕ → Machine → Effect
loads count extended rd address m = loads_unless (fault_at m.memory count address count) rd
    (extended (little_endian (bytes_at m.memory address count))) m

-- a value that is not extended: of a word, or zero-extended
abbrev pub as_it_is : ℕ → ℕ
as_it_is a = a

-- what a fault of a store does; it has the same two
abbrev pub store_fault : MemFault → Machine → Effect
store_fault Misaligned m = trapped StoreMisaligned m
store_fault other m = trapped StoreOutside m

-- bytes are stored unless there is a fault
abbrev pub stores_unless : Option MemFault → List ℕ → ℕ → Machine → Effect
stores_unless None bytes address m =
    record { answer = Ok Retired; machine = record m { pc = sum m.pc 4; memory = with_bytes m.memory address bytes } }
stores_unless (Some fault) bytes address m = store_fault fault m

-- a store of `count` bytes, at an address that is a multiple of their number
abbrev pub stores : ℕ → List ℕ → ℕ → Machine → Effect
stores count bytes address m = stores_unless (fault_at m.memory count address count) bytes address m

-- The environment call (section 2.8), by a7 (x17) and a0 (x10): 93 ends the program with a0 as its code, 1 prints a0 as
-- a signed number; there is no other.
abbrev pub calls : Machine → Effect
calls m = if value 17 m == 93 then record { answer = Ok (Exit (signed (value 10 m))); machine = m }
    else if value 17 m == 1
    then record { answer = Ok (Printed (signed (value 10 m))); machine = record m { pc = sum m.pc 4 } }
    else trapped UnknownCall m

-- ---- the instructions

-- what each instruction does, in the order of the manual's sections
abbrev pub effect_of : Instr → Machine → Effect
-- 2.4, integer register-immediate instructions. The immediate is sign-extended.
effect_of (Addi rd rs1 imm) m = gives rd (sum (value rs1 m) imm) m
effect_of (Slti rd rs1 imm) m = gives rd (flag (is_less_than (value rs1 m) imm)) m
effect_of (Sltiu rd rs1 imm) m = gives rd (flag (is_less_than_unsigned (value rs1 m) imm)) m
effect_of (Xori rd rs1 imm) m = gives rd (bit_xor (value rs1 m) imm) m
effect_of (Ori rd rs1 imm) m = gives rd (bit_or (value rs1 m) imm) m
effect_of (Andi rd rs1 imm) m = gives rd (bit_and (value rs1 m) imm) m
effect_of (Slli rd rs1 shamt) m = gives rd (shifted_left (value rs1 m) shamt) m
effect_of (Srli rd rs1 shamt) m = gives rd (shifted_right (value rs1 m) shamt) m
effect_of (Srai rd rs1 shamt) m = gives rd (shifted_right_signed (value rs1 m) shamt) m
-- LUI: the immediate, whose lowest 12 bits are 0. AUIPC: the same, added to the address of the AUIPC.
effect_of (Lui rd imm) m = gives rd imm m
effect_of (Auipc rd imm) m = gives rd (sum m.pc imm) m
-- 2.4, integer register-register operations
effect_of (Add rd rs1 rs2) m = gives rd (sum (value rs1 m) (value rs2 m)) m
effect_of (Sub rd rs1 rs2) m = gives rd (difference (value rs1 m) (value rs2 m)) m
effect_of (Sll rd rs1 rs2) m = gives rd (shifted_left (value rs1 m) (places (value rs2 m))) m
effect_of (Slt rd rs1 rs2) m = gives rd (flag (is_less_than (value rs1 m) (value rs2 m))) m
effect_of (Sltu rd rs1 rs2) m = gives rd (flag (is_less_than_unsigned (value rs1 m) (value rs2 m))) m
effect_of (Xor rd rs1 rs2) m = gives rd (bit_xor (value rs1 m) (value rs2 m)) m
effect_of (Srl rd rs1 rs2) m = gives rd (shifted_right (value rs1 m) (places (value rs2 m))) m
effect_of (Sra rd rs1 rs2) m = gives rd (shifted_right_signed (value rs1 m) (places (value rs2 m))) m
effect_of (Or rd rs1 rs2) m = gives rd (bit_or (value rs1 m) (value rs2 m)) m
effect_of (And rd rs1 rs2) m = gives rd (bit_and (value rs1 m) (value rs2 m)) m
-- 2.5: control transfer. JAL: the offset is added to the address of the jump. JALR: the immediate is added to rs1, and
-- "then setting the least-significant bit of the result to zero"; rs1 is read before rd is written.
effect_of (Jal rd offset) m = jumps (sum m.pc offset) m (linked rd m)
effect_of (Jalr rd rs1 imm) m = jumps (sum (value rs1 m) imm / 2 * 2) m (linked rd m)
effect_of (Beq rs1 rs2 offset) m = branches (value rs1 m == value rs2 m) offset m
effect_of (Bne rs1 rs2 offset) m = branches (not (value rs1 m == value rs2 m)) offset m
effect_of (Blt rs1 rs2 offset) m = branches (is_less_than (value rs1 m) (value rs2 m)) offset m
effect_of (Bge rs1 rs2 offset) m = branches (not (is_less_than (value rs1 m) (value rs2 m))) offset m
effect_of (Bltu rs1 rs2 offset) m = branches (is_less_than_unsigned (value rs1 m) (value rs2 m)) offset m
effect_of (Bgeu rs1 rs2 offset) m = branches (not (is_less_than_unsigned (value rs1 m) (value rs2 m))) offset m
-- 2.6: "The effective address is obtained by adding register rs1 to the sign-extended 12-bit offset. Loads copy a value
-- from memory to register rd. Stores copy the value in register rs2 to memory." A load with rd x0 still reads memory.
effect_of (Lb rd rs1 imm) m = loads 1 byte_extended rd (sum (value rs1 m) imm) m
effect_of (Lh rd rs1 imm) m = loads 2 halfword_extended rd (sum (value rs1 m) imm) m
effect_of (Lw rd rs1 imm) m = loads 4 as_it_is rd (sum (value rs1 m) imm) m
effect_of (Lbu rd rs1 imm) m = loads 1 as_it_is rd (sum (value rs1 m) imm) m
effect_of (Lhu rd rs1 imm) m = loads 2 as_it_is rd (sum (value rs1 m) imm) m
effect_of (Sb rs1 rs2 imm) m = stores 1 (value rs2 m % 256 ∷ []) (sum (value rs1 m) imm) m
effect_of (Sh rs1 rs2 imm) m = stores 2 (halfword_bytes (value rs2 m)) (sum (value rs1 m) imm) m
effect_of (Sw rs1 rs2 imm) m = stores 4 (word_bytes (value rs2 m)) (sum (value rs1 m) imm) m
-- 2.7: one hart sees its own accesses in order.
effect_of (Fence fm before after rd rs1) m = retired (sum m.pc 4) m
-- 2.8: environment call and breakpoints
effect_of Ecall m = calls m
effect_of Ebreak m = record { answer = Ok Break; machine = record m { pc = sum m.pc 4 } }

-- ---- the move

-- "An instruction-address-misaligned exception", or an access fault where there is no word
abbrev pub fetch_fault : MemFault → Machine → Effect
fetch_fault Misaligned m = trapped JumpMisaligned m
fetch_fault other m = trapped FetchOutside m

-- The move: it fetches the word at pc, and does what the instruction that the word encodes says; a word that encodes
-- none is illegal, and one that is not there cannot be fetched.
abbrev pub IsMove : Machine → Effect → Type 0
IsMove before effect = MatchResult (word_at before.memory before.pc)
    (λ word. ((i : Instr) → Encodes i word → effect ≡ effect_of i before)
    × (IsIllegal word → effect ≡ trapped Illegal before))
    (λ fault. effect ≡ fetch_fault fault before)

-- an instruction, or none, is what the word at pc decodes to
abbrev pub IsDecodedAtPc : Machine → Option Instr → Type 0
IsDecodedAtPc m instr = (word : ℕ) × ((word_at m.memory m.pc ≡ Ok word) × IsDecoding word instr)

-- ---- memory for a move

-- bytes that are stored from an address on, which is a multiple of how many they are
pub record Store : Type 0 where
  pub address : ℕ
  pub bytes : List ℕ

-- what an instruction stores, if it does (section 2.6)
abbrev pub store_of : Instr → Machine → Option Store
store_of (Sb rs1 rs2 imm) m = Some (record { address = sum (value rs1 m) imm; bytes = value rs2 m % 256 ∷ [] })
store_of (Sh rs1 rs2 imm) m = Some (record { address = sum (value rs1 m) imm; bytes = halfword_bytes (value rs2 m) })
store_of (Sw rs1 rs2 imm) m = Some (record { address = sum (value rs1 m) imm; bytes = word_bytes (value rs2 m) })
store_of instr m = None

-- An instruction stores, and could but for the room of the page.
pub record StoreNeedsPage (instr : Instr) (m : Machine) : Type 0 where
  pub store : Store
  pub stores : store_of instr m ≡ Some store
  pub needs : NeedsPage (length store.bytes) m.memory store.address (length store.bytes)

-- Memory is made for a move only where it stores into a page of zeros: the instruction at pc is such a store.
pub record MoveNeedsPage (m : Machine) : Type 0 where
  pub instr : Instr
  pub decoded : IsDecodedAtPc m (Some instr)
  pub store : StoreNeedsPage instr m

-- ---- what holds of each move

-- a trap and an exit leave the machine as it was, and so does a lack of memory
abbrev pub KeepsMachine : Result Stepped AllocError → Machine → Machine → Type 0
KeepsMachine (Err error) before after = after ≡ before
KeepsMachine (Ok (Trap cause)) before after = after ≡ before
KeepsMachine (Ok (Exit code)) before after = after ≡ before
KeepsMachine (Ok (Printed number)) before after = ⊤
KeepsMachine (Ok Retired) before after = ⊤
KeepsMachine (Ok Break) before after = ⊤

-- pc stays a multiple of 4
abbrev pub KeepsAligned : Machine → Machine → Type 0
KeepsAligned before after = before.pc % 4 ≡ 0 → after.pc % 4 ≡ 0

-- what each move keeps
pub record Keeps (before : Machine) (effect : Effect) : Type 0 where
  pub unchanged : KeepsMachine effect.answer before effect.machine
  pub aligned : KeepsAligned before effect.machine
