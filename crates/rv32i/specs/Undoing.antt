-- What is kept of a move, so that it can be undone.
--
-- A move that retires changes pc, one register at most, and at most as many bytes of memory as a word has. So it is
-- undone by the old pc, the old value of that register, and the old bytes.
use Rattle.std.specs.Prelude.{◌≡◌, ℕ, Bool, true, false, IsTrue, List, take, length, slice_index, None, Result, Ok, Err}
use Rattle.std.specs.declared.alloc.AllocError.{AllocError}
use Rattle.image.specs.Memory.{bytes_at, fault_at, memory_after, with_bytes}
use Rattle.rv32i.specs.Machine.{Machine, Effect, IsMove, sum, value, with_register}
use Rattle.rv32i.specs.declared.instr.Instr.{Instr}
use Rattle.rv32i.specs.declared.instr.Instr.TheVariants.{Lui, Auipc, Jal, Jalr, Lb, Lh, Lw, Lbu, Lhu, Sb, Sh, Sw, Addi}
use Rattle.rv32i.specs.declared.instr.Instr.TheVariants.{Slti, Sltiu, Xori, Ori, Andi, Slli, Srli, Srai, Add, Sub, Sll}
use Rattle.rv32i.specs.declared.instr.Instr.TheVariants.{Slt, Sltu, Xor, Srl, Sra, Or, And}
use Rattle.rv32i.specs.declared.stepped.Stepped.{Stepped}
use Rattle.rv32i.specs.declared.stepped.Stepped.TheVariants.{Retired, Printed, Break, Exit, Trap}
use Rattle.rv32i.specs.declared.undo.Undo.{Undo}
use Rattle.rv32i.specs.declared.undo.Place.{Place}

-- the machine before a move, by what is kept of it and the machine after it
abbrev pub undone : Undo → Machine → Machine
undone u m = let bytes = take u.count u.bytes in record {
  pc = u.pc;
  x = with_register u.register u.value m.x;
  memory = memory_after (fault_at m.memory 1 u.address (length bytes)) (with_bytes m.memory u.address bytes) m.memory;
}

-- whether an instruction has retired, by what the hart answers to it
abbrev pub retires : Result Stepped AllocError → Bool
retires (Ok Retired) = true
retires (Ok (Printed number)) = true
retires (Ok Break) = true
retires (Ok (Exit code)) = false
retires (Ok (Trap cause)) = false
retires (Err error) = false

-- The move of this machine is undone by it, if its instruction retires.
abbrev pub Undoes : Undo → Machine → Type 0
Undoes u before =
    (effect : Effect) → IsMove before effect → IsTrue (retires effect.answer) → undone u effect.machine ≡ before

-- ---- what is kept of an instruction

-- the register that an instruction writes; 0 where it writes none
abbrev pub destination : Instr → ℕ
destination (Lui rd imm) = rd
destination (Auipc rd imm) = rd
destination (Jal rd offset) = rd
destination (Jalr rd rs1 imm) = rd
destination (Lb rd rs1 imm) = rd
destination (Lh rd rs1 imm) = rd
destination (Lw rd rs1 imm) = rd
destination (Lbu rd rs1 imm) = rd
destination (Lhu rd rs1 imm) = rd
destination (Addi rd rs1 imm) = rd
destination (Slti rd rs1 imm) = rd
destination (Sltiu rd rs1 imm) = rd
destination (Xori rd rs1 imm) = rd
destination (Ori rd rs1 imm) = rd
destination (Andi rd rs1 imm) = rd
destination (Slli rd rs1 shamt) = rd
destination (Srli rd rs1 shamt) = rd
destination (Srai rd rs1 shamt) = rd
destination (Add rd rs1 rs2) = rd
destination (Sub rd rs1 rs2) = rd
destination (Sll rd rs1 rs2) = rd
destination (Slt rd rs1 rs2) = rd
destination (Sltu rd rs1 rs2) = rd
destination (Xor rd rs1 rs2) = rd
destination (Srl rd rs1 rs2) = rd
destination (Sra rd rs1 rs2) = rd
destination (Or rd rs1 rs2) = rd
destination (And rd rs1 rs2) = rd
destination other = 0

-- where it stores, and how many bytes; none where it stores nothing
abbrev pub stored : Instr → List ℕ → Place
stored (Sb rs1 rs2 imm) x = record { address = sum (slice_index x rs1) imm; count = 1 }
stored (Sh rs1 rs2 imm) x = record { address = sum (slice_index x rs1) imm; count = 2 }
stored (Sw rs1 rs2 imm) x = record { address = sum (slice_index x rs1) imm; count = 4 }
stored other x = record { address = 0; count = 0 }

-- it is what is kept of a move by this instruction
pub record IsKept (i : Instr) (m : Machine) (u : Undo) : Type 0 where
  pub pc : u.pc ≡ m.pc
  pub register : u.register ≡ destination i
  pub value_is : u.value ≡ value (destination i) m
  pub address : u.address ≡ (stored i m.x).address
  pub count : u.count ≡ (stored i m.x).count
  pub bytes : fault_at m.memory (stored i m.x).count (stored i m.x).address (stored i m.x).count ≡ None
      → take u.count u.bytes ≡ bytes_at m.memory (stored i m.x).address (stored i m.x).count
