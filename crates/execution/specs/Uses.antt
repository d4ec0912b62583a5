-- What an instruction does with an address (RISC-V Unprivileged ISA 20191213, sections 2.5 and 2.6).
--
-- A load reads from base and offset on, a store writes from there on, and each address has to be a multiple of the number of
-- bytes. A jump or a branch that is taken goes to its target, which has to be a multiple of 4; that of JALR has a lowest bit of 0.
use Rattle.std.specs.Prelude.{ℕ, ◌*◌, ◌/◌, Option, Some, None, slice_index}
use Rattle.rv32i.specs.Machine.{sum}
use Rattle.rv32i.specs.declared.hart.Hart.{Hart}
use Rattle.rv32i.specs.declared.instr.Instr.{Instr}
use Rattle.rv32i.specs.declared.instr.Instr.TheVariants.{Jal, Jalr, Beq, Bne, Blt, Bge, Bltu, Bgeu, Lb, Lh}
use Rattle.rv32i.specs.declared.instr.Instr.TheVariants.{Lw, Lbu, Lhu, Sb, Sh, Sw}
use Rattle.execution.specs.declared.uses.Use.{Use}
use Rattle.execution.specs.declared.uses.Verb.TheVariants.{Reads, Writes, GoesTo}

-- base and offset
abbrev pub place : Hart → ℕ → ℕ → ℕ
place hart base imm = sum (slice_index hart.x base) imm

-- an address that is read from, written to, gone to, and what it has to be a multiple of
abbrev pub reads : ℕ → ℕ → Option Use
reads unit address = Some (record { verb = Reads; address = address; unit = unit })

abbrev pub writes : ℕ → ℕ → Option Use
writes unit address = Some (record { verb = Writes; address = address; unit = unit })

abbrev pub goes_to : ℕ → Option Use
goes_to address = Some (record { verb = GoesTo; address = address; unit = 4 })

-- the address that an instruction uses, if it uses one
abbrev pub use_of : Instr → Hart → Option Use
use_of (Jal rd offset) hart = goes_to (sum hart.pc offset)
use_of (Jalr rd rs1 imm) hart = goes_to (place hart rs1 imm / 2 * 2)
use_of (Beq rs1 rs2 offset) hart = goes_to (sum hart.pc offset)
use_of (Bne rs1 rs2 offset) hart = goes_to (sum hart.pc offset)
use_of (Blt rs1 rs2 offset) hart = goes_to (sum hart.pc offset)
use_of (Bge rs1 rs2 offset) hart = goes_to (sum hart.pc offset)
use_of (Bltu rs1 rs2 offset) hart = goes_to (sum hart.pc offset)
use_of (Bgeu rs1 rs2 offset) hart = goes_to (sum hart.pc offset)
use_of (Lb rd rs1 imm) hart = reads 1 (place hart rs1 imm)
use_of (Lh rd rs1 imm) hart = reads 2 (place hart rs1 imm)
use_of (Lw rd rs1 imm) hart = reads 4 (place hart rs1 imm)
use_of (Lbu rd rs1 imm) hart = reads 1 (place hart rs1 imm)
use_of (Lhu rd rs1 imm) hart = reads 2 (place hart rs1 imm)
use_of (Sb rs1 rs2 imm) hart = writes 1 (place hart rs1 imm)
use_of (Sh rs1 rs2 imm) hart = writes 2 (place hart rs1 imm)
use_of (Sw rs1 rs2 imm) hart = writes 4 (place hart rs1 imm)
use_of _ hart = None
