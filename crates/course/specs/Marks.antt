-- What an instruction means for the call stack (RISC-V Unprivileged ISA 20191213, section 2.5).
--
-- No instruction of RV32I is only a call or only a return. Both are jumps, and the registers of a jump say what it is
-- for. A *link register* is one that holds a return address: x1, or x5, its alternate. A jump that writes a link
-- register calls; a jump to the address in a link register returns. The manual says so for the return-address stack
-- by which a processor foresees returns: "A JAL instruction should push the return address onto a return-address
-- stack (RAS) only when rd=x1/x5", and JALR as its table 2.1 says. The call stack that a debugger shows follows the
-- same rules.
--
-- So each instruction that retires leaves *marks* on the call stack, in order: a push, which names the instruction that
-- called by its address, a pop, both, or none. Most instructions leave none.
use Rattle.std.specs.Prelude.{◌≡◌, ℕ, Bool, true, false, ◌==◌, ◌||◌, if◌then◌else◌, List, [], ◌∷◌, refl}
use Rattle.std.specs.List.{flat_map}
use Rattle.rv32i.specs.declared.instr.Instr.{Instr}
use Rattle.rv32i.specs.declared.instr.Instr.TheVariants.{Jal, Jalr, Addi}

-- an instruction that retired, and its address
pub record Retired : Type 0 where
  pub instr : Instr
  pub pc : ℕ

-- a mark: a push, with the address of the instruction that called, or a pop
pub data Mark : Type 0 where
  Push : ℕ → Mark
  Pop : Mark

-- whether the register is a link register
abbrev pub is_link : ℕ → Bool
is_link register = (register == 1) || (register == 5)

-- table 2.1: the marks of a JALR, by whether rd is a link register, whether rs1 is one, and whether they are the same
abbrev pub jalr_marks : (rd_links rs1_links same : Bool) → ℕ → List Mark
jalr_marks false false same pc = []
jalr_marks false true same pc = Pop ∷ []
jalr_marks true false same pc = Push pc ∷ []
jalr_marks true true false pc = Pop ∷ Push pc ∷ []
jalr_marks true true true pc = Push pc ∷ []

-- the marks of an instruction at an address
abbrev pub marks_at : Instr → ℕ → List Mark
marks_at (Jal rd offset) pc = if is_link rd then Push pc ∷ [] else []
marks_at (Jalr rd rs1 imm) pc = jalr_marks (is_link rd) (is_link rs1) (rd == rs1) pc
marks_at instr pc = []

-- the marks of all the instructions, in the order in which they retired
abbrev pub marks_of : List Retired → List Mark
marks_of retired = flat_map (λ r. marks_at r.instr r.pc) retired

-- A call by JAL, a plain instruction, a jump that calls nothing, and the return: `jal x1, 8`, `addi x6, x0, 1`,
-- `jal x0, 4`, `jalr x0, 0(x1)`.
marks_of_a_call : marks_of (record { instr = Jal 1 8; pc = 4 } ∷ record { instr = Addi 6 0 1; pc = 12 }
    ∷ record { instr = Jal 0 4; pc = 16 } ∷ record { instr = Jalr 0 1 0; pc = 20 } ∷ []) ≡ Push 4 ∷ Pop ∷ []
marks_of_a_call = refl

-- A call to an address in a register that is no link register, and through the one that it writes: `jalr x1, 0(x6)`,
-- `jalr x1, 0(x1)`.
marks_of_a_far_call : marks_at (Jalr 1 6 0) 8 ≡ Push 8 ∷ []
marks_of_a_far_call = refl

marks_through_the_same : marks_at (Jalr 1 1 0) 8 ≡ Push 8 ∷ []
marks_through_the_same = refl

-- A return that calls at once, as between coroutines: `jalr x1, 0(x5)`.
marks_of_a_swap : marks_at (Jalr 1 5 0) 8 ≡ Pop ∷ Push 8 ∷ []
marks_of_a_swap = refl
