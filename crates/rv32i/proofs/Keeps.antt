-- A trap and an exit leave the machine as it was, and pc stays a multiple of 4.
use Rattle.rv32i.proofs.Common.{Add, Addi, And, Andi, ap, arith, Auipc, Beq, Bge, Bgeu, Blt, Bltu, Bne, Bool, branches, calls, cond, Ebreak, Ecall, Effect, effect_of, eqb, Exit, false, fault_at, Fence, gives, has_bytes, Instr, is_ok, Jal, Jalr, JumpMisaligned, jumps, Keeps, Lb, Lbu, Lh, Lhu, linked, List, loads_unless, Lui, Lw, Machine, MemFault, Misaligned, nat_tests, NoMemory, None, not, Option, Or, Ori, Outside, Printed, refl, retired, Sb, Sh, signed, Sll, Slli, Slt, Slti, Sltiu, Sltu, Some, Sra, Srai, Srl, Srli, stores_unless, Sub, subst, sum, Sw, sym, trapped, true, UnknownCall, value, Xor, Xori, ℕ, ◌%◌, ◌+◌, ◌^◌, ◌∙◌, ◌≡◌}
use Rattle.std.specs.Prelude.{Ok}

next_aligned : (pc : ℕ) → pc % 4 ≡ 0 → ((pc + 4) % 2 ^ 32) % 4 ≡ 0
next_aligned pc h = omega arith

gives_keeps : (rd v : ℕ) (m : Machine) → Keeps m (gives rd v m)
gives_keeps rd v m = record { unchanged = tt; aligned = next_aligned m.pc }

next_keeps : (m : Machine) → Keeps m (retired (sum m.pc 4) m)
next_keeps m = record { unchanged = tt; aligned = next_aligned m.pc }

jumps_keep : (target : ℕ) (m l : Machine) → Keeps m (jumps target m l)
jumps_keep target m l =
    let P : Bool → Type 0 = λ t. eqb (target % 4) 0 ≡ t → Keeps m (cond t (retired target l) (trapped JumpMisaligned m)) in
    let go : P (eqb (target % 4) 0) = elim (eqb (target % 4) 0) as P [
      | true ↦ λ t. record { unchanged = tt; aligned = λ h. grind (arith, nat_tests) }
      | false ↦ λ t. record { unchanged = refl; aligned = λ h. h }
    ] in go refl

branches_keep : (taken : Bool) (offset : ℕ) (m : Machine) → Keeps m (branches taken offset m)
branches_keep true offset m = jumps_keep (sum m.pc offset) m m
branches_keep false offset m = next_keeps m

loads_keep : (fault : Option MemFault) (rd v : ℕ) (m : Machine) → Keeps m (loads_unless fault rd v m)
loads_keep None rd v m = gives_keeps rd v m
loads_keep (Some Misaligned) rd v m = record { unchanged = refl; aligned = λ h. h }
loads_keep (Some Outside) rd v m = record { unchanged = refl; aligned = λ h. h }
loads_keep (Some NoMemory) rd v m = record { unchanged = refl; aligned = λ h. h }

stores_keep : (fault : Option MemFault) (bytes : List ℕ) (address : ℕ) (m : Machine) → Keeps m (stores_unless fault bytes address m)
stores_keep None bytes address m = record { unchanged = tt; aligned = next_aligned m.pc }
stores_keep (Some Misaligned) bytes address m = record { unchanged = refl; aligned = λ h. h }
stores_keep (Some Outside) bytes address m = record { unchanged = refl; aligned = λ h. h }
stores_keep (Some NoMemory) bytes address m = record { unchanged = refl; aligned = λ h. h }

calls_keep : (m : Machine) → Keeps m (calls m)
calls_keep m =
    let P : Bool → Bool → Type 0 = λ s t. Keeps m
    (cond s (record { answer = Ok (Exit (signed (value 10 m))); machine = m })
    (cond t (record { answer = Ok (Printed (signed (value 10 m))); machine = record m { pc = sum m.pc 4 } }) (trapped UnknownCall m))) in
    let go : P (eqb (value 17 m) 93) (eqb (value 17 m) 1) = elim (eqb (value 17 m) 93) as (λ s. P s (eqb (value 17 m) 1)) [
      | true ↦ record { unchanged = refl; aligned = λ h. h }
      | false ↦ (elim (eqb (value 17 m) 1) as (λ t. P false t) [
        | true ↦ record { unchanged = tt; aligned = next_aligned m.pc }
        | false ↦ record { unchanged = refl; aligned = λ h. h }
      ])
    ] in go

pub keeps : (i : Instr) (m : Machine) → Keeps m (effect_of i m)
keeps (Lui rd imm) m = gives_keeps rd _ m
keeps (Auipc rd imm) m = gives_keeps rd _ m
keeps (Jal rd offset) m = jumps_keep _ m (linked rd m)
keeps (Jalr rd rs1 imm) m = jumps_keep _ m (linked rd m)
keeps (Beq rs1 rs2 offset) m = branches_keep _ offset m
keeps (Bne rs1 rs2 offset) m = branches_keep _ offset m
keeps (Blt rs1 rs2 offset) m = branches_keep _ offset m
keeps (Bge rs1 rs2 offset) m = branches_keep _ offset m
keeps (Bltu rs1 rs2 offset) m = branches_keep _ offset m
keeps (Bgeu rs1 rs2 offset) m = branches_keep _ offset m
keeps (Lb rd rs1 imm) m = loads_keep (fault_at m.memory 1 (sum (value rs1 m) imm) 1) rd _ m
keeps (Lh rd rs1 imm) m = loads_keep (fault_at m.memory 2 (sum (value rs1 m) imm) 2) rd _ m
keeps (Lw rd rs1 imm) m = loads_keep (fault_at m.memory 4 (sum (value rs1 m) imm) 4) rd _ m
keeps (Lbu rd rs1 imm) m = loads_keep (fault_at m.memory 1 (sum (value rs1 m) imm) 1) rd _ m
keeps (Lhu rd rs1 imm) m = loads_keep (fault_at m.memory 2 (sum (value rs1 m) imm) 2) rd _ m
keeps (Sb rs1 rs2 imm) m = stores_keep (fault_at m.memory 1 (sum (value rs1 m) imm) 1) _ _ m
keeps (Sh rs1 rs2 imm) m = stores_keep (fault_at m.memory 2 (sum (value rs1 m) imm) 2) _ _ m
keeps (Sw rs1 rs2 imm) m = stores_keep (fault_at m.memory 4 (sum (value rs1 m) imm) 4) _ _ m
keeps (Addi rd rs1 imm) m = gives_keeps rd _ m
keeps (Slti rd rs1 imm) m = gives_keeps rd _ m
keeps (Sltiu rd rs1 imm) m = gives_keeps rd _ m
keeps (Xori rd rs1 imm) m = gives_keeps rd _ m
keeps (Ori rd rs1 imm) m = gives_keeps rd _ m
keeps (Andi rd rs1 imm) m = gives_keeps rd _ m
keeps (Slli rd rs1 shamt) m = gives_keeps rd _ m
keeps (Srli rd rs1 shamt) m = gives_keeps rd _ m
keeps (Srai rd rs1 shamt) m = gives_keeps rd _ m
keeps (Add rd rs1 rs2) m = gives_keeps rd _ m
keeps (Sub rd rs1 rs2) m = gives_keeps rd _ m
keeps (Sll rd rs1 rs2) m = gives_keeps rd _ m
keeps (Slt rd rs1 rs2) m = gives_keeps rd _ m
keeps (Sltu rd rs1 rs2) m = gives_keeps rd _ m
keeps (Xor rd rs1 rs2) m = gives_keeps rd _ m
keeps (Srl rd rs1 rs2) m = gives_keeps rd _ m
keeps (Sra rd rs1 rs2) m = gives_keeps rd _ m
keeps (Or rd rs1 rs2) m = gives_keeps rd _ m
keeps (And rd rs1 rs2) m = gives_keeps rd _ m
keeps (Fence fm before after rd rs1) m = next_keeps m
keeps Ecall m = calls_keep m
keeps Ebreak m = record { unchanged = tt; aligned = next_aligned m.pc }

pub step_keeps : (before : Machine) (effect : Effect) (i : Instr) → effect ≡ effect_of i before → Keeps before effect
step_keeps before effect i h = let P : Effect → Type 0 = λ e. Keeps before e in subst P (sym h) (keeps i before)

-- ---- no move takes memory

jumps_answer : (target : ℕ) (m l : Machine) → is_ok (jumps target m l).answer ≡ true
jumps_answer target m l =
    let P : Bool → Type 0 = λ t. is_ok (cond t (retired target l) (trapped JumpMisaligned m)).answer ≡ true in
    let go : P (eqb (target % 4) 0) = elim (eqb (target % 4) 0) as P [ true ↦ refl | false ↦ refl ] in go

branches_answer : (taken : Bool) (offset : ℕ) (m : Machine) → is_ok (branches taken offset m).answer ≡ true
branches_answer true offset m = jumps_answer (sum m.pc offset) m m
branches_answer false offset m = refl

-- which faults an access can have
faults : (P : Option MemFault → Type 0) (memory : List ℕ) (aligned address count : ℕ) → P None → P (Some Misaligned) → P (Some Outside)
    → P (fault_at memory aligned address count)
faults P memory aligned address count none misaligned outside =
    let Q : Bool → Bool → Type 0 = λ s t. P (cond (not s) (Some Misaligned) (cond t None (Some Outside))) in
    let go : Q (eqb (address % aligned) 0) (has_bytes memory address count) = elim (eqb (address % aligned) 0) as
    (λ s. Q s (has_bytes memory address count)) [
      | true ↦ (elim (has_bytes memory address count) as (λ t. Q true t) [ true ↦ none | false ↦ outside ])
      | false ↦ misaligned
    ] in go

loads_answer : (count rd v address : ℕ) (m : Machine) → is_ok (loads_unless (fault_at m.memory count address count) rd v m).answer ≡ true
loads_answer count rd v address m = faults (λ f. is_ok (loads_unless f rd v m).answer ≡ true) m.memory count address count refl refl refl

stores_answer : (count : ℕ) (bytes : List ℕ) (address : ℕ) (m : Machine)
    → is_ok (stores_unless (fault_at m.memory count address count) bytes address m).answer ≡ true
stores_answer count bytes address m =
    faults (λ f. is_ok (stores_unless f bytes address m).answer ≡ true) m.memory count address count refl refl refl

calls_answer : (m : Machine) → is_ok (calls m).answer ≡ true
calls_answer m =
    let P : Bool → Bool → Type 0 = λ s t. is_ok
    (cond s (record { answer = Ok (Exit (signed (value 10 m))); machine = m })
    (cond t (record { answer = Ok (Printed (signed (value 10 m))); machine = record m { pc = sum m.pc 4 } })
    (trapped UnknownCall m))).answer ≡ true in
    let go : P (eqb (value 17 m) 93) (eqb (value 17 m) 1) = elim (eqb (value 17 m) 93) as (λ s. P s (eqb (value 17 m) 1)) [
      | true ↦ refl
      | false ↦ (elim (eqb (value 17 m) 1) as (λ t. P false t) [ true ↦ refl | false ↦ refl ])
    ] in go

answers : (i : Instr) (m : Machine) → is_ok (effect_of i m).answer ≡ true
answers (Jal rd offset) m = jumps_answer _ m (linked rd m)
answers (Jalr rd rs1 imm) m = jumps_answer _ m (linked rd m)
answers (Beq rs1 rs2 offset) m = branches_answer _ offset m
answers (Bne rs1 rs2 offset) m = branches_answer _ offset m
answers (Blt rs1 rs2 offset) m = branches_answer _ offset m
answers (Bge rs1 rs2 offset) m = branches_answer _ offset m
answers (Bltu rs1 rs2 offset) m = branches_answer _ offset m
answers (Bgeu rs1 rs2 offset) m = branches_answer _ offset m
answers (Lb rd rs1 imm) m = loads_answer 1 rd _ (sum (value rs1 m) imm) m
answers (Lh rd rs1 imm) m = loads_answer 2 rd _ (sum (value rs1 m) imm) m
answers (Lw rd rs1 imm) m = loads_answer 4 rd _ (sum (value rs1 m) imm) m
answers (Lbu rd rs1 imm) m = loads_answer 1 rd _ (sum (value rs1 m) imm) m
answers (Lhu rd rs1 imm) m = loads_answer 2 rd _ (sum (value rs1 m) imm) m
answers (Sb rs1 rs2 imm) m = stores_answer 1 _ (sum (value rs1 m) imm) m
answers (Sh rs1 rs2 imm) m = stores_answer 2 _ (sum (value rs1 m) imm) m
answers (Sw rs1 rs2 imm) m = stores_answer 4 _ (sum (value rs1 m) imm) m
answers Ecall m = calls_answer m
answers _ m = refl

pub step_answers : (before : Machine) (effect : Effect) (i : Instr) → effect ≡ effect_of i before → is_ok effect.answer ≡ true
step_answers before effect i h = ap (λ e. is_ok e.answer) h ∙ answers i before
