-- An exit code has 32 bits.
use Rattle.rv32i.proofs.Common.{arith, Beq, Bge, Bgeu, Blt, Bltu, Bne, Bool, branches, calls, cond, Ecall, Effect, effect_of, Encodes, eqb, Err, Exit, ExitCodesAreWords, false, fault_at, fetch_fault, HasCode, Illegal, Instr, IsDecoding, IsIllegal, Jal, Jalr, JumpMisaligned, jumps, Lb, Lbu, Lh, Lhu, linked, List, loads_unless, Lw, Machine, MatchResult, MemFault, Misaligned, NoMemory, None, Ok, Option, Outside, Printed, Result, retired, Sb, Sh, signed, Some, stores_unless, subst, sum, Sw, sym, trapped, true, UnknownCall, value, word_at, ℕ, ◌≡◌}
use Rattle.std.specs.Prelude.{◌%◌}
use Rattle.std.proofs.lemmas.Int.{ints}
use Rattle.rv32i.proofs.Moving.{the_decoding}

abbrev Codes : Effect → Type 0
Codes e = HasCode e.answer

jumps_code : (target : ℕ) (m l : Machine) → Codes (jumps target m l)
jumps_code target m l =
    let P : Bool → Type 0 = λ t. Codes (cond t (retired target l) (trapped JumpMisaligned m)) in
    let go : P (eqb (target % 4) 0) = elim (eqb (target % 4) 0) as P [ true ↦ tt | false ↦ tt ] in go

branches_code : (taken : Bool) (offset : ℕ) (m : Machine) → Codes (branches taken offset m)
branches_code true offset m = jumps_code (sum m.pc offset) m m
branches_code false offset m = tt

loads_code : (fault : Option MemFault) (rd v : ℕ) (m : Machine) → Codes (loads_unless fault rd v m)
loads_code None rd v m = tt
loads_code (Some Misaligned) rd v m = tt
loads_code (Some Outside) rd v m = tt
loads_code (Some NoMemory) rd v m = tt

stores_code : (fault : Option MemFault) (bytes : List ℕ) (address : ℕ) (m : Machine) → Codes (stores_unless fault bytes address m)
stores_code None bytes address m = tt
stores_code (Some Misaligned) bytes address m = tt
stores_code (Some Outside) bytes address m = tt
stores_code (Some NoMemory) bytes address m = tt

signed_code : (a : ℕ) → HasCode (Ok (Exit (signed a)))
signed_code a = record { least = omega (arith, ints); greatest = omega (arith, ints) }

calls_code : (m : Machine) → Codes (calls m)
calls_code m =
    let P : Bool → Bool → Type 0 = λ s t. Codes
    (cond s (record { answer = Ok (Exit (signed (value 10 m))); machine = m })
    (cond t (record { answer = Ok (Printed (signed (value 10 m))); machine = record m { pc = sum m.pc 4 } }) (trapped UnknownCall m))) in
    let go : P (eqb (value 17 m) 93) (eqb (value 17 m) 1) = elim (eqb (value 17 m) 93) as (λ s. P s (eqb (value 17 m) 1)) [
      | true ↦ signed_code (value 10 m)
      | false ↦ (elim (eqb (value 17 m) 1) as (λ t. P false t) [ true ↦ tt | false ↦ tt ])
    ] in go

codes_of : (i : Instr) (m : Machine) → Codes (effect_of i m)
codes_of (Jal rd offset) m = jumps_code _ m (linked rd m)
codes_of (Jalr rd rs1 imm) m = jumps_code _ m (linked rd m)
codes_of (Beq rs1 rs2 offset) m = branches_code _ offset m
codes_of (Bne rs1 rs2 offset) m = branches_code _ offset m
codes_of (Blt rs1 rs2 offset) m = branches_code _ offset m
codes_of (Bge rs1 rs2 offset) m = branches_code _ offset m
codes_of (Bltu rs1 rs2 offset) m = branches_code _ offset m
codes_of (Bgeu rs1 rs2 offset) m = branches_code _ offset m
codes_of (Lb rd rs1 imm) m = loads_code (fault_at m.memory 1 (sum (value rs1 m) imm) 1) rd _ m
codes_of (Lh rd rs1 imm) m = loads_code (fault_at m.memory 2 (sum (value rs1 m) imm) 2) rd _ m
codes_of (Lw rd rs1 imm) m = loads_code (fault_at m.memory 4 (sum (value rs1 m) imm) 4) rd _ m
codes_of (Lbu rd rs1 imm) m = loads_code (fault_at m.memory 1 (sum (value rs1 m) imm) 1) rd _ m
codes_of (Lhu rd rs1 imm) m = loads_code (fault_at m.memory 2 (sum (value rs1 m) imm) 2) rd _ m
codes_of (Sb rs1 rs2 imm) m = stores_code (fault_at m.memory 1 (sum (value rs1 m) imm) 1) _ _ m
codes_of (Sh rs1 rs2 imm) m = stores_code (fault_at m.memory 2 (sum (value rs1 m) imm) 2) _ _ m
codes_of (Sw rs1 rs2 imm) m = stores_code (fault_at m.memory 4 (sum (value rs1 m) imm) 4) _ _ m
codes_of Ecall m = calls_code m
codes_of _ m = tt

pub exit_codes_are_words : ExitCodesAreWords
exit_codes_are_words m e h = go (word_at m.memory m.pc) h where
  of_effect : (effect : Effect) → e ≡ effect → Codes effect → Codes e
  of_effect effect same c = subst Codes (sym same) c

  by_decoding : (word : ℕ) (decoded : Option Instr) → IsDecoding word decoded
      → ((i : Instr) → Encodes i word → e ≡ effect_of i m) × (IsIllegal word → e ≡ trapped Illegal m) → Codes e
  by_decoding word (Some i) d h = of_effect (effect_of i m) (h.0 i d) (codes_of i m)
  by_decoding word None d h = of_effect (trapped Illegal m) (h.1 d) tt

  go : (w : Result ℕ MemFault)
      → MatchResult w (λ word. ((i : Instr) → Encodes i word → e ≡ effect_of i m) × (IsIllegal word → e ≡ trapped Illegal m)) (λ f. e ≡ fetch_fault f m)
      → Codes e
  go (Ok word) h = let d = the_decoding word in by_decoding word d.instr d.is h
  go (Err Misaligned) h = of_effect (fetch_fault Misaligned m) h tt
  go (Err Outside) h = of_effect (fetch_fault Outside m) h tt
  go (Err NoMemory) h = of_effect (fetch_fault NoMemory m) h tt
