-- What an instruction does is the move, since the word has no other instruction.
use Rattle.rv32i.proofs.Common.{ap, Effect, effect_of, Encodes, Err, Instr, IsDecodedAtPc, IsMove, Keeps, Machine, MoveNeedsPage, Ok, OnErr, OnOk, Result, Some, sym, word_at, ℕ, ◌%◌, ◌∙◌, ◌≡◌}
use Rattle.std.specs.declared.alloc.AllocError.{AllocError}
use Rattle.rv32i.specs.Steps.{CarriesOut}
use Rattle.rv32i.specs.declared.stepped.Stepped.{Stepped}
use Rattle.rv32i.proofs.Keeps.{step_keeps}
use Rattle.rv32i.proofs.Unique.{one_instruction}

pub moves : (before : Machine) (effect : Effect) (word : ℕ) (i : Instr) → Ok word ≡ word_at before.memory before.pc → Encodes i word
    → effect ≡ effect_of i before → IsMove before effect
moves before effect word i w e h =
    rw (sym w) (λ j q. h ∙ ap (λ k. effect_of k before) (one_instruction i j word e q), λ none. absurd (none i e))

-- what is carried out is a move, or needs a page
pub record Carried (before : Machine) (answer : Result Stepped AllocError) (after : Machine) : Type 0 where
  pub moves : OnOk answer (IsMove before (record { answer = answer; machine = after }))
  pub keeps : Keeps before (record { answer = answer; machine = after })
  pub lacks : OnErr answer (MoveNeedsPage before)

pub carried : (before : Machine) (i : Instr) (answer : Result Stepped AllocError) (after : Machine) → IsDecodedAtPc before (Some i)
    → CarriesOut i before answer after → Carried before answer after
carried before i (Ok stepped) after d h = record {
  moves = moves before (record { answer = Ok stepped; machine = after }) d.0 i (sym d.1.0) d.1.1 h;
  keeps = step_keeps before (record { answer = Ok stepped; machine = after }) i h;
  lacks = tt;
}
carried before i (Err error) after d h = record {
  moves = tt;
  keeps = record { unchanged = h.1; aligned = λ e. ap (λ (m : Machine). m.pc % 4) h.1 ∙ e };
  lacks = record { instr = i; decoded = d; store = h.0 };
}
