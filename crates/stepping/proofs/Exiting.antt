-- A program ends with a code of 32 bits.
use Rattle.stepping.proofs.Common.{arith, back_outcome, Bool, Debugged, EndsWithCodes, false, Goal, HasSignedCode, Hit, hit_at_pc, Instr, machine_of, moved_as, Ok, Option, outcome_of, Stepped, tick_of, undone, ℕ}
use Rattle.rv32i.specs.Laws.{HasCode}
use Rattle.rv32i.proofs.Codes.{exit_codes_are_words}
use Rattle.stepping.proofs.Cases.{by_tick, one_tick}

-- no reason of a breakpoint is an end, nor is where a run goes back
pub no_end : (hit : Hit) (met : Bool) → HasSignedCode (outcome_of hit met)
no_end hit met = grind arith

no_end_back : (g : Goal) (d : Debugged) → HasSignedCode (back_outcome g d)
no_end_back g d = grind arith

of_stepped : (stepped : Stepped) (instr : Option Instr) (pc : ℕ) (d : Debugged) → HasCode (Ok stepped)
    → HasSignedCode (tick_of stepped instr pc d).outcome
of_stepped s instr pc d h = grind arith

pub ends_with_codes : EndsWithCodes
ends_with_codes before after tick t =
    by_tick before after (Ok tick) t (λ due x. rw (one_tick tick _ x.0) (no_end (hit_at_pc before) false))
    (λ due turns x. rw (one_tick tick _ x.0) (no_end_back before.goal (undone before)))
    (λ due forward m. rw (one_tick tick _ m.settles.0) (of_stepped m.stepped m.instr before.hart.pc (moved_as before after)
    (exit_codes_are_words (machine_of before.hart before.memory) _ m.moved)))
