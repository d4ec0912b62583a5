-- What kind of answer it is: a success, one of `initialize`, one that lets the program run.
use Rattle.std.specs.Prelude.{ℕ, List, [], ◌∷◌, Bool, true, false, bytes_eq}
use Rattle.std.specs.List.{list_any}
use Rattle.protocol.specs.declared.continue_.TheConstants.{NAME as CONTINUE}
use Rattle.protocol.specs.declared.next.TheConstants.{NAME as NEXT}
use Rattle.protocol.specs.declared.step_in.TheConstants.{NAME as STEP_IN}
use Rattle.protocol.specs.declared.step_out.TheConstants.{NAME as STEP_OUT}
use Rattle.protocol.specs.declared.step_back.TheConstants.{NAME as STEP_BACK}
use Rattle.protocol.specs.declared.reverse_continue.TheConstants.{NAME as REVERSE_CONTINUE}
use Rattle.protocol.specs.declared.restart.TheConstants.{NAME as RESTART}
use Rattle.replies.specs.declared.response.Outcome.{Outcome}
use Rattle.replies.specs.declared.response.Outcome.TheVariants.{Done, Refused}
use Rattle.replies.specs.declared.response.ResponseBody.TheVariants.{Initialize}

-- whether it is a success
abbrev pub is_success : Outcome → Bool
is_success (Done body) = true
is_success (Refused refusal text) = false

-- one for a success of `initialize`, and none for another answer
abbrev pub initializes : Outcome → ℕ
initializes (Done Initialize) = 1
initializes outcome = 0

-- whether a request of that name lets the program run, and does nothing else
abbrev pub is_resume : List ℕ → Bool
is_resume name =
    list_any (bytes_eq name)
    (CONTINUE.now ∷ NEXT.now ∷ STEP_IN.now ∷ STEP_OUT.now ∷ STEP_BACK.now ∷ REVERSE_CONTINUE.now ∷ RESTART.now ∷ [])
