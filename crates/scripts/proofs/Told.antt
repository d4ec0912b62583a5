-- An event is told.
use Rattle.scripts.proofs.Common.{[], ap, Bool, false, has_line, IfSome, if◌then◌else◌, line_of, List, None, Option, slice_of, Some, Step, sym, text_of, true, written, ℕ, ◌++◌, ◌∙◌, ◌∷◌, ◌≡◌}
use Rattle.scripts.proofs.Records.{text_append}

-- the line that was written of an event
line_is : (step : Step) (line : List ℕ) → Some line ≡ written step → line ≡ line_of step ++ 10 ∷ []
line_is step line h =
    let P : Bool → Type 0 = λ t. Some line ≡ (if t then Some (line_of step ++ 10 ∷ []) else None) → line ≡ line_of step ++ 10 ∷ [] in
    let go : P (has_line step) = elim (has_line step) as P [ true ↦ λ e. cc | false ↦ λ e. cc ] in go h

-- it, after that of a slice that waits
pub due_text : (waiting : Option ℕ) (step : Step) (line : List ℕ) (result : Option (List ℕ)) → Some line ≡ written step
    → IfSome result (λ text. text ≡ text_of (slice_of waiting) ++ line)
    → IfSome result (λ text. text ≡ text_of (slice_of waiting ++ step ∷ []))
due_text waiting step line None h r = tt
due_text waiting step line (Some text) h r =
    r ∙ ap (λ (l : List ℕ). text_of (slice_of waiting) ++ l) (line_is step line h) ∙ sym (text_append (slice_of waiting) (step ∷ []))
