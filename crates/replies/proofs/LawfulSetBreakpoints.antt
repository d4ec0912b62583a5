-- The body of `setBreakpoints`: its form is lawful.
use Rattle.replies.proofs.Common.{arith, codes, either, IfSome, inl, inr, Lawful, lawful_address, lawful_either, lawful_field, lawful_fixed, lawful_list, lawful_made_of, lawful_none, lawful_object, lawful_text, lawful_whole, LawfulFields, List, refl, true, ℕ, ◌≡◌, ◌⊎◌}
use Rattle.std.specs.Prelude.{Some}
use Rattle.message_parts.specs.declared.set_breakpoints.SourceBreakpoint.{SourceBreakpoint}
use Rattle.message_parts.specs.declared.set_breakpoints.SourceBreakpoint.TheVariants as at_line
use Rattle.message_parts.specs.Breakpoints.{is_verified}
use Rattle.message_parts.specs.SetBreakpoints as source
use Rattle.replies.specs.declared.response.ResponseBody.TheVariants as body
use Rattle.replies.proofs.HasForm.{HasForm}

lawful_source_breakpoint : Lawful 1 source.source_breakpoint
lawful_source_breakpoint =
    lawful_made_of source.parts source.made again stays (lawful_either is_verified (λ x. refl) (λ x. refl) set unset) where
      set : LawfulFields 0 source.verified
      set =
          lawful_field refl refl lawful_whole
          (lawful_field refl refl lawful_address
          (lawful_field refl refl lawful_whole (lawful_fixed refl refl (omega arith) refl refl tt lawful_none)))

      unset : LawfulFields 0 source.unverified
      unset =
          lawful_field refl refl lawful_whole
          (lawful_field refl refl lawful_text (lawful_fixed refl refl (omega arith) refl refl tt lawful_none))

      again : (b : SourceBreakpoint) → source.made (source.parts b) ≡ Some b
      again (at_line.Verified id address line) = refl
      again (at_line.Unverified line message) = refl

      stays : (y : (ℕ × (ℕ × (ℕ × Unit {0}))) ⊎ (ℕ × (List ℕ × Unit {0})))
          → (either is_verified source.verified source.unverified).is_in y ≡ true
          → IfSome (source.made y) (λ b. (either is_verified source.verified source.unverified).is_in (source.parts b) ≡ true)
      stays (inl p) h = h
      stays (inr p) h = h

lawful_set_breakpoints : Lawful 3 source.set_breakpoints
lawful_set_breakpoints =
    lawful_made_of _ _ (λ x. refl) (λ y h. h) (lawful_object (lawful_field refl refl (lawful_list lawful_source_breakpoint) lawful_none))

pub set_breakpoints_is : HasForm 3 (codes "setBreakpoints") source.set_breakpoints (λ b. body.SetBreakpoints b)
set_breakpoints_is = record { lawful = lawful_set_breakpoints; shallow = omega arith; is_row = λ x. refl; is_taken = λ message. refl }
