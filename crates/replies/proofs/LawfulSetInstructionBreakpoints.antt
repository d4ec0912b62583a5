-- The body of `setInstructionBreakpoints`: its form is lawful.
use Rattle.replies.proofs.Common.{arith, codes, either, IfSome, inl, inr, Lawful, lawful_address, lawful_either, lawful_field, lawful_fixed, lawful_list, lawful_made_of, lawful_none, lawful_object, lawful_text, lawful_whole, LawfulFields, List, refl, true, ℕ, ◌≡◌, ◌⊎◌}
use Rattle.std.specs.Prelude.{Some}
use Rattle.message_parts.specs.declared.set_instruction_breakpoints.InstructionBreakpoint.{InstructionBreakpoint}
use Rattle.message_parts.specs.declared.set_instruction_breakpoints.InstructionBreakpoint.TheVariants as at_address
use Rattle.message_parts.specs.Breakpoints.{is_verified}
use Rattle.message_parts.specs.SetInstructionBreakpoints as instruction
use Rattle.replies.specs.declared.response.ResponseBody.TheVariants as body
use Rattle.replies.proofs.HasForm.{HasForm}

pub lawful_instruction_breakpoint : Lawful 1 instruction.instruction_breakpoint
lawful_instruction_breakpoint =
    lawful_made_of instruction.parts instruction.made again stays (lawful_either is_verified (λ x. refl) (λ x. refl) set unset) where
      set : LawfulFields 0 instruction.verified
      set =
          lawful_field refl refl lawful_whole
          (lawful_field refl refl lawful_address (lawful_fixed refl refl (omega arith) refl refl tt lawful_none))

      unset : LawfulFields 0 instruction.unverified
      unset = lawful_field refl refl lawful_text (lawful_fixed refl refl (omega arith) refl refl tt lawful_none)

      again : (b : InstructionBreakpoint) → instruction.made (instruction.parts b) ≡ Some b
      again (at_address.Verified id address) = refl
      again (at_address.Unverified message) = refl

      stays : (y : (ℕ × (ℕ × Unit {0})) ⊎ (List ℕ × Unit {0})) → (either is_verified instruction.verified instruction.unverified).is_in y ≡ true
          → IfSome (instruction.made y) (λ b. (either is_verified instruction.verified instruction.unverified).is_in (instruction.parts b) ≡ true)
      stays (inl p) h = h
      stays (inr p) h = h

lawful_set_instruction_breakpoints : Lawful 3 instruction.set_instruction_breakpoints
lawful_set_instruction_breakpoints =
    lawful_made_of _ _ (λ x. refl) (λ y h. h)
    (lawful_object (lawful_field refl refl (lawful_list lawful_instruction_breakpoint) lawful_none))

pub set_instruction_breakpoints_is : HasForm 3 (codes "setInstructionBreakpoints") instruction.set_instruction_breakpoints (λ b. body.SetInstructionBreakpoints b)
set_instruction_breakpoints_is =
    record { lawful = lawful_set_instruction_breakpoints; shallow = omega arith; is_row = λ x. refl; is_taken = λ message. refl }
