-- The body of `disassemble`: its form is lawful.
use Rattle.replies.proofs.Common.{arith, codes, either, IfSome, inl, inr, IsUtf8-are_ascii, Lawful, lawful_address, lawful_either, lawful_field, lawful_fixed, lawful_list, lawful_made_of, lawful_none, lawful_object, lawful_text, LawfulFields, List, refl, true, ℕ, ◌≡◌, ◌⊎◌}
use Rattle.std.specs.Prelude.{Some}
use Rattle.message_parts.specs.declared.disassemble.Instruction.{Instruction}
use Rattle.message_parts.specs.declared.disassemble.Instruction.TheVariants as an_entry
use Rattle.message_parts.specs.Disassemble as words
use Rattle.message_parts.proofs.InstructionBytes.{lawful_instruction_bytes}
use Rattle.replies.specs.declared.response.ResponseBody.TheVariants as body
use Rattle.replies.proofs.HasForm.{HasForm}

lawful_instruction : Lawful 1 words.instruction
lawful_instruction =
    lawful_made_of words.parts words.made again stays (lawful_either words.is_valid (λ x. refl) (λ x. refl) word no_word) where
      word : LawfulFields 0 words.valid
      word =
          lawful_field refl refl lawful_address
          (lawful_field refl refl lawful_text (lawful_field refl refl lawful_instruction_bytes lawful_none))

      no_word : LawfulFields 0 words.invalid
      no_word =
          lawful_field refl refl lawful_address
          (lawful_fixed refl refl (omega arith) refl refl (IsUtf8-are_ascii _ refl)
          (lawful_fixed refl refl (omega arith) refl refl (IsUtf8-are_ascii _ refl) lawful_none))

      again : (i : Instruction) → words.made (words.parts i) ≡ Some i
      again (an_entry.Valid address instruction word) = refl
      again (an_entry.Invalid address) = refl

      stays : (y : (ℕ × (List ℕ × (ℕ × Unit {0}))) ⊎ (ℕ × Unit {0})) → (either words.is_valid words.valid words.invalid).is_in y ≡ true
          → IfSome (words.made y) (λ i. (either words.is_valid words.valid words.invalid).is_in (words.parts i) ≡ true)
      stays (inl p) h = h
      stays (inr p) h = h

lawful_disassemble : Lawful 3 words.disassemble
lawful_disassemble =
    lawful_made_of _ _ (λ x. refl) (λ y h. h) (lawful_object (lawful_field refl refl (lawful_list lawful_instruction) lawful_none))

pub disassemble_is : HasForm 3 (codes "disassemble") words.disassemble (λ b. body.Disassemble b)
disassemble_is = record { lawful = lawful_disassemble; shallow = omega arith; is_row = λ x. refl; is_taken = λ message. refl }
