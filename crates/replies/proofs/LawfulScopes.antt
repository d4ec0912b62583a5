-- The body of `scopes`: its form is lawful.
use Rattle.replies.proofs.Common.{arith, codes, either, IfSome, inl, inr, IsUtf8-are_ascii, Lawful, lawful_either, lawful_field, lawful_fixed, lawful_list, lawful_made_of, lawful_none, lawful_object, lawful_whole, LawfulFields, refl, true, ℕ, ◌≡◌, ◌⊎◌}
use Rattle.std.specs.Prelude.{Some}
use Rattle.message_parts.specs.declared.scopes.Scope.{Scope}
use Rattle.message_parts.specs.declared.scopes.Scope.TheVariants as a_scope
use Rattle.message_parts.specs.Scopes as scopes
use Rattle.replies.specs.declared.response.ResponseBody.TheVariants as body
use Rattle.replies.proofs.HasForm.{HasForm}

lawful_scope : Lawful 1 scopes.scope
lawful_scope =
    lawful_made_of scopes.parts scopes.made again stays (lawful_either scopes.are_registers (λ x. refl) (λ x. refl) some others) where
      some : LawfulFields 0 scopes.registers
      some =
          lawful_fixed refl refl (omega arith) refl refl tt
          (lawful_fixed refl refl (omega arith) refl refl (IsUtf8-are_ascii _ refl)
          (lawful_fixed refl refl (omega arith) refl refl (IsUtf8-are_ascii _ refl) (lawful_field refl refl lawful_whole lawful_none)))

      others : LawfulFields 0 scopes.stack
      others =
          lawful_fixed refl refl (omega arith) refl refl tt
          (lawful_fixed refl refl (omega arith) refl refl (IsUtf8-are_ascii _ refl) (lawful_field refl refl lawful_whole lawful_none))

      again : (s : Scope) → scopes.made (scopes.parts s) ≡ Some s
      again (a_scope.Registers n) = refl
      again (a_scope.Stack n) = refl

      stays : (y : (ℕ × Unit {0}) ⊎ (ℕ × Unit {0})) → (either scopes.are_registers scopes.registers scopes.stack).is_in y ≡ true
          → IfSome (scopes.made y) (λ s. (either scopes.are_registers scopes.registers scopes.stack).is_in (scopes.parts s) ≡ true)
      stays (inl p) h = h
      stays (inr p) h = h

lawful_scopes : Lawful 3 scopes.scopes
lawful_scopes = lawful_made_of _ _ (λ x. refl) (λ y h. h) (lawful_object (lawful_field refl refl (lawful_list lawful_scope) lawful_none))

pub scopes_is : HasForm 3 (codes "scopes") scopes.scopes (λ b. body.Scopes b)
scopes_is = record { lawful = lawful_scopes; shallow = omega arith; is_row = λ x. refl; is_taken = λ message. refl }
