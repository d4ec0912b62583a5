-- The body of `evaluate`: its form is lawful.
use Rattle.replies.proofs.Common.{arith, codes, Lawful, lawful_address, lawful_field, lawful_fixed, lawful_made_of, lawful_none, lawful_object, refl}
use Rattle.message_parts.specs.Evaluate.{evaluate}
use Rattle.replies.specs.declared.response.ResponseBody.TheVariants as body
use Rattle.replies.proofs.HasForm.{HasForm}

lawful_evaluate : Lawful 1 evaluate
lawful_evaluate =
    lawful_made_of _ _ (λ x. refl) (λ y h. h)
    (lawful_object (lawful_field refl refl lawful_address (lawful_fixed refl refl (omega arith) refl refl (omega arith) lawful_none)))

pub evaluate_is : HasForm 1 (codes "evaluate") evaluate (λ b. body.Evaluate b)
evaluate_is = record { lawful = lawful_evaluate; shallow = omega arith; is_row = λ x. refl; is_taken = λ message. refl }
