-- The body of `variables`: its form is lawful.
use Rattle.replies.proofs.Common.{arith, codes, Lawful, lawful_address, lawful_field, lawful_fixed, lawful_list, lawful_made_of, lawful_none, lawful_object, lawful_text, refl}
use Rattle.message_parts.specs.Variables as variables
use Rattle.replies.specs.declared.response.ResponseBody.TheVariants as body
use Rattle.replies.proofs.HasForm.{HasForm}

lawful_variable : Lawful 1 variables.variable
lawful_variable =
    lawful_made_of _ _ (λ x. refl) (λ y h. h)
    (lawful_object (lawful_field refl refl lawful_text
    (lawful_field refl refl lawful_address (lawful_fixed refl refl (omega arith) refl refl (omega arith) lawful_none))))

lawful_variables : Lawful 3 variables.variables
lawful_variables =
    lawful_made_of _ _ (λ x. refl) (λ y h. h) (lawful_object (lawful_field refl refl (lawful_list lawful_variable) lawful_none))

pub variables_is : HasForm 3 (codes "variables") variables.variables (λ b. body.Variables b)
variables_is = record { lawful = lawful_variables; shallow = omega arith; is_row = λ x. refl; is_taken = λ message. refl }
