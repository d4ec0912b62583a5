-- The body of `setVariable`: its form is lawful.
use Rattle.replies.proofs.Common.{arith, codes, Lawful, lawful_address, lawful_field, lawful_made_of, lawful_none, lawful_object, refl}
use Rattle.message_parts.specs.SetVariable.{set_variable}
use Rattle.replies.specs.declared.response.ResponseBody.TheVariants as body
use Rattle.replies.proofs.HasForm.{HasForm}

lawful_set_variable : Lawful 1 set_variable
lawful_set_variable = lawful_made_of _ _ (λ x. refl) (λ y h. h) (lawful_object (lawful_field refl refl lawful_address lawful_none))

pub set_variable_is : HasForm 1 (codes "setVariable") set_variable (λ b. body.SetVariable b)
set_variable_is = record { lawful = lawful_set_variable; shallow = omega arith; is_row = λ x. refl; is_taken = λ message. refl }
