-- The body of `setFunctionBreakpoints`: its form is lawful.
use Rattle.replies.proofs.Common.{arith, codes, Lawful, lawful_field, lawful_list, lawful_made_of, lawful_none, lawful_object, refl}
use Rattle.message_parts.specs.SetFunctionBreakpoints.{set_function_breakpoints}
use Rattle.replies.proofs.LawfulSetInstructionBreakpoints.{lawful_instruction_breakpoint}
use Rattle.replies.specs.declared.response.ResponseBody.TheVariants as body
use Rattle.replies.proofs.HasForm.{HasForm}

lawful_set_function_breakpoints : Lawful 3 set_function_breakpoints
lawful_set_function_breakpoints =
    lawful_made_of _ _ (λ x. refl) (λ y h. h)
    (lawful_object (lawful_field refl refl (lawful_list lawful_instruction_breakpoint) lawful_none))

pub set_function_breakpoints_is : HasForm 3 (codes "setFunctionBreakpoints") set_function_breakpoints (λ b. body.SetFunctionBreakpoints b)
set_function_breakpoints_is =
    record { lawful = lawful_set_function_breakpoints; shallow = omega arith; is_row = λ x. refl; is_taken = λ message. refl }
