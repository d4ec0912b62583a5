-- The body of `stackTrace`: its form is lawful.
use Rattle.replies.proofs.Common.{arith, codes, Lawful, lawful_address, lawful_field, lawful_list, lawful_made_of, lawful_none, lawful_object, lawful_optional, lawful_text, lawful_whole, refl}
use Rattle.message_parts.specs.StackTrace as frames
use Rattle.replies.specs.declared.response.ResponseBody.TheVariants as body
use Rattle.replies.proofs.HasForm.{HasForm}

lawful_source : Lawful 1 frames.source
lawful_source =
    lawful_made_of _ _ (λ x. refl) (λ y h. h)
    (lawful_object (lawful_field refl refl lawful_text (lawful_field refl refl lawful_text lawful_none)))

lawful_stack_frame : Lawful 2 frames.stack_frame
lawful_stack_frame =
    lawful_made_of _ _ (λ x. refl) (λ y h. h)
    (lawful_object (lawful_field refl refl lawful_whole
    (lawful_field refl refl lawful_whole
    (lawful_field refl refl lawful_address
    (lawful_field refl refl lawful_whole
    (lawful_field refl refl lawful_text
    (lawful_optional refl refl lawful_source lawful_none)))))))

lawful_stack_trace : Lawful 4 frames.stack_trace
lawful_stack_trace =
    lawful_made_of _ _ (λ x. refl) (λ y h. h)
    (lawful_object (lawful_field refl refl (lawful_list lawful_stack_frame) (lawful_field refl refl lawful_whole lawful_none)))

pub stack_trace_is : HasForm 4 (codes "stackTrace") frames.stack_trace (λ b. body.StackTrace b)
stack_trace_is = record { lawful = lawful_stack_trace; shallow = omega arith; is_row = λ x. refl; is_taken = λ message. refl }
