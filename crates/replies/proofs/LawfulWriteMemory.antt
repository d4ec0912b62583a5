-- The body of `writeMemory`: its form is lawful.
use Rattle.replies.proofs.Common.{arith, codes, Lawful, lawful_field, lawful_made_of, lawful_none, lawful_object, lawful_whole, refl}
use Rattle.message_parts.specs.WriteMemory.{write_memory}
use Rattle.replies.specs.declared.response.ResponseBody.TheVariants as body
use Rattle.replies.proofs.HasForm.{HasForm}

lawful_write_memory : Lawful 1 write_memory
lawful_write_memory = lawful_made_of _ _ (λ x. refl) (λ y h. h) (lawful_object (lawful_field refl refl lawful_whole lawful_none))

pub write_memory_is : HasForm 1 (codes "writeMemory") write_memory (λ b. body.WriteMemory b)
write_memory_is = record { lawful = lawful_write_memory; shallow = omega arith; is_row = λ x. refl; is_taken = λ message. refl }
