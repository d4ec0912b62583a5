-- The body of `readMemory`: its form is lawful.
use Rattle.replies.proofs.Common.{and_parts, arith, Bool, codes, false, field, if◌then◌else◌, is_in_if, is_word, Lawful, lawful_address, lawful_field, lawful_made_of, lawful_none, lawful_object, lawful_optional, lawful_whole, LawfulFields, List, None, none, Option, optional, refl, true, whole, ℕ, ◌&&◌, ◌==◌, ◌≡◌}
use Rattle.std.specs.Prelude.{Some}
use Rattle.std.proofs.lemmas.Bool.Decides.{nat_tests}
use Rattle.message_parts.specs.Addresses as addresses
use Rattle.message_parts.specs.EncodedBytes.{are_bytes, encoded_bytes}
use Rattle.message_parts.specs.declared.read_memory.ReadMemory.{ReadMemory}
use Rattle.message_parts.specs.ReadMemory.{or_0, read_memory, unless_0}
use Rattle.message_parts.proofs.EncodedBytes.{lawful_encoded_bytes}
use Rattle.replies.specs.declared.response.ResponseBody.TheVariants as body
use Rattle.replies.proofs.HasForm.{HasForm}

or_0-unless_0 : (n : ℕ) → or_0 (unless_0 n) ≡ n
or_0-unless_0 n = by_test (n == 0) refl where
  by_test : (b : Bool) → (n == 0) ≡ b → or_0 (if b then None else Some n) ≡ n
  by_test true e = grind (arith, nat_tests)
  by_test false e = refl

unless_0-or_0 : (o : Option ℕ) → is_in_if is_word o ≡ true → is_in_if is_word (unless_0 (or_0 o)) ≡ true
unless_0-or_0 None h = refl
unless_0-or_0 (Some n) h = by_test (n == 0) where
  by_test : (b : Bool) → is_in_if is_word (if b then None else Some n) ≡ true
  by_test true = refl
  by_test false = h

lawful_read_memory : Lawful 1 read_memory
lawful_read_memory = lawful_made_of _ _ again stays (lawful_object fields) where
  fields : LawfulFields 0 (field (codes "address") addresses.address (field (codes "data") encoded_bytes (optional (codes "unreadableBytes") whole none)))
  fields =
      lawful_field refl refl lawful_address
      (lawful_field refl refl lawful_encoded_bytes (lawful_optional refl refl lawful_whole lawful_none))

  again : (m : ReadMemory)
      → Some (record { address = m.address; bytes = m.bytes; unreadable_bytes = or_0 (unless_0 m.unreadable_bytes) }) ≡ Some m
  again m = rw (or_0-unless_0 m.unreadable_bytes) refl

  stays : (y : ℕ × (List ℕ × (Option ℕ × Unit {0}))) → is_word y.0 && (are_bytes y.1.0 && (is_in_if is_word y.1.1.0 && true)) ≡ true
      → is_word y.0 && (are_bytes y.1.0 && (is_in_if is_word (unless_0 (or_0 y.1.1.0)) && true)) ≡ true
  stays y h =
      let p = and_parts (is_word y.0) _ h in
      let q = and_parts (are_bytes y.1.0) _ p.1 in
      let r = and_parts (is_in_if is_word y.1.1.0) true q.1 in
      rw (p.0, q.0, unless_0-or_0 y.1.1.0 r.0) refl

pub read_memory_is : HasForm 1 (codes "readMemory") read_memory (λ b. body.ReadMemory b)
read_memory_is = record { lawful = lawful_read_memory; shallow = omega arith; is_row = λ x. refl; is_taken = λ message. refl }
