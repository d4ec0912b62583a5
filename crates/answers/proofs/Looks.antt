-- What looks into memory tell.
use Rattle.answers.proofs.Common.{[], ap, arith, Bool, bytes_from, BytesAreRead, can_begin, cond, drop, entries_from, EntriesHaveTheirPlaces, entry, Err, false, first_address, ints, IsRead, IsTrue, length, List, ltb, min, None, offset_by, Ok, Option, OutsideMemory, pos, read, ReadMemory as Bytes, ReadMemoryArguments, refl, slice_get, Some, start_at, start_by, subst, suc, sym, take, TextsAreDisassemblies, TooMuch, true, word_of, zero, ℕ, ℤ, ◌*◌, ◌+ℤ◌, ◌-◌, ◌<◌, ◌∙◌, ◌∷◌, ◌≡◌, ◌≤◌}
use Rattle.std.proofs.Common.{length-drop}
use Rattle.message_parts.specs.declared.read_memory.ReadMemory.{ReadMemory}
use Rattle.rv32i.specs.Texts.{IsTextOf}
use Rattle.rv32i.proofs.OneText.{one_text}
use Rattle.answers.specs.Texts.{text_at, text_at-is}
use Rattle.answers.proofs.MemoryBytes.{begins_inside, byte_there}
use Rattle.answers.proofs.Proper.{offset_small}

-- ---- texts

pub texts : TextsAreDisassemblies
texts word pc text =
    (λ e. subst (IsTextOf word pc) e (text_at-is word pc), λ h. one_text word pc (text_at word pc) text (text_at-is word pc) h)

-- ---- entries

entries_length : (memory : List ℕ) (place : ℤ) (count : ℕ) → length (entries_from memory place count) ≡ count
entries_length memory place zero = refl
entries_length memory place (suc count) = ap suc (entries_length memory (place +ℤ pos 4) count)

entries_at : (memory : List ℕ) (place : ℤ) (count k : ℕ) → k < count
    → slice_get (entries_from memory place count) k ≡ Some (entry memory (place +ℤ pos (4 * k)))
entries_at memory place zero k h = absurd (omega (arith, h))
entries_at memory place (suc count) zero h =
    let here : place ≡ place +ℤ pos (4 * 0) = omega (arith, ints) in
    ap (λ (p : ℤ). Some (entry memory p)) here
entries_at memory place (suc count) (suc k) h =
    let next : (place +ℤ pos 4) +ℤ pos (4 * k) ≡ place +ℤ pos (4 * suc k) = omega (arith, ints) in
    entries_at memory (place +ℤ pos 4) count k (omega (arith, h)) ∙ ap (λ (p : ℤ). Some (entry memory p)) next

pub entries : EntriesHaveTheirPlaces
entries memory first count = (entries_length memory first count, entries_at memory first count)

-- ---- bytes

get_take : (m : List ℕ) (n k : ℕ) → k < length (take n m) → slice_get (take n m) k ≡ slice_get m k
get_take m zero k h = absurd (omega (arith, h))
get_take [] (suc n) k h = refl
get_take (x ∷ m) (suc n) zero h = refl
get_take (x ∷ m) (suc n) (suc k) h = get_take m n k (omega (arith, h))

-- what a part that is too short has left out is nothing
get_past : (m : List ℕ) (n : ℕ) → length (take n m) < n → slice_get m (length (take n m)) ≡ None
get_past m zero h = absurd (omega (arith, h))
get_past [] (suc n) h = refl
get_past (x ∷ m) (suc n) h = get_past m n (omega (arith, h))

take_short : (m : List ℕ) (n : ℕ) → length (take n m) ≤ n
take_short m zero = omega arith
take_short [] (suc n) = omega arith
take_short (x ∷ m) (suc n) = let h = take_short m n in omega (arith, h)

drop_short : (m : List ℕ) (n : ℕ) → length (drop n m) ≤ length m
drop_short m zero = omega arith
drop_short [] (suc n) = omega arith
drop_short (x ∷ m) (suc n) = let h = drop_short m n in omega (arith, h)

take_within : (m : List ℕ) (n : ℕ) → length (take n m) ≤ length m
take_within m zero = omega arith
take_within [] (suc n) = omega arith
take_within (x ∷ m) (suc n) = let h = take_within m n in omega (arith, h)

-- what is read from an address where reading can begin
is_read : (memory : List ℕ) (count address : ℕ) → length memory ≤ 16777216 → address < 4294967296
    → IsTrue (can_begin memory count address) →
    IsRead memory count (record {
      address = address;
      bytes = bytes_from memory count address;
      unreadable_bytes = count - length (bytes_from memory count address);
    })
is_read memory count address few fits begins =
    let l : List ℕ = drop (address - first_address) memory in
    let n : ℕ = min count (4294967296 - address) in
    let short : length (take n l) ≤ n = take_short l n in
    let within : length (take n l) ≤ length l = take_within l n in
    let left : length l ≡ length memory - (address - first_address) = length-drop (address - first_address) memory in
    let end : 0 < count - length (take n l) → length (take n l) < n = λ h. omega (arith, h, short, within, left, few, fits) in
    record {
      all = omega (arith, short);
      each = λ k h. get_take l n k h ∙ byte_there memory address k (begins_inside memory count address k begins (omega (arith, h, short)));
      missing =
          λ h. (let low = begins_inside memory count address (length (take n l)) begins (omega (arith, h)) in
          sym (byte_there memory address (length (take n l)) low) ∙ get_past l n (end h));
    }

-- by where it begins
of_body : (memory : List ℕ) (count address : ℕ) (body : ReadMemory) → length memory ≤ 16777216 → address < 4294967296
    → IsTrue (can_begin memory count address) → read memory count (Ok address) ≡ Ok (Bytes body) → IsRead memory count body
of_body memory count address body few fits begins e =
    let same : record {
      address = address;
      bytes = bytes_from memory count address;
      unreadable_bytes = count - length (bytes_from memory count address);
    } ≡ body = cc in
    subst (IsRead memory count) same (is_read memory count address few fits begins)

at_start : (memory : List ℕ) (count : ℕ) (found : Option ℕ) (body : ReadMemory) → length memory ≤ 16777216
    → ((a : ℕ) → found ≡ Some a → a < 4294967296) → read memory count (start_at memory count found) ≡ Ok (Bytes body)
    → IsRead memory count body
at_start memory count None body few fits e = cc
at_start memory count (Some address) body few fits e =
    let P : Bool → Type 0 = λ v. can_begin memory count address ≡ v
    → read memory count (cond v (Ok address) (Err OutsideMemory)) ≡ Ok (Bytes body) → IsRead memory count body in
    let go : P (can_begin memory count address) = elim (can_begin memory count address) as P [
      | true ↦ λ v f. of_body memory count address body few (fits address refl) v f
      | false ↦ λ v f. cc
    ] in go refl e

by_reference : (memory : List ℕ) (arguments : ReadMemoryArguments) (reference : Option ℕ) (body : ReadMemory) → length memory ≤ 16777216
    → read memory arguments.count (start_by memory arguments reference) ≡ Ok (Bytes body) → IsRead memory arguments.count body
by_reference memory arguments None body few e = cc
by_reference memory arguments (Some reference) body few e =
    let P : Bool → Type 0 = λ v. read memory arguments.count
    (cond v (Err TooMuch) (start_at memory arguments.count (offset_by arguments.offset (Some reference)))) ≡ Ok (Bytes body)
    → IsRead memory arguments.count body in
    let go : P (ltb 65536 arguments.count) = elim (ltb 65536 arguments.count) as P [
      | true ↦ λ f. cc
      | false ↦ λ f. at_start memory arguments.count (offset_by arguments.offset (Some reference)) body few
          (λ a h. offset_small arguments.offset (Some reference) a h) f
    ] in go e

pub bytes_are_read : BytesAreRead
bytes_are_read memory arguments body few e = by_reference memory arguments (word_of arguments.memory_reference) body few e
