-- Bytes of memory that are read one by one.
use Rattle.answers.proofs.Common.{[], add-one, ap, arith, Bool, byte_at, bytes_at, bytes_from, can_begin, drop, eqb, false, first_address, is_some, List, ltb, min, nat_tests, None, refl, slice_get, Some, suc, sym, take, true, zero, ℕ, ◌++◌, ◌+◌, ◌-◌, ◌<◌, ◌∙◌, ◌∷◌, ◌≡◌, ◌≤◌}
use Rattle.std.proofs.Common.{IsTrue}

-- ---- of a list

get_drop : (m : List ℕ) (n j : ℕ) → slice_get (drop n m) j ≡ slice_get m (n + j)
get_drop m zero j = let e : j ≡ 0 + j = omega arith in ap (slice_get m) e
get_drop [] (suc n) j = refl
get_drop (x ∷ m) (suc n) j = get_drop m n j ∙ (let e : suc (n + j) ≡ suc n + j = omega arith in ap (slice_get (x ∷ m)) e)

take_one : (m : List ℕ) (k b : ℕ) → slice_get m k ≡ Some b → take (suc k) m ≡ take k m ++ b ∷ []
take_one [] k b h = cc
take_one (x ∷ m) zero b h = let e : x ≡ b = cc in ap (λ (y : ℕ). y ∷ []) e
take_one (x ∷ m) (suc k) b h = ap (λ (l : List ℕ). x ∷ l) (take_one m k b h)

take_past : (m : List ℕ) (k n : ℕ) → k ≤ n → slice_get m k ≡ None → take k m ≡ take n m
take_past [] zero zero l h = refl
take_past [] zero (suc n) l h = refl
take_past [] (suc k) zero l h = refl
take_past [] (suc k) (suc n) l h = refl
take_past (x ∷ m) zero n l h = cc
take_past (x ∷ m) (suc k) zero l h = absurd (omega (arith, l))
take_past (x ∷ m) (suc k) (suc n) l h = ap (λ (l : List ℕ). x ∷ l) (take_past m k n (omega (arith, l)) h)

-- ---- of memory

has_byte : (memory : List ℕ) (address : ℕ) → is_some (byte_at memory address) ≡ true → first_address ≤ address
has_byte memory address h = by_test (ltb address first_address) refl where
  by_test : (b : Bool) → ltb address first_address ≡ b → first_address ≤ address
  by_test true e = let none : byte_at memory address ≡ None = rw e refl in cc
  by_test false e = grind (arith, nat_tests)

-- where a byte is asked for, reading begins in memory
pub begins_inside : (memory : List ℕ) (count address index : ℕ) → IsTrue (can_begin memory count address) → index < count
    → first_address ≤ address
begins_inside memory count address index h below = by_byte (is_some (byte_at memory address)) refl where
  by_byte : (b : Bool) → is_some (byte_at memory address) ≡ b → first_address ≤ address
  by_byte true e = has_byte memory address e
  by_byte false e = let none : eqb count 0 ≡ false = grind (arith, nat_tests) in absurd (cc)

pub byte_there : (memory : List ℕ) (address index : ℕ) → first_address ≤ address
    → slice_get (drop (address - first_address) memory) index ≡ byte_at memory (address + index)
byte_there memory address index low =
    let above : ltb (address + index) first_address ≡ false = grind (arith, nat_tests) in
    let same : address - first_address + index ≡ address + index - first_address = omega (arith, low) in
    get_drop memory (address - first_address) index ∙ ap (slice_get memory) same ∙ (rw above refl)

pub one_more : (memory : List ℕ) (count address index byte : ℕ) (bytes bytes' : List ℕ) → IsTrue (can_begin memory count address)
    → index < count → byte_at memory (address + index) ≡ Some byte → bytes ≡ bytes_at memory address index → bytes' ≡ bytes ++ byte ∷ []
    → bytes' ≡ bytes_at memory address (index + 1)
one_more memory count address index byte bytes bytes' begins below there so more =
    let low = begins_inside memory count address index begins below in
    let l : List ℕ = drop (address - first_address) memory in
    more ∙ ap (λ (x : List ℕ). x ++ byte ∷ []) so ∙ sym (take_one l index byte (byte_there memory address index low ∙ there))
    ∙ (rw add-one refl)

-- memory ends before the last of them
pub no_more : (memory : List ℕ) (count address index : ℕ) (bytes : List ℕ) → IsTrue (can_begin memory count address) → index < count
    → index ≤ 4294967296 - address → byte_at memory (address + index) ≡ None → bytes ≡ bytes_at memory address index
    → bytes ≡ bytes_from memory count address
no_more memory count address index bytes begins below room none so =
    let low = begins_inside memory count address index begins below in
    so ∙ take_past (drop (address - first_address) memory) index (min count (4294967296 - address)) (omega (arith, below, room))
    (byte_there memory address index low ∙ none)

-- this many bytes are read
pub all_read : (memory : List ℕ) (count address index : ℕ) (bytes : List ℕ) → index ≡ min count (4294967296 - address)
    → bytes ≡ bytes_at memory address index → bytes ≡ bytes_from memory count address
all_read memory count address index bytes e so = so ∙ ap (bytes_at memory address) e
