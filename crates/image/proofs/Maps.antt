-- Elements of a list when a part of it was read or replaced.
use Rattle.image.proofs.Common.{[], ap, arith, Bool, byte_at, bytes_at, cond, drop, eqb, false, first_address, has_bytes, is_some, leb, length, length-append, List, ltb, nat_tests, None, refl, slice_get, Some, suc, sym, take, true, with_bytes, zero, ℕ, ◌&&◌, ◌++◌, ◌+◌, ◌-◌, ◌<◌, ◌∙◌, ◌∷◌, ◌≡◌, ◌≤◌}
use Rattle.std.proofs.Common.{replicate}
use Rattle.image.specs.Laws.{BytesLieFromFirst, EachHasByte, NewIsZero}

pub get_first : (a b : List ℕ) (k : ℕ) → k < length a → slice_get (a ++ b) k ≡ slice_get a k
get_first [] b k h = absurd (omega arith)
get_first (x ∷ a) b zero h = refl
get_first (x ∷ a) b (suc k) h = get_first a b k (omega arith)

pub get_later : (a b : List ℕ) (j k : ℕ) → k ≡ length a + j → slice_get (a ++ b) k ≡ slice_get b j
get_later [] b j k e = let f : k ≡ j = omega arith in ap (slice_get b) f
get_later (x ∷ a) b j zero e = absurd (omega arith)
get_later (x ∷ a) b j (suc k) e = get_later a b j k (omega arith)

get_take : (m : List ℕ) (n k : ℕ) → k < n → slice_get (take n m) k ≡ slice_get m k
get_take m zero k h = absurd (omega arith)
get_take [] (suc n) k h = refl
get_take (x ∷ m) (suc n) zero h = refl
get_take (x ∷ m) (suc n) (suc k) h = get_take m n k (omega arith)

get_drop : (m : List ℕ) (n j k : ℕ) → k ≡ n + j → slice_get (drop n m) j ≡ slice_get m k
get_drop m zero j k e = let f : j ≡ k = omega arith in ap (slice_get m) f
get_drop [] (suc n) j k e = refl
get_drop (x ∷ m) (suc n) j zero e = absurd (omega arith)
get_drop (x ∷ m) (suc n) j (suc k) e = get_drop m n j k (omega arith)

taken : (m : List ℕ) (n : ℕ) → n ≤ length m → length (take n m) ≡ n
taken m zero h = refl
taken [] (suc n) h = absurd (omega arith)
taken (x ∷ m) (suc n) h = let e = taken m n (omega arith) in omega arith

-- where each of some bytes is there, and there is one
pub record Inside (memory : List ℕ) (address count : ℕ) : Type 0 where
  pub low : first_address ≤ address
  pub high : address + count ≤ first_address + length memory

inside : (memory : List ℕ) (address count k : ℕ) → has_bytes memory address count ≡ true → k < count → Inside memory address count
inside memory address count k h below =
    let none : eqb count 0 ≡ false = grind (arith, nat_tests) in
    let both : (leb first_address address && leb (address + count) (first_address + length memory)) ≡ true = (rw none at h) in
    record { low = grind (arith, nat_tests); high = grind (arith, nat_tests) }

at_or_above : (memory : List ℕ) (address : ℕ) → first_address ≤ address
    → byte_at memory address ≡ slice_get memory (address - first_address)
at_or_above memory address h = let e : ltb address first_address ≡ false = grind (arith, nat_tests) in rw e refl

pub reads_bytes : (memory : List ℕ) (address count k : ℕ) → has_bytes memory address count ≡ true → k < count
    → slice_get (bytes_at memory address count) k ≡ byte_at memory (address + k)
reads_bytes memory address count k h below =
    let i = inside memory address count k h below in
    let low : first_address ≤ address = i.low in
    get_take (drop (address - first_address) memory) count k below
    ∙ get_drop memory (address - first_address) k (address + k - first_address) (omega arith)
    ∙ sym (at_or_above memory (address + k) (omega arith))

pub writes_bytes : (memory : List ℕ) (address k : ℕ) (bytes : List ℕ) → has_bytes memory address (length bytes) ≡ true → k < length bytes
    → byte_at (with_bytes memory address bytes) (address + k) ≡ slice_get bytes k
writes_bytes memory address k bytes h below =
    let i = inside memory address (length bytes) k h below in
    let low : first_address ≤ address = i.low in
    let high : address + length bytes ≤ first_address + length memory = i.high in
    let prefix = take (address - first_address) memory in
    let t : length prefix ≡ address - first_address = taken memory (address - first_address) (omega arith) in
    let joined : length (prefix ++ bytes) ≡ length prefix + length bytes = length-append prefix bytes in
    at_or_above (with_bytes memory address bytes) (address + k) (omega arith)
    ∙ get_first (prefix ++ bytes) (drop (address - first_address + length bytes) memory) (address + k - first_address) (omega arith)
    ∙ get_later prefix bytes k (address + k - first_address) (omega arith)

below_first : (memory : List ℕ) (address : ℕ) → address < first_address → byte_at memory address ≡ None
below_first memory address h = let e : ltb address first_address ≡ true = grind (arith, nat_tests) in rw e refl

pub same : (memory other : List ℕ) (address : ℕ)
    → (first_address ≤ address → slice_get other (address - first_address) ≡ slice_get memory (address - first_address))
    → byte_at other address ≡ byte_at memory address
same memory other address h =
    let P : Bool → Type 0 = λ t. ltb address first_address ≡ t
    → cond t None (slice_get other (address - first_address)) ≡ cond t None (slice_get memory (address - first_address)) in
    let go : P (ltb address first_address) = elim
    (ltb address first_address) as P [ true ↦ λ t. refl | false ↦ λ t. h (grind (arith, nat_tests)) ] in
    go refl

put_below : (m : List ℕ) (a k : ℕ) (bytes : List ℕ) → a ≤ length m → k < a
    → slice_get (take a m ++ bytes ++ drop (a + length bytes) m) k ≡ slice_get m k
put_below m a k bytes h below =
    let t : length (take a m) ≡ a = taken m a h in
    let joined : length (take a m ++ bytes) ≡ length (take a m) + length bytes = length-append (take a m) bytes in
    get_first (take a m ++ bytes) (drop (a + length bytes) m) k (omega arith) ∙ get_first (take a m) bytes k (omega arith)
    ∙ get_take m a k below

put_above : (m : List ℕ) (a k : ℕ) (bytes : List ℕ) → a ≤ length m → a + length bytes ≤ k
    → slice_get (take a m ++ bytes ++ drop (a + length bytes) m) k ≡ slice_get m k
put_above m a k bytes h above =
    let t : length (take a m) ≡ a = taken m a h in
    let joined : length (take a m ++ bytes) ≡ length (take a m) + length bytes = length-append (take a m) bytes in
    get_later (take a m ++ bytes) (drop (a + length bytes) m) (k - (a + length bytes)) k (omega arith)
    ∙ get_drop m (a + length bytes) (k - (a + length bytes)) k (omega arith)

put_rest : (m : List ℕ) (a k : ℕ) → slice_get (take a m ++ [] ++ drop a m) k ≡ slice_get m k
put_rest m zero k = refl
put_rest [] (suc a) k = refl
put_rest (x ∷ m) (suc a) zero = refl
put_rest (x ∷ m) (suc a) (suc k) = put_rest m a k

put_none : (m : List ℕ) (a k : ℕ) → slice_get (take a m ++ [] ++ drop (a + 0) m) k ≡ slice_get m k
put_none m a k = let e : a + 0 ≡ a = omega arith in rw e (put_rest m a k)

-- with no byte to write nothing changes, and else the address lies in memory
pub keeps_below : (memory : List ℕ) (address other : ℕ) (bytes : List ℕ) → has_bytes memory address (length bytes) ≡ true → other < address
    → byte_at (with_bytes memory address bytes) other ≡ byte_at memory other
keeps_below memory address other [] h below =
    same memory (with_bytes memory address []) other (λ low. put_none memory (address - first_address) (other - first_address))
keeps_below memory address other (b ∷ bytes) h below =
    let i = inside memory address (length (b ∷ bytes)) 0 h (omega arith) in
    let high : address + length (b ∷ bytes) ≤ first_address + length memory = i.high in
    same memory (with_bytes memory address (b ∷ bytes)) other
    (λ low. put_below memory (address - first_address) (other - first_address) (b ∷ bytes) (omega arith) (omega arith))

pub keeps_above : (memory : List ℕ) (address other : ℕ) (bytes : List ℕ) → has_bytes memory address (length bytes) ≡ true
    → address + length bytes ≤ other → byte_at (with_bytes memory address bytes) other ≡ byte_at memory other
keeps_above memory address other [] h above =
    same memory (with_bytes memory address []) other (λ low. put_none memory (address - first_address) (other - first_address))
keeps_above memory address other (b ∷ bytes) h above =
    let i = inside memory address (length (b ∷ bytes)) 0 h (omega arith) in
    let low : first_address ≤ address = i.low in
    let high : address + length (b ∷ bytes) ≤ first_address + length memory = i.high in
    same memory (with_bytes memory address (b ∷ bytes)) other
    (λ l. put_above memory (address - first_address) (other - first_address) (b ∷ bytes) (omega arith) (omega arith))

-- which elements a list has
element : (m : List ℕ) (k : ℕ) → is_some (slice_get m k) ≡ true → k < length m
element [] k h = cc
element (x ∷ m) zero h = omega arith
element (x ∷ m) (suc k) h = let e = element m k h in omega arith

has_element : (m : List ℕ) (k : ℕ) → k < length m → is_some (slice_get m k) ≡ true
has_element [] k h = absurd (omega arith)
has_element (x ∷ m) zero h = refl
has_element (x ∷ m) (suc k) h = has_element m k (omega arith)

pub copy_at : (value size k : ℕ) → k < size → slice_get (replicate size value) k ≡ Some value
copy_at value zero k h = absurd (omega arith)
copy_at value (suc size) zero h = refl
copy_at value (suc size) (suc k) h = copy_at value size k (omega arith)

-- an address that has a byte, and where it lies
lies : (memory : List ℕ) (address : ℕ) → is_some (byte_at memory address) ≡ true
    → (first_address ≤ address) × (address < first_address + length memory)
lies memory address h =
    let P : Bool → Type 0 = λ t. ltb address first_address ≡ t → is_some (cond t None (slice_get memory (address - first_address))) ≡ true
    → (first_address ≤ address) × (address < first_address + length memory) in
    let go : P (ltb address first_address) = elim (ltb address first_address) as P [
      | true ↦ λ t s. absurd (cc)
      | false ↦ λ t s.
          let low : first_address ≤ address = grind (arith, nat_tests) in
          let e = element memory (address - first_address) s in
          (low, omega (arith, e, low))
    ] in go refl h

has_one : (memory : List ℕ) (address : ℕ) → first_address ≤ address → address < first_address + length memory
    → is_some (byte_at memory address) ≡ true
has_one memory address low high =
    ap is_some (at_or_above memory address low) ∙ has_element memory (address - first_address) (omega (arith, low, high))

pub bytes_lie : BytesLieFromFirst
bytes_lie memory address = (λ h. lies memory address h, λ (low, high). has_one memory address low high)

each_has : (memory : List ℕ) (address count : ℕ) → has_bytes memory address count ≡ true → (k : ℕ) → k < count
    → is_some (byte_at memory (address + k)) ≡ true
each_has memory address count h k below =
    let i = inside memory address count k h below in
    let low : first_address ≤ address = i.low in
    let high : address + count ≤ first_address + length memory = i.high in
    has_one memory (address + k) (omega arith) (omega arith)

has_each : (memory : List ℕ) (address count : ℕ) → ((k : ℕ) → k < count → is_some (byte_at memory (address + k)) ≡ true)
    → has_bytes memory address count ≡ true
has_each memory address zero h = refl
has_each memory address (suc count) h =
    let first = lies memory (address + 0) (h 0 (omega arith)) in
    let last = lies memory (address + count) (h count (omega arith)) in
    let low : first_address ≤ address = omega (arith, first.0) in
    let high : address + suc count ≤ first_address + length memory = omega (arith, last.1) in
    let l : leb first_address address ≡ true = grind (arith, nat_tests) in
    let u : leb (address + suc count) (first_address + length memory) ≡ true = grind (arith, nat_tests) in
    let some : eqb (suc count) 0 ≡ false = grind (arith, nat_tests) in
    rw (some, l, u) refl

pub bytes_are_there : EachHasByte
bytes_are_there memory address count = (each_has memory address count, has_each memory address count)

pub zeros_are_there : NewIsZero
zeros_are_there size address low high =
    at_or_above (replicate size 0) address low ∙ copy_at 0 size (address - first_address) (omega (arith, low, high))
