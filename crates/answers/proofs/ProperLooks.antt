-- Answers of what looks into memory can be sent: their numbers are in their ranges.
use Rattle.answers.proofs.Common.{[], address_of, are_bytes, arith, Bool, bytes_at, bytes_from, BytesAreProper, can_begin, codes, cond, disassembled, Done, drop, entries_from, EntriesAreProper, entry, entry_by, eqb, Err, false, fault_at, first_address, IfOk, IsOutcomeOf, length, List, list_all, little_endian, lt-ltb, ltb, ltb-true, min, nat_tests, negsuc, None, offset_by, Ok, Option, OutsideMemory, pos, read, ReadMemoryArguments, refl, Refusal, Result, result_ok, Some, start_at, start_by, subst, suc, take, TooMuch, true, unless_fault, word_in, word_of, wrapped, zero, ℕ, ℤ, ◌&&◌, ◌+ℤ◌, ◌-◌, ◌<◌, ◌∷◌, ◌≡◌, ◌≤◌}
use Rattle.image.specs.declared.fault.MemFault.{MemFault}
use Rattle.message_parts.specs.Disassemble.{instruction}
use Rattle.message_parts.specs.Forms.{is_in_if, is_word}
use Rattle.message_parts.specs.ReadMemory.{unless_0}
use Rattle.answers.specs.Disassemble.{start_by as places_by}
use Rattle.answers.proofs.Proper.{offset_small}

pub first_of : (x y : Bool) → (x && y) ≡ true → x ≡ true
first_of true y e = refl
first_of false y e = e

pub second_of : (x y : Bool) → (x && y) ≡ true → y ≡ true
second_of true y e = e
second_of false y e = cc

pub both : (x y : Bool) → x ≡ true → y ≡ true → (x && y) ≡ true
both true y a b = b
both false y a b = cc

-- ---- bytes

some_taken : (m : List ℕ) (n : ℕ) → are_bytes m ≡ true → are_bytes (take n m) ≡ true
some_taken m zero h = refl
some_taken [] (suc n) h = refl
some_taken (x ∷ m) (suc n) h =
    both (ltb x 256) _ (first_of (ltb x 256) (are_bytes m) h) (some_taken m n (second_of (ltb x 256) (are_bytes m) h))

pub some_dropped : (m : List ℕ) (n : ℕ) → are_bytes m ≡ true → are_bytes (drop n m) ≡ true
some_dropped m zero h = h
some_dropped [] (suc n) h = refl
some_dropped (x ∷ m) (suc n) h = some_dropped m n (second_of (ltb x 256) (are_bytes m) h)

missing_small : (n : ℕ) → n < 4294967296 → is_in_if is_word (unless_0 n) ≡ true
missing_small n h =
    let P : Bool → Type 0 = λ v. is_in_if is_word (cond v None (Some n)) ≡ true in
    let go : P (eqb n 0) = elim (eqb n 0) as P [ true ↦ refl | false ↦ lt-ltb n 4294967296 h ] in go

-- the first address and the count of what is read
pub start_small : (memory : List ℕ) (count : ℕ) (found : Option ℕ) → count ≤ 65536 → ((a : ℕ) → found ≡ Some a → a < 4294967296)
    → IfOk (start_at memory count found) (λ a. (a < 4294967296) × (count ≤ 65536))
start_small memory count None few fits = tt
start_small memory count (Some address) few fits =
    let P : Bool → Type 0 = λ v. IfOk {E = Refusal} (cond v (Ok address) (Err OutsideMemory)) (λ a. (a < 4294967296) × (count ≤ 65536)) in
    let go : P (can_begin memory count address) = elim
    (can_begin memory count address) as P [ true ↦ (fits address refl, few) | false ↦ tt ] in go

by_reference : (memory : List ℕ) (arguments : ReadMemoryArguments) (reference : Option ℕ)
    → IfOk (start_by memory arguments reference) (λ a. (a < 4294967296) × (arguments.count ≤ 65536))
by_reference memory arguments None = tt
by_reference memory arguments (Some reference) =
    let found = offset_by arguments.offset (Some reference) in
    let P : Bool → Type 0 = λ v. ltb 65536 arguments.count ≡ v
    → IfOk (cond v (Err TooMuch) (start_at memory arguments.count found)) (λ a. (a < 4294967296) × (arguments.count ≤ 65536)) in
    let go : P (ltb 65536 arguments.count) = elim (ltb 65536 arguments.count) as P [
      | true ↦ λ v. tt
      | false ↦ λ v. start_small memory arguments.count found (grind (arith, nat_tests))
          (λ a h. offset_small arguments.offset (Some reference) a h)
    ] in go refl

read_proper : (memory : List ℕ) (count : ℕ) (found : Result ℕ Refusal) → are_bytes memory ≡ true
    → IfOk found (λ a. (a < 4294967296) × (count ≤ 65536))
    → IfOk (read memory count found) (λ body. IsOutcomeOf (codes "readMemory") (Done body))
read_proper memory count (Err refusal) h small = tt
read_proper memory count (Ok address) h small =
    let bytes : List ℕ = bytes_from memory count address in
    let missing : count - length bytes < 4294967296 = omega (arith, small.1) in (
      refl,
      both (ltb address 4294967296) _ (lt-ltb address 4294967296 small.0)
          (both (are_bytes bytes) _
          (some_taken (drop (address - first_address) memory) (min count (4294967296 - address))
          (some_dropped memory (address - first_address) h))
          (both (is_in_if is_word (unless_0 (count - length bytes))) true (missing_small (count - length bytes) missing) refl)),
    )

pub bytes_are_proper : BytesAreProper
bytes_are_proper memory arguments h =
    read_proper memory arguments.count (start_by memory arguments (word_of arguments.memory_reference)) h
    (by_reference memory arguments (word_of arguments.memory_reference))

-- ---- entries

wrapped_small : (place : ℤ) → wrapped place < 4294967296
wrapped_small (pos n) = omega arith
wrapped_small (negsuc n) = omega arith

pub of_bytes : (l : List ℕ) → are_bytes l ≡ true → little_endian (take 4 l) < 4294967296
of_bytes [] h = omega arith
of_bytes (a ∷ []) h = let x = ltb-true a 256 (first_of (ltb a 256) true h) in omega (arith, x)
of_bytes (a ∷ b ∷ []) h =
    let x = ltb-true a 256 (first_of (ltb a 256) _ h) in
    let y = ltb-true b 256 (first_of (ltb b 256) true (second_of (ltb a 256) _ h)) in omega (arith, x, y)
of_bytes (a ∷ b ∷ c ∷ []) h =
    let x = ltb-true a 256 (first_of (ltb a 256) _ h) in
    let r = second_of (ltb a 256) (are_bytes (b ∷ c ∷ [])) h in
    let y = ltb-true b 256 (first_of (ltb b 256) _ r) in
    let z = ltb-true c 256 (first_of (ltb c 256) true (second_of (ltb b 256) (are_bytes (c ∷ [])) r)) in omega (arith, x, y, z)
of_bytes (a ∷ b ∷ c ∷ d ∷ l) h =
    let x = ltb-true a 256 (first_of (ltb a 256) (are_bytes (b ∷ c ∷ d ∷ l)) h) in
    let r = second_of (ltb a 256) (are_bytes (b ∷ c ∷ d ∷ l)) h in
    let y = ltb-true b 256 (first_of (ltb b 256) (are_bytes (c ∷ d ∷ l)) r) in
    let s = second_of (ltb b 256) (are_bytes (c ∷ d ∷ l)) r in
    let z = ltb-true c 256 (first_of (ltb c 256) (are_bytes (d ∷ l)) s) in
    let w = ltb-true d 256 (first_of (ltb d 256) (are_bytes l) (second_of (ltb c 256) (are_bytes (d ∷ l)) s)) in omega (arith, x, y, z, w)

word_small : (memory : List ℕ) (found : Option ℕ) (word : ℕ) → are_bytes memory ≡ true → word_in memory found ≡ Some word
    → word < 4294967296
word_small memory None word h e = cc
word_small memory (Some address) word h e = by_fault (fault_at memory 4 address 4) e where
  by_fault : (fault : Option MemFault) → result_ok (unless_fault fault (little_endian (bytes_at memory address 4))) ≡ Some word
      → word < 4294967296
  by_fault (Some fault) f = cc
  by_fault None f =
      let same : little_endian (bytes_at memory address 4) ≡ word = cc in
      subst (λ n. n < 4294967296) same (of_bytes (drop (address - first_address) memory) (some_dropped memory (address - first_address) h))

entry_proper : (address : ℕ) (found : Option ℕ) → address < 4294967296 → ((word : ℕ) → found ≡ Some word → word < 4294967296)
    → instruction.is_in (entry_by address found) ≡ true
entry_proper address None small fits = both (ltb address 4294967296) true (lt-ltb address 4294967296 small) refl
entry_proper address (Some word) small fits =
    both (ltb address 4294967296) _ (lt-ltb address 4294967296 small)
    (both (ltb word 4294967296) true (lt-ltb word 4294967296 (fits word refl)) refl)

entries_proper : (memory : List ℕ) (place : ℤ) (count : ℕ) → are_bytes memory ≡ true
    → list_all instruction.is_in (entries_from memory place count) ≡ true
entries_proper memory place zero h = refl
entries_proper memory place (suc count) h =
    both (instruction.is_in (entry memory place)) _
    (entry_proper (wrapped place) (word_in memory (address_of place)) (wrapped_small place)
    (λ word e. word_small memory (address_of place) word h e)) (entries_proper memory (place +ℤ pos 4) count h)

disassembled_proper : (memory : List ℕ) (count : ℕ) (found : Result ℤ Refusal) → are_bytes memory ≡ true
    → IfOk (disassembled memory count found) (λ body. IsOutcomeOf (codes "disassemble") (Done body))
disassembled_proper memory count (Err refusal) h = tt
disassembled_proper memory count (Ok place) h =
    (refl, both (list_all instruction.is_in (entries_from memory place count)) true (entries_proper memory place count h) refl)

pub entries_are_proper : EntriesAreProper
entries_are_proper memory arguments h =
    disassembled_proper memory arguments.instruction_count (places_by arguments (word_of arguments.memory_reference)) h
