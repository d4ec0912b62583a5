-- One byte of memory as a load reads it.
use Rattle.rv32i.proofs.Common.{[], ap, arith, Bool, byte_at, cond, drop, eqb, Err, false, inl, inr, leb, length, List, LoadOutside, ltb, nat_tests, None, Ok, Option, refl, slice_get, Some, suc, take, true, zero, ℕ, ◌%◌, ◌*◌, ◌+◌, ◌-◌, ◌<◌, ◌∷◌, ◌≡◌, ◌≤◌, ◌⊎◌}
use Rattle.rv32i.specs.Steps.{loaded}
use Rattle.rv32i.specs.declared.performing.Halt.TheVariants.{Stopped}

pub record Found (bytes : List ℕ) (k byte : ℕ) : Type 0 where
  pub below : k < length bytes
  pub one : take 1 (drop k bytes) ≡ byte ∷ []

found : (bytes : List ℕ) (k byte : ℕ) → slice_get bytes k ≡ Some byte → Found bytes k byte
found [] k byte h = cc
found (b ∷ bytes) zero byte h = let e : b ≡ byte = cc in record { below = omega arith; one = ap (λ x. x ∷ []) e }
found (b ∷ bytes) (suc k) byte h = let f = found bytes k byte h in record { below = omega arith; one = f.one }

missing : (bytes : List ℕ) (k : ℕ) → slice_get bytes k ≡ None → length bytes ≤ k
missing [] k h = omega arith
missing (b ∷ bytes) zero h = cc
missing (b ∷ bytes) (suc k) h = let f = missing bytes k h in omega arith

at_place : (address byte : ℕ) (o : Option ℕ) → cond (ltb address 65536) None o ≡ Some byte → (65536 ≤ address) × (o ≡ Some byte)
at_place address byte o h =
    let P : Bool → Type 0 = λ t. ltb address 65536 ≡ t → cond t None o ≡ Some byte → (65536 ≤ address) × (o ≡ Some byte) in
    let go : P (ltb address 65536) = elim (ltb address 65536) as P [ true ↦ λ t e. cc | false ↦ λ t e. (grind (arith, nat_tests), e) ] in
    go refl h

no_place : (address : ℕ) (o : Option ℕ) → cond (ltb address 65536) None o ≡ None → (address < 65536) ⊎ ((65536 ≤ address) × (o ≡ None))
no_place address o h =
    let P : Bool → Type 0 = λ t. ltb address 65536 ≡ t → cond t None o ≡ None → (address < 65536) ⊎ ((65536 ≤ address) × (o ≡ None)) in
    let go : P (ltb address 65536) = elim
    (ltb address 65536) as P [ true ↦ λ t e. inl (grind (arith, nat_tests)) | false ↦ λ t e. inr (grind (arith, nat_tests), e) ] in
    go refl h

pub byte_loads : (memory : List ℕ) (address byte : ℕ) → byte_at memory address ≡ Some byte → loaded 1 memory address ≡ Ok byte
byte_loads memory address byte h =
    let p = at_place address byte (slice_get memory (address - 65536)) h in
    let f = found memory (address - 65536) byte p.1 in
    let low : 65536 ≤ address = p.0 in
    let e : eqb (address % 1) 0 ≡ true = (let z : address % 1 ≡ 0 = omega arith in rw z refl) in
    let l : leb 65536 address ≡ true = grind (arith, nat_tests) in
    let r : leb (address + 1) (65536 + length memory) ≡ true =
    (let b : address + 1 ≤ 65536 + length memory = omega arith in grind (arith, nat_tests)) in
    let n : byte + 256 * 0 ≡ byte = omega arith in
    rw (e, l, r, f.one) (ap (λ x. Ok x) n)

pub no_byte_loads : (memory : List ℕ) (address : ℕ) → byte_at memory address ≡ None → loaded 1 memory address ≡ Err (Stopped LoadOutside)
no_byte_loads memory address h =
    let e : eqb (address % 1) 0 ≡ true = (let z : address % 1 ≡ 0 = omega arith in rw z refl) in
    elim (no_place address (slice_get memory (address - 65536)) h) [
      | inl below ↦ (let l : leb 65536 address ≡ false = grind (arith, nat_tests) in rw (e, l) refl)
      | inr none ↦ (let past = missing memory (address - 65536) none.1 in
          let low : 65536 ≤ address = none.0 in
          let l : leb 65536 address ≡ true = grind (arith, nat_tests) in
          let r : leb (address + 1) (65536 + length memory) ≡ false =
          (let b : 65536 + length memory < address + 1 = omega arith in grind (arith, nat_tests)) in
          rw (e, l, r) refl)
    ]
