-- Bytes up to a multiple of a power of 2.
use Rattle.assembler.proofs.Common.{ap, arith, Bool, false, nat_le, nat_tests, None, padding, refl, Some, sym, true, up_to, ℕ, ◌%◌, ◌*◌, ◌+◌, ◌-◌, ◌<◌, ◌^◌, ◌∙◌, ◌≡◌, ◌≤◌}
use Rattle.std.proofs.Math.Nat.{mod-eq_of_lt, mod_self}
use Rattle.std.proofs.Math.Pow.{pow_mono}
use Rattle.std.proofs.lemmas.Nat.{one_shl}

pub above : (limit address : ℕ) → limit < address → up_to limit address ≡ None
above limit address h = let t : nat_le address limit ≡ false = grind (arith, nat_tests) in rw t refl

pub below : (limit address : ℕ) → address ≤ limit → up_to limit address ≡ Some address
below limit address h = let t : nat_le address limit ≡ true = grind (arith, nat_tests) in rw t refl

pub too_wide : (power address limit : ℕ) → 32 ≤ power → 0 < address → address ≤ limit → limit < 2 ^ 32
    → None ≡ up_to limit (address + padding (2 ^ power) address)
too_wide power address limit h some within fits =
    let wide : 2 ^ 32 ≤ 2 ^ power = pow_mono h in
    let over : address % 2 ^ power ≡ address = mod-eq_of_lt (omega arith) in
    let gap : (2 ^ power - address) % 2 ^ power ≡ 2 ^ power - address = mod-eq_of_lt (omega arith) in
    let all : padding (2 ^ power) address ≡ 2 ^ power - address = ap (λ n. (2 ^ power - n) % 2 ^ power) over ∙ gap in
    sym (above limit (address + padding (2 ^ power) address) (omega (arith, all)))

pub at_multiple : (power address limit : ℕ) → power < 32 → address % ((1 * 2 ^ power) % 2 ^ 32) ≡ 0 → address ≤ limit
    → Some address ≡ up_to limit (address + padding (2 ^ power) address)
at_multiple power address limit h over within =
    let unit = one_shl power 32 h in
    let none : address % 2 ^ power ≡ 0 = ap (λ n. address % n) (sym unit) ∙ over in
    let all : padding (2 ^ power) address ≡ 0 = ap (λ n. (2 ^ power - n) % 2 ^ power) none ∙ whole (2 ^ power) in
    let same : address + padding (2 ^ power) address ≡ address = omega (arith, all) in
    sym (ap (up_to limit) same ∙ below limit address within)
  where
    whole : (n : ℕ) → (n - 0) % n ≡ 0
    whole n = let e : n - 0 ≡ n = omega arith in ap (λ m. m % n) e ∙ mod_self n

pub up_to_is : (limit address end : ℕ) → Some end ≡ up_to limit address → end ≡ address
up_to_is limit address end h =
    let P : Bool → Type 0 = λ b. nat_le address limit ≡ b → end ≡ address in
    let go : P (nat_le address limit) = elim (nat_le address limit) as P [
      | true ↦ λ s. let some : up_to limit address ≡ Some address = rw s refl in cc
      | false ↦ λ s. let none : up_to limit address ≡ None = rw s refl in cc
    ] in go refl
