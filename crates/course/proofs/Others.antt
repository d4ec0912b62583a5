-- Words that a write does not touch.
use Rattle.course.proofs.Common.{[], ap, append_assoc, arith, Bool, bytes_at, drop, drop-append-le, drop_at, eqb, false, fault_at, inl, inr, leb, length, length-append, length-take-le, List, little_endian, MemFault, Misaligned, nat_tests, None, Ok, Option, Outside, refl, Some, suc, sym, take, take-append-drop, take-append-le, true, unless_fault, with_bytes, word_at, zero, ℕ, ◌%◌, ◌++◌, ◌+◌, ◌-◌, ◌∙◌, ◌∷◌, ◌≡◌, ◌≤◌, ◌⊎◌}
use Rattle.std.proofs.Common.{length-drop}

-- ---- where bytes lie

-- `count` bytes from an address on lie in memory
pub record Lies (m : List ℕ) (a count : ℕ) : Type 0 where
  pub low : 65536 ≤ a
  pub high : a + count ≤ 65536 + length m

pub lies_there : (m : List ℕ) (al a count : ℕ) → 1 ≤ count → fault_at m al a count ≡ None → Lies m a count
lies_there m al a count some h =
    by (eqb (a % al) 0) (eqb count 0) (leb 65536 a) (leb (a + count) (65536 + length m)) refl refl refl refl h where
      by : (x e y z : Bool) → eqb (a % al) 0 ≡ x → eqb count 0 ≡ e → leb 65536 a ≡ y → leb (a + count) (65536 + length m) ≡ z
          → fault_at m al a count ≡ None → Lies m a count
      by true true y z p q r s h = absurd (let none : count ≡ 0 = grind (arith, nat_tests) in omega (arith, some, none))
      by true false true true p q r s h = record { low = grind (arith, nat_tests); high = grind (arith, nat_tests) }
      by true false true false p q r s h = absurd (let k : Some Outside ≡ None = sym (rw (p, q, r, s) refl) ∙ h in cc)
      by true false false z p q r s h = absurd (let k : Some Outside ≡ None = sym (rw (p, q, r) refl) ∙ h in cc)
      by false e y z p q r s h = absurd (let k : Some Misaligned ≡ None = sym (rw p refl) ∙ h in cc)

pub aligned_there : (m : List ℕ) (al a count : ℕ) → fault_at m al a count ≡ None → a % al ≡ 0
aligned_there m al a count h = by (eqb (a % al) 0) refl h where
  by : (x : Bool) → eqb (a % al) 0 ≡ x → fault_at m al a count ≡ None → a % al ≡ 0
  by true p h = grind (arith, nat_tests)
  by false p h = absurd (let k : Some Misaligned ≡ None = sym (rw p refl) ∙ h in cc)

pub is_there : (m : List ℕ) (a : ℕ) → a % 4 ≡ 0 → Lies m a 4 → fault_at m 4 a 4 ≡ None
is_there m a al t =
    let lo : 65536 ≤ a = t.low in
    let hi : a + 4 ≤ 65536 + length m = t.high in
    let e : eqb (a % 4) 0 ≡ true = grind (arith, nat_tests) in
    let f : leb 65536 a ≡ true = grind (arith, nat_tests) in
    let g : leb (a + 4) (65536 + length m) ≡ true = grind (arith, nat_tests) in
    rw (e, f, g) refl

no_fault_by : (f : Option MemFault) (v w : ℕ) → unless_fault f v ≡ Ok w → f ≡ None
no_fault_by None v w h = refl
no_fault_by (Some fault) v w h = absurd (cc)

pub fetched : (m : List ℕ) (a w : ℕ) → word_at m a ≡ Ok w → fault_at m 4 a 4 ≡ None
fetched m a w h = no_fault_by (fault_at m 4 a 4) (little_endian (bytes_at m a 4)) w h

-- ---- a list with bytes put in

put_length : (l b : List ℕ) (k : ℕ) → k + length b ≤ length l → length (take k l ++ b ++ drop (k + length b) l) ≡ length l
put_length l b k h =
    let w : k ≤ length l = omega (arith, h) in
    omega (
      arith,
      length-append (take k l ++ b) (drop (k + length b) l),
      length-append (take k l) b,
      length-take-le k l w,
      length-drop
          (k + length b) l,
      h,
    )

take_drop_take : (l : List ℕ) (i n k : ℕ) → i + n ≤ k → take n (drop i (take k l)) ≡ take n (drop i l)
take_drop_take l zero zero k h = refl
take_drop_take [] zero (suc n) zero h = refl
take_drop_take [] zero (suc n) (suc k) h = refl
take_drop_take (x ∷ l) zero (suc n) zero h = absurd (omega arith)
take_drop_take (x ∷ l) zero (suc n) (suc k) h = ap (λ t. x ∷ t) (take_drop_take l zero n k (omega arith))
take_drop_take [] (suc i) n zero h = absurd (omega arith)
take_drop_take [] (suc i) n (suc k) h = refl
take_drop_take (x ∷ l) (suc i) n zero h = absurd (omega arith)
take_drop_take (x ∷ l) (suc i) n (suc k) h = take_drop_take l i n k (omega arith)

before_put : (l b : List ℕ) (i n k : ℕ) → k + length b ≤ length l → i + n ≤ k
    → take n (drop i (take k l ++ b ++ drop (k + length b) l)) ≡ take n (drop i l)
before_put l b i n k h w =
    let kl : k ≤ length l = omega (arith, h) in
    let t : length (take k l) ≡ k = length-take-le k l kl in
    let p : i ≤ length (take k l) = omega (arith, t, w) in
    let q : n ≤ length (drop i (take k l)) = omega (arith, length-drop i (take k l), t, w) in
    ap (λ x. take n (drop i x)) (append_assoc (take k l) b (drop (k + length b) l))
    ∙ ap (take n) (drop-append-le i (take k l) (b ++ drop (k + length b) l) p)
    ∙ take-append-le n (drop i (take k l)) (b ++ drop (k + length b) l) q
    ∙ take_drop_take l i n k w

drop_drop : (l : List ℕ) (i j : ℕ) → drop j (drop i l) ≡ drop (i + j) l
drop_drop l zero j = let e : 0 + j ≡ j = omega arith in ap (λ k. drop k l) (sym e)
drop_drop [] (suc i) zero = let e : suc i + 0 ≡ suc i = omega arith in ap (λ k. drop k []) (sym e)
drop_drop [] (suc i) (suc j) = let e : suc i + suc j ≡ suc (i + suc j) = omega arith in ap (λ k. drop k []) (sym e)
drop_drop (x ∷ l) (suc i) j = let e : suc i + j ≡ suc (i + j) = omega arith in drop_drop l i j ∙ ap (λ k. drop k (x ∷ l)) (sym e)

after_put : (l b : List ℕ) (i k : ℕ) → k + length b ≤ length l → k + length b ≤ i
    → drop i (take k l ++ b ++ drop (k + length b) l) ≡ drop i l
after_put l b i k h w =
    let kl : k ≤ length l = omega (arith, h) in
    let t : length (take k l ++ b) ≡ k + length b = omega (arith, length-append (take k l) b, length-take-le k l kl) in
    let sum : i ≡ k + length b + (i - (k + length b)) = omega (arith, w) in
    ap (λ j. drop j (take k l ++ b ++ drop (k + length b) l)) sum
    ∙ sym (drop_drop (take k l ++ b ++ drop (k + length b) l) (k + length b) (i - (k + length b)))
    ∙ ap (drop (i - (k + length b))) (drop_at (take k l ++ b) (drop (k + length b) l) (k + length b) t)
    ∙ drop_drop l (k + length b) (i - (k + length b))
    ∙ ap (λ j. drop j l) (sym sum)

-- ---- another word

pub other_word : (m : List ℕ) (at : ℕ) (bytes : List ℕ) (pc w : ℕ) → Lies m at (length bytes) → word_at m pc ≡ Ok w
    → (pc + 4 ≤ at) ⊎ (at + length bytes ≤ pc) → word_at (with_bytes m at bytes) pc ≡ Ok w
other_word m at bytes pc w t h apart =
    let none = fetched m pc w h in
    let p = lies_there m 4 pc 4 (omega arith) none in
    let lo : 65536 ≤ at = t.low in
    let hi : at + length bytes ≤ 65536 + length m = t.high in
    let plo : 65536 ≤ pc = p.low in
    let phi : pc + 4 ≤ 65536 + length m = p.high in
    let fits : at - 65536 + length bytes ≤ length m = omega arith in
    let same : length (with_bytes m at bytes) ≡ length m = put_length m bytes (at - 65536) fits in
    let there : Lies (with_bytes m at bytes) pc 4 = record { low = plo; high = omega (arith, phi, same) } in
    let read : take 4 (drop (pc - 65536) (with_bytes m at bytes)) ≡ take 4 (drop (pc - 65536) m) = by_side fits lo plo apart in
    ap (λ (f : Option MemFault). unless_fault f (little_endian (bytes_at (with_bytes m at bytes) pc 4)))
    (is_there (with_bytes m at bytes) pc (aligned_there m 4 pc 4 none) there)
    ∙ ap (λ l. Ok (little_endian l)) read
    ∙ sym (ap (λ (f : Option MemFault). unless_fault f (little_endian (bytes_at m pc 4))) none)
    ∙ h
  where
    by_side : at - 65536 + length bytes ≤ length m → 65536 ≤ at → 65536 ≤ pc → (pc + 4 ≤ at) ⊎ (at + length bytes ≤ pc)
        → take 4 (drop (pc - 65536) (with_bytes m at bytes)) ≡ take 4 (drop (pc - 65536) m)
    by_side fits lo plo (inl before) =
        let lt : pc - 65536 + 4 ≤ at - 65536 = omega (arith, before, lo, plo) in
        before_put m bytes (pc - 65536) 4 (at - 65536) fits lt
    by_side fits lo plo (inr after) =
        let lt : at - 65536 + length bytes ≤ pc - 65536 = omega (arith, after, lo, plo) in
        ap (take 4) (after_put m bytes (pc - 65536) (at - 65536) fits lt)

-- no bytes change nothing
pub no_bytes : (m : List ℕ) (at : ℕ) → with_bytes m at [] ≡ m
no_bytes m at =
    let e : at - 65536 + 0 ≡ at - 65536 = omega arith in
    append_assoc (take (at - 65536) m) [] (drop (at - 65536 + 0) m) ∙ ap (λ k. take (at - 65536) m ++ drop k m) e
    ∙ take-append-drop (at - 65536) m
