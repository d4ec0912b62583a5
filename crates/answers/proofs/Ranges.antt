-- Part of a list, by the indices of its first element and of the one after its last.
use Rattle.answers.proofs.Common.{[], ap, arith, Bool, cond, drop, end_in, eqb, false, first_in, length, length-drop, List, min, None, Option, part, range_with_len, refl, Some, suc, sym, take, take_all, true, zero, ℕ, ◌+◌, ◌-◌, ◌∙◌, ◌∷◌, ◌≡◌, ◌≤◌}

drop_none : {A : Type 0} (n : ℕ) → drop {A = A} n [] ≡ []
drop_none zero = refl
drop_none (suc n) = refl

take_none : {A : Type 0} (n : ℕ) → take {A = A} n [] ≡ []
take_none zero = refl
take_none (suc n) = refl

-- what is taken and dropped of a list that is too short
pub drop_min : {A : Type 0} (n : ℕ) (l : List A) → drop (min n (length l)) l ≡ drop n l
drop_min zero l = let e : min 0 (length l) ≡ 0 = omega arith in ap (λ (k : ℕ). drop k l) e
drop_min {A = A} (suc n) [] = drop_none {A = A} (min (suc n) (length {A = A} []))
drop_min {A = A} (suc n) (x ∷ l) =
    let e : min (suc n) (suc (length l)) ≡ suc (min n (length l)) = omega arith in
    ap (λ (k : ℕ). drop k (x ∷ l)) e ∙ drop_min {A = A} n l

pub take_min : {A : Type 0} (n : ℕ) (l : List A) → take (min (length l) n) l ≡ take n l
take_min zero l = let e : min (length l) 0 ≡ 0 = omega arith in ap (λ (k : ℕ). take k l) e
take_min {A = A} (suc n) [] = take_none {A = A} (min (length {A = A} []) (suc n))
take_min {A = A} (suc n) (x ∷ l) =
    let e : min (suc (length l)) (suc n) ≡ suc (min (length l) n) = omega arith in
    ap (λ (k : ℕ). take k (x ∷ l)) e ∙ ap (λ (m : List A). x ∷ m) (take_min {A = A} n l)

pub drop_take : {A : Type 0} (n k : ℕ) (l : List A) → drop n (take (n + k) l) ≡ take k (drop n l)
drop_take zero k l = let e : 0 + k ≡ k = omega arith in ap (λ (m : ℕ). take m l) e
drop_take {A = A} (suc n) k [] =
    ap (λ (m : List A). drop (suc n) m) (take_none {A = A} (suc n + k)) ∙ sym (take_none {A = A} k)
drop_take {A = A} (suc n) k (x ∷ l) =
    let e : suc n + k ≡ suc (n + k) = omega arith in
    ap (λ (m : ℕ). drop (suc n) (take m (x ∷ l))) e ∙ drop_take {A = A} n k l

-- all of a list from an index on
to_end : {A : Type 0} (start : ℕ) (l : List A) → drop (first_in start (length l)) (take (length l) l) ≡ drop start l
to_end {A = A} start l =
    ap (λ (m : List A). drop (first_in start (length l)) m) (take_all (length l) l (omega arith)) ∙ drop_min {A = A} start l

-- this many elements from an index on
some : {A : Type 0} (start count : ℕ) (l : List A)
    → drop (first_in start (length l)) (take (min (length l) (first_in start (length l) + count)) l) ≡ take count (drop start l)
some {A = A} start count l =
    let first : ℕ = min start (length l) in
    let rest : List A = drop first l in
    let long : length rest ≡ length l - first = length-drop first l in
    let end : min (length l) (first + count) ≡ first + min (length rest) count = omega (arith, long) in
    ap (λ (n : ℕ). drop first (take n l)) end ∙ drop_take {A = A} first (min (length rest) count) l
    ∙ take_min {A = A} count rest ∙ ap (λ (m : List A). take count m) (drop_min {A = A} start l)

pub part_is : {A : Type 0} (start : ℕ) (count : Option ℕ) (l : List A)
    → drop (first_in start (length l)) (take (end_in (first_in start (length l)) count (length l)) l) ≡ part start count l
part_is {A = A} start None l = to_end {A = A} start l
part_is {A = A} start (Some count) l = by (eqb count 0) where
  by : (b : Bool)
      → drop (first_in start (length l)) (take (cond b (length l) (min (length l) (first_in start (length l) + count))) l) ≡ cond b (drop start l) (take count (drop start l))
  by true = to_end {A = A} start l
  by false = some {A = A} start count l

-- as the code cuts it
pub cut : {A : Type 0} (start : ℕ) (count : Option ℕ) (l : List A) (n m first end : ℕ) → n ≡ length l → m ≡ length l
    → first ≡ first_in start n → end ≡ end_in first count m → drop first (take end l) ≡ part start count l
cut {A = A} start count l n m first end long also begins ends =
    let from : first ≡ first_in start (length l) = begins ∙ ap (first_in start) long in
    ap (λ (k : ℕ). drop first (take k l)) (ends ∙ ap (end_in first count) also)
    ∙ ap (λ (k : ℕ). drop k (take (end_in k count (length l)) l)) from ∙ part_is {A = A} start count l

-- ---- of numbers that follow each other

drop_range : (n k from : ℕ) → drop n (range_with_len from k) ≡ range_with_len (from + n) (k - n)
drop_range zero k from =
    let e : from ≡ from + 0 = omega arith in
    let all : k ≡ k - 0 = omega arith in
    ap (λ (m : ℕ). range_with_len m k) e ∙ ap (range_with_len (from + 0)) all
drop_range (suc n) zero from = let none : 0 ≡ 0 - suc n = omega arith in ap (range_with_len (from + suc n)) none
drop_range (suc n) (suc k) from =
    let e : from + 1 + n ≡ from + suc n = omega arith in
    let left : k - n ≡ suc k - suc n = omega arith in
    drop_range n k (from + 1) ∙ ap (λ (m : ℕ). range_with_len m (k - n)) e ∙ ap (range_with_len (from + suc n)) left

take_range : (n k from : ℕ) → n ≤ k → take n (range_with_len from k) ≡ range_with_len from n
take_range zero k from h = refl
take_range (suc n) zero from h = absurd (omega (arith, h))
take_range (suc n) (suc k) from h = ap (λ (l : List ℕ). from ∷ l) (take_range n k (from + 1) (omega (arith, h)))

pub length_range : (k from : ℕ) → length (range_with_len from k) ≡ k
length_range zero from = refl
length_range (suc k) from = let e : length (range_with_len (from + 1) k) ≡ k = length_range k (from + 1) in omega (arith, e)

pub range_part : (start : ℕ) (count : Option ℕ) (total end : ℕ) → end ≡ end_in (first_in start total) count total → end ≤ total
    → range_with_len (first_in start total) (end - first_in start total) ≡ part start count (range_with_len 0 total)
range_part start count total end e within =
    let l : List ℕ = range_with_len 0 total in
    let long : length l ≡ total = length_range total 0 in
    let first : ℕ = first_in start total in
    let zero_on : first ≡ 0 + first = omega arith in
    let taken : take end l ≡ range_with_len 0 end = take_range end total 0 within in
    ap (λ (n : ℕ). range_with_len n (end - first)) zero_on ∙ sym (drop_range first end 0) ∙ ap (drop first) (sym taken)
    ∙ ap (λ (n : ℕ). drop first (take n l)) e
    ∙ ap (λ (n : ℕ). drop (first_in start n) (take (end_in (first_in start n) count n) l)) (sym long)
    ∙ part_is {A = ℕ} start count l
