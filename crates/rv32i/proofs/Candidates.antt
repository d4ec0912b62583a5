-- A text that names a register has it as its candidate.
use Rattle.rv32i.proofs.Common.{ap, arith, Bool, codes, false, inl, inr, List, name_of, NameIsUnique, Names, nat_tests, numbered_name_of, refl, subst, suc, sym, true, zero, ℕ, ◌%◌, ◌&&◌, ◌<◌, ◌==◌, ◌∙◌, ◌≡◌, ◌⊎◌}
use Rattle.rv32i.specs.Private.Candidates.{candidate}

and_left : (x y : Bool) → (x && y) ≡ true → x ≡ true
and_left true y h = refl
and_left false y h = h

and_right : (x y : Bool) → (x && y) ≡ true → y ≡ true
and_right true y h = h
and_right false y h = cc

-- a test of each number below another
all_below : ℕ → (ℕ → Bool) → Bool
all_below zero p = true
all_below (suc k) p = p k && all_below k p

all_below_at : (p : ℕ → Bool) (k n : ℕ) → all_below k p ≡ true → n < k → p n ≡ true
unfolding all_below
all_below_at p zero n h l = absurd (omega arith)
all_below_at p (suc k) n h l =
    let P : Bool → Type 0 = λ t. (n == k) ≡ t → p n ≡ true in
    let go : P (n == k) = elim (n == k) as P [
      | true ↦ λ t. let e : n ≡ k = grind (arith, nat_tests) in ap p e ∙ and_left (p k) _ h
      | false ↦ λ t. let l : n < k = grind (arith, nat_tests) in all_below_at p k n (and_right (p k) _ h) l
    ] in go refl

-- each register is the candidate of both its names
right_at : ℕ → Bool
right_at n = (candidate (name_of n) % 32 == n) && (candidate (numbered_name_of n) % 32 == n)

right : all_below 32 right_at ≡ true
unfolding all_below right_at
right = refl

right_below : (n : ℕ) → n < 32 → right_at n ≡ true
right_below n l = all_below_at right_at 32 n right l

of_name : (name : List ℕ) (n : ℕ) → n < 32 → name ≡ name_of n → candidate name % 32 ≡ n
unfolding right_at
of_name name n l e =
    let t : (candidate (name_of n) % 32 == n) ≡ true = and_left _ _ (right_below n l) in ap (λ text. candidate text % 32) e
    ∙ grind (arith, nat_tests)

of_numbered_name : (name : List ℕ) (n : ℕ) → n < 32 → name ≡ numbered_name_of n → candidate name % 32 ≡ n
unfolding right_at
of_numbered_name name n l e =
    let t : (candidate (numbered_name_of n) % 32 == n) ≡ true = and_right (candidate (name_of n) % 32 == n) _ (right_below n l) in
    ap (λ text. candidate text % 32) e ∙ grind (arith, nat_tests)

-- so what is no name of its candidate names none
pub names_none : (name : List ℕ) (k : ℕ) → k ≡ candidate name % 32 → (name ≡ codes "fp" → ⊥) → (name ≡ name_of k → ⊥)
    → (name ≡ numbered_name_of k → ⊥) → (n : ℕ) → Names name n → ⊥
names_none name k same fp plain numbered n h = elim h.1 [
  | inl e ↦ plain (e ∙ ap name_of (sym (same ∙ of_name name n h.0 e)))
  | inr others ↦ (elim others [ inl e ↦ numbered (e ∙ ap numbered_name_of (sym (same ∙ of_numbered_name name n h.0 e))) | inr p ↦ fp p.0 ])
]

-- no register has `fp` in a table
no_fp : (n : ℕ) → n < 32 → (codes "fp" ≡ name_of n → ⊥) × (codes "fp" ≡ numbered_name_of n → ⊥)
no_fp n l = (
  λ e. differs (subst (λ k. codes "fp" ≡ name_of k) (sym (of_name _ n l e)) e),
  λ e. differs_too (subst (λ k. codes "fp" ≡ numbered_name_of k) (sym (of_numbered_name _ n l e)) e),
) where
  differs : codes "fp" ≡ name_of (candidate (codes "fp") % 32) → ⊥
  differs e = cc

  differs_too : codes "fp" ≡ numbered_name_of (candidate (codes "fp") % 32) → ⊥
  differs_too e = cc

-- a name is in a table, and then of its candidate; or it is `fp`
in_table : (name : List ℕ) (n : ℕ) → Names name n
    → ((candidate name % 32 ≡ n) × (name ≡ codes "fp" → ⊥)) ⊎ ((name ≡ codes "fp") × (n ≡ 8))
in_table name n h = elim h.1 [
  | inl e ↦ inl (of_name name n h.0 e, λ fp. (no_fp n h.0).0 (sym fp ∙ e))
  | inr others ↦ elim others [
    | inl e ↦ inl (of_numbered_name name n h.0 e, λ fp. (no_fp n h.0).1 (sym fp ∙ e))
    | inr p ↦ inr p
  ]
]

pub one_register : NameIsUnique
one_register name n other h k = by (in_table name n h) (in_table name other k) where
  by : ((candidate name % 32 ≡ n) × (name ≡ codes "fp" → ⊥)) ⊎ ((name ≡ codes "fp") × (n ≡ 8))
      → ((candidate name % 32 ≡ other) × (name ≡ codes "fp" → ⊥)) ⊎ ((name ≡ codes "fp") × (other ≡ 8)) → n ≡ other
  by (inl p) (inl q) = sym p.0 ∙ q.0
  by (inl p) (inr q) = absurd (p.1 q.0)
  by (inr p) (inl q) = absurd (q.1 p.0)
  by (inr p) (inr q) = p.1 ∙ sym q.1
