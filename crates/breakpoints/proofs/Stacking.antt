-- The first words of an array as a stack.
use Rattle.std.proofs.Common.{ap, arith, get_or, if◌then◌else◌, length, List, Ok, refl, suc, sym, true, zero, ℕ, ◌-◌, ◌<◌, ◌∙◌, ◌∷◌, ◌≡◌, ◌≢◌, ◌≤◌}
use Rattle.std.proofs.lemmas.List.{get_or-set_other, get_or-set_same}
use Rattle.std.proofs.Math.ListN.{set}
use Rattle.rv32i.specs.Machine.{flag}
use Rattle.breakpoints.specs.Values.{decides, is_true}
use Rattle.breakpoints.specs.Private.Flat.{Made, made_decide, stack_in}
use Rattle.breakpoints.specs.declared.token.Infix.{Infix}

-- what is written above a stack leaves it as it is
kept : (words : List ℕ) (n i v : ℕ) → n ≤ i → stack_in (set words i v) n ≡ stack_in words n
kept words zero i v h = refl
kept words (suc n) i v h =
    let other : n ≢ i = λ e. omega (arith, h, e) in
    let low : n ≤ i = omega (arith, h) in
    ap (λ w. w ∷ stack_in (set words i v) n) (get_or-set_other words i n v 0 other) ∙ ap (λ s. get_or words n 0 ∷ s) (kept words n i v low)

-- a value that is written right above a stack is its top then
pub written : (words : List ℕ) (depth n v : ℕ) → depth ≡ suc n → n < length words → stack_in (set words n v) depth ≡ v ∷ stack_in words n
written words depth n v e h =
    ap (stack_in (set words n v)) e
    ∙ ap (λ w. w ∷ stack_in (set words n v) n) (get_or-set_same words n v 0 h)
    ∙ ap (λ s. v ∷ s) (kept words n n v (omega arith))

-- a stack that is not empty has a top
top_at : (words : List ℕ) (depth n : ℕ) → depth ≡ suc n → stack_in words depth ≡ get_or words n 0 ∷ stack_in words n
top_at words depth n e = ap (stack_in words) e

pub has_top : (words : List ℕ) (depth : ℕ) → 0 < depth → stack_in words depth ≡ get_or words (depth - 1) 0 ∷ stack_in words (depth - 1)
has_top words depth h = top_at words depth (depth - 1) (omega (arith, h))

-- what is done with the value on top
pub done_with_one : (f : List ℕ → Made) (words : List ℕ) (depth v n : ℕ) → 0 < depth → depth ≤ length words
    → f (get_or words (depth - 1) 0 ∷ stack_in words (depth - 1)) ≡ Ok (v ∷ stack_in words (depth - 1), n)
    → f (stack_in words depth) ≡ Ok (stack_in (set words (depth - 1) v) depth, n)
done_with_one f words depth v n h within e =
    ap f (has_top words depth h) ∙ e
    ∙ ap (λ s. Ok (s, n)) (sym (written words depth (depth - 1) v (omega (arith, h)) (omega (arith, h, within))))

-- and with the two on top
pub done_with_two : (f : List ℕ → Made) (words : List ℕ) (depth v n : ℕ) → 2 ≤ depth → depth ≤ length words
    → f (get_or words (depth - 1) 0 ∷ (get_or words (depth - 2) 0 ∷ stack_in words (depth - 2))) ≡ Ok (v ∷ stack_in words (depth - 2), n)
    → f (stack_in words depth) ≡ Ok (stack_in (set words (depth - 2) v) (depth - 1), n)
done_with_two f words depth v n h within e =
    let below = top_at words (depth - 1) (depth - 2) (omega (arith, h)) in
    ap f (has_top words depth (omega (arith, h)) ∙ ap (λ s. get_or words (depth - 1) 0 ∷ s) below) ∙ e
    ∙ ap (λ s. Ok (s, n)) (sym (written words (depth - 1) (depth - 2) v (omega (arith, h)) (omega (arith, h, within))))

-- the left side on top decides
pub decided : (operator : Infix) (over a v : ℕ) (below : List ℕ) → true ≡ decides operator a → v ≡ flag (is_true a)
    → made_decide operator over (a ∷ below) ≡ Ok (v ∷ below, over)
decided operator over a v below d e =
    ap (λ b. if b then Ok (flag (is_true a) ∷ below, over) else Ok (a ∷ below, 0)) (sym d) ∙ ap (λ w. Ok (w ∷ below, over)) (sym e)
