-- What holds of every row of the table of refusals.
use Rattle.replies.proofs.Common.{[], and_parts, ap, are_ascii, Bool, false, if◌then◌else◌, IsUtf8, IsUtf8-are_ascii, List, list_all, ltb-true, nat_eq, nat_lt, refl, Refusal, Some, sym, true, ℕ, ◌<◌, ◌^◌, ◌∙◌, ◌∷◌, ◌≡◌}
use Rattle.protocol.specs.Refusals.{refusals, id_of, name_of, numbered_among, the_refusal_of_its_number}

-- a test that all in a list pass is passed by the one that is found in it
found_passes : (P : Refusal → Bool) (id : ℕ) (rs : List Refusal) (r : Refusal) → list_all P rs ≡ true → numbered_among id rs ≡ Some r
    → P r ≡ true
found_passes P id [] r h e = absurd cc
found_passes P id (q ∷ rs) r h e = let p = and_parts _ _ h in by_number (nat_eq (id_of q) id) p.0 e (found_passes P id rs r p.1) where
  by_number : (b : Bool) → P q ≡ true → (if b then Some q else numbered_among id rs) ≡ Some r → (numbered_among id rs ≡ Some r → P r ≡ true)
      → P r ≡ true
  by_number true first is rest = let same : q ≡ r = cc in ap P (sym same) ∙ first
  by_number false first is rest = rest is

-- a test that is computed for the whole table holds of each refusal
pub of_each : (P : Refusal → Bool) → list_all P refusals ≡ true → (r : Refusal) → P r ≡ true
of_each P h r = found_passes P (id_of r) refusals r h (the_refusal_of_its_number r)

-- the names are ASCII
pub text-name_of : (refusal : Refusal) → IsUtf8 (name_of refusal)
text-name_of refusal = IsUtf8-are_ascii (name_of refusal) (of_each (λ r. are_ascii (name_of r)) refl refusal)

-- the numbers are small
pub small-id_of : (refusal : Refusal) → id_of refusal < 2 ^ 64
small-id_of refusal = ltb-true _ _ (of_each (λ r. nat_lt (id_of r) (2 ^ 64)) refl refusal)
