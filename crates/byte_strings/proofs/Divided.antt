-- A text divided at a byte.
use Rattle.std.proofs.Common.{[], arith, count_by, false, length, List, ltb-false, nat_lt, None, Option, position, refl, Some, ℕ, ◌+◌, ◌==◌, ◌∷◌, ◌≡◌}
use Rattle.std.proofs.lemmas.Bool.{cond_both, false_from_ne_true}
use Rattle.std.proofs.lemmas.Bool.Decides.{nat_tests}
use Rattle.std.proofs.lemmas.List.Elements.{All-from_get_or}
use Rattle.std.proofs.lemmas.List.Splits.{length-slice_split, slice_split_first, slice_split_none}
use Rattle.std.proofs.lemmas.List.Sums.{fails_before_first, position_or_len_is}
use Rattle.std.specs.List.{position_or_len, slice_split}
use Rattle.memchr.specs.Find.{IsFirstByte, is_byte}
use Rattle.byte_strings.specs.Fields.{fields, parted, parted_at}

-- where the first of a byte is, as it is searched for
pub searched : (byte : ℕ) (text : List ℕ) (found : Option ℕ) → IsFirstByte (is_byte byte) text found → found ≡ position (λ b. b == byte) text
searched byte text None nowhere =
    let at : position_or_len (λ b. b == byte) text ≡ length text = position_or_len_is (λ b. b == byte) text (length text) 0 (omega arith)
    (λ k l. false_from_ne_true _ (nowhere k (omega arith) l)) (λ l. absurd (omega arith)) in
    grind (arith, nat_tests)
searched byte text (Some i) (before, is) =
    let at : position_or_len (λ b. b == byte) text ≡ i = position_or_len_is (λ b. b == byte) text i 0 (omega (arith, before.high))
    (λ k l. false_from_ne_true _ (before.before k (omega arith) l)) (λ l. is) in
    grind (arith, nat_tests, before.high)

pub fields_none : (byte : ℕ) (text : List ℕ) → parted byte text ≡ None → fields byte text ≡ text ∷ []
fields_none byte text h =
    let at : ℕ = position_or_len (λ b. b == byte) text in
    cond_both (nat_lt at (length text)) (Some at) None (λ o. parted_at text o ≡ None → fields byte text ≡ text ∷ []) (λ t e. cc)
    (λ t e. slice_split_none (λ b. b == byte) text (All-from_get_or (λ b. (b == byte) ≡ false) text 0
    (λ i l. fails_before_first (λ b. b == byte) text i 0 (omega (arith, ltb-false at (length text) t))))) h

pub fields_some : (byte : ℕ) (text prefix after : List ℕ) → parted byte text ≡ Some (prefix, after)
    → fields byte text ≡ prefix ∷ fields byte after
fields_some byte text prefix after h = grind (arith, nat_tests, slice_split_first (λ b. b == byte) text 0)

-- there is always a first field
pub shape : (byte : ℕ) (text : List ℕ) → (first : List ℕ) × (others : List (List ℕ)) × (fields byte text ≡ first ∷ others)
shape byte text = shaped (slice_split (λ b. b == byte) text) (length-slice_split (λ b. b == byte) text) where
  shaped : (list : List (List ℕ)) → length list ≡ count_by (λ b. b == byte) text + 1
      → (first : List ℕ) × (others : List (List ℕ)) × (list ≡ first ∷ others)
  shaped [] h = absurd (omega (arith, h))
  shaped (first ∷ others) h = (first, others, refl)

-- how much of a text is left
abbrev pub left : Option (List ℕ) → ℕ
left None = 0
left (Some text) = length text + 1
