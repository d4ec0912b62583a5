-- The line of a text that has a number.
use Rattle.diagnostics.proofs.Common.{ap, arith, false, false_from_ne_true, get_or, is_utf8, IsUtf8, length, line_in, lines, List, None, numbered, Option, refl, slice_get, Some, suc, sym, true, zero, ℕ, ◌-◌, ◌<◌, ◌∙◌, ◌≡◌, ◌≤◌}
use Rattle.std.proofs.lemmas.Option.{slice_get-get_or, slice_get_past}
use Rattle.std.proofs.lemmas.Str.{IsUtf8-from_is_utf8, is_utf8-from_IsUtf8}

pub here : (all : List (List ℕ)) (passed count yielded : ℕ) (line : List ℕ) → passed ≡ count → passed ≡ yielded
    → (yielded < length all) × (line ≡ get_or all yielded line) → Some line ≡ slice_get all count
here all passed count yielded line e f (within, is) =
    let same : yielded ≡ count = sym f ∙ e in
    ap Some is ∙ sym (slice_get-get_or all yielded line within) ∙ ap (slice_get all) same

pub nowhere : (all : List (List ℕ)) (passed count yielded : ℕ) → passed ≡ yielded → passed ≤ count → yielded ≡ length all
    → None ≡ slice_get all count
nowhere all passed count yielded e few is = sym (slice_get_past all count (omega (arith, e, few, is)))

pub of_text : (text : List ℕ) (number : ℕ) (found : Option (List ℕ)) → IsUtf8 text → 0 < number
    → found ≡ slice_get (lines text) (number - 1)
    → found ≡ line_in text number
of_text text zero found u some e = absurd (omega (arith, some))
of_text text (suc n) found u some e =
    let valid : is_utf8 text ≡ true = is_utf8-from_IsUtf8 text u in
    let less : suc n - 1 ≡ n = omega arith in
    rw valid (e ∙ ap (slice_get (lines text)) less)

pub of_no_text : (text : List ℕ) (number : ℕ) → (IsUtf8 text → ⊥) → None ≡ line_in text number
of_no_text text zero u = refl
of_no_text text (suc n) u =
    let valid : is_utf8 text ≡ false = false_from_ne_true (is_utf8 text) (λ e. u (IsUtf8-from_is_utf8 text e)) in rw valid refl

pub numbered_at : (texts : List (List ℕ)) (number : ℕ) → (number ≡ 0 → ⊥) → numbered texts number ≡ slice_get texts (number - 1)
numbered_at texts zero some = absurd (some refl)
numbered_at texts (suc n) some = let less : n ≡ suc n - 1 = omega arith in ap (slice_get texts) less
