-- The lines of labels, one after the other.
use Rattle.std.proofs.Common.{◌≡◌, ℕ, zero, suc, ◌+◌, ◌<◌, List, [], ◌∷◌, ◌++◌, drop, length, refl, sym, ap, ◌∙◌, arith, append_assoc}
use Rattle.std.specs.Prelude.{slice_get}
use Rattle.image.specs.Lines.{Label}
use Rattle.image.specs.declared.Image.{Image}
use Rattle.listing.specs.Labels.{line_if, lines_for}
use Rattle.listing.specs.declared.naming.LabelForm.{LabelForm}

-- the next line of those that are left
next : (f : LabelForm) (image : Image) (labels : List Label) (index : ℕ) → index < length labels
    → lines_for f image (drop index labels) ≡ line_if f image (slice_get labels index) ++ lines_for f image (drop (suc index) labels)
next f image [] index h = absurd (omega (arith, h))
next f image (label ∷ labels) zero h = refl
next f image (label ∷ labels) (suc index) h = next f image labels index (omega (arith, h))

pub one_more : (f : LabelForm) (image : Image) (labels : List Label) (index : ℕ) (all lines lines' : List ℕ) → index < length labels
    → all ≡ lines ++ lines_for f image (drop index labels) → lines' ≡ lines ++ line_if f image (slice_get labels index)
    → all ≡ lines' ++ lines_for f image (drop (index + 1) labels)
one_more f image labels index all lines lines' h e added =
    let s : suc index ≡ index + 1 = omega arith in
    e ∙ ap (λ t. lines ++ t) (next f image labels index h)
    ∙ sym (append_assoc lines (line_if f image (slice_get labels index)) (lines_for f image (drop (suc index) labels)))
    ∙ ap (λ t. t ++ lines_for f image (drop (suc index) labels)) (sym added) ∙ ap (λ n. lines' ++ lines_for f image (drop n labels)) s
