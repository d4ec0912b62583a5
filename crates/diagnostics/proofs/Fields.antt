-- Whether a field before a colon is a label.
use Rattle.diagnostics.proofs.Common.{false, is_name, label_before, List, None, refl, Some, true, ℕ, ◌≡◌}
use Rattle.byte_strings.specs.Blanks.{without_leading_blanks}

pub not_a_label : (field : List ℕ) → is_name (without_leading_blanks field) ≡ false → label_before field ≡ None
not_a_label field h = rw h refl

pub a_label : (field : List ℕ) → is_name (without_leading_blanks field) ≡ true → label_before field ≡ Some (without_leading_blanks field)
a_label field h = rw h refl
