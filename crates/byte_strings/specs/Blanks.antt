-- The blanks of a text: spaces and tabs.
use Rattle.std.specs.Prelude.{◌≡◌, ℕ, Bool, ◌==◌, if◌then◌else◌, ◌||◌, List, [], ◌∷◌, reverse, codes, refl}

-- a space or a tab
abbrev pub is_blank : ℕ → Bool
is_blank b = (b == 32) || (b == 9)

-- the text without the blanks before it
abbrev pub without_leading_blanks : List ℕ → List ℕ
without_leading_blanks [] = []
without_leading_blanks (b ∷ text) = if is_blank b then without_leading_blanks text else b ∷ text

-- the text without the blanks after it
abbrev pub without_trailing_blanks : List ℕ → List ℕ
without_trailing_blanks text = reverse (without_leading_blanks (reverse text))

-- the text without the blanks round it
abbrev pub trimmed : List ℕ → List ℕ
trimmed text = without_trailing_blanks (without_leading_blanks text)

trimmed_of : trimmed (codes "  a b ") ≡ codes "a b"
trimmed_of = refl
