-- Texts without the spaces round them.
--
-- An editor may send a condition with spaces round it, or an empty one. Spaces (U+0020) are left out, and what is empty
-- then counts as absent. Tabs and line ends stay.
use Rattle.std.specs.Prelude.{◌≡◌, ℕ, ◌==◌, if◌then◌else◌, List, [], ◌∷◌, reverse, Option, Some, None, codes, refl}

-- the text without the spaces before it
abbrev pub without_leading_spaces : List ℕ → List ℕ
without_leading_spaces [] = []
without_leading_spaces (b ∷ text) = if b == 32 then without_leading_spaces text else b ∷ text

-- the text without the spaces after it
abbrev pub without_trailing_spaces : List ℕ → List ℕ
without_trailing_spaces text = reverse (without_leading_spaces (reverse text))

-- the text without the spaces round it
abbrev pub trimmed : List ℕ → List ℕ
trimmed text = without_trailing_spaces (without_leading_spaces text)

-- a text that is not empty
abbrev pub unless_empty : List ℕ → Option (List ℕ)
unless_empty [] = None
unless_empty (b ∷ text) = Some (b ∷ text)

-- what an argument says, if it is there and says something
abbrev pub said : Option (List ℕ) → Option (List ℕ)
said None = None
said (Some text) = unless_empty (trimmed text)

spaces_are_left_out : said (Some (codes "  a0 == 1 ")) ≡ Some (codes "a0 == 1")
spaces_are_left_out = refl

spaces_alone_say_nothing : said (Some (codes "   ")) ≡ None
spaces_alone_say_nothing = refl

a_tab_says_something : said (Some (codes " \t ")) ≡ Some (codes "\t")
a_tab_says_something = refl
