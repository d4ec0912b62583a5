-- What parts a text in two.
--
-- The words `if` and `hit` do where they stand after a blank, and a blank or nothing comes after them. The `=` of an
-- assignment does where it is no part of `==`, `!=`, `<=` or `>=`, and no character between quotes. Something stands
-- before each, and the first one counts.
use Rattle.std.specs.Prelude.{◌≡◌, ℕ, ◌+◌, ◌==◌, Bool, true, false, not, ◌&&◌, ◌||◌, if◌then◌else◌, List, [], ◌∷◌, length}
use Rattle.std.specs.Prelude.{take, drop, bytes_eq, Option, Some, None, codes, refl}
use Rattle.std.specs.Option.{option_map}
use Rattle.byte_strings.specs.Blanks.{is_blank}
use Rattle.prompt.specs.Parts.{Placed, bare, prefix, suffix, whole}
use Rattle.prompt.specs.declared.separator.Separator.{Separator}
use Rattle.prompt.specs.declared.separator.Separator.TheVariants.{If, Hit, Assignment}

-- how many bytes it has
abbrev pub count_of : Separator → ℕ
count_of If = 2
count_of Hit = 3
count_of Assignment = 1

-- whether a blank or nothing comes
abbrev pub ends_word : List ℕ → Bool
ends_word [] = true
ends_word (b ∷ text) = is_blank b

-- whether a text begins with a word
abbrev pub begins_word : List ℕ → List ℕ → Bool
begins_word word text = bytes_eq (take (length word) text) word && ends_word (drop (length word) text)

-- whether a text begins with an `=` that is neither doubled nor a character
abbrev pub begins_assignment : List ℕ → Bool
begins_assignment [] = false
begins_assignment (b ∷ []) = b == 61
begins_assignment (b ∷ c ∷ text) = (b == 61) && (not (c == 61) && not (c == 39))

-- a byte that makes an `=` after it a part of another sign, or a character
abbrev pub is_sign : ℕ → Bool
is_sign b = (b == 61) || ((b == 33) || ((b == 60) || ((b == 62) || (b == 39))))

-- whether a text that comes after this byte begins with such a separator
abbrev pub separates : Separator → ℕ → List ℕ → Bool
separates If b text = is_blank b && begins_word (codes "if") text
separates Hit b text = is_blank b && begins_word (codes "hit") text
separates Assignment b text = not (is_sign b) && begins_assignment text

-- how many bytes come before the first one
abbrev pub first_at : Separator → List ℕ → Option ℕ
first_at separator [] = None
first_at separator (b ∷ text) =
    if separates separator b text then Some 1 else option_map (λ at. 1 + at) (first_at separator text)

-- what comes before it, and after it; all, and nothing, where there is none
abbrev pub parted_at : ℕ → Placed → Option ℕ → Placed × Option Placed
parted_at count p None = (p, None)
parted_at count p (Some at) = (bare (prefix at p), Some (bare (suffix (at + count) p)))

abbrev pub parted : Separator → Placed → Placed × Option Placed
parted separator p = parted_at (count_of separator) p (first_at separator p.text)

-- ---- examples

a_condition : parted If (whole (codes "loop if a0 == 3"))
    ≡ (record { text = codes "loop"; column = 1 }, Some (record { text = codes "a0 == 3"; column = 9 }))
a_condition = refl

a_label_that_begins_so : parted If (whole (codes "iffy")) ≡ (whole (codes "iffy"), None)
a_label_that_begins_so = refl

an_assignment : parted Assignment (whole (codes "a0=5"))
    ≡ (record { text = codes "a0"; column = 1 }, Some (record { text = codes "5"; column = 4 }))
an_assignment = refl

a_comparison : parted Assignment (whole (codes "a0 == 5")) ≡ (whole (codes "a0 == 5"), None)
a_comparison = refl
