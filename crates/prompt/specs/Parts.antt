-- Parts of a line, each with where it begins.
--
-- A part is some bytes of a line, and the column of the first: columns count bytes, from 1. Words are parted by blanks,
-- which are spaces and tabs.
use Rattle.std.specs.Prelude.{◌≡◌, ℕ, ◌+◌, ◌-◌, List, length, take, drop, reverse, Option, Some, None, codes, refl}
use Rattle.std.specs.List.{position, position_or_len}
use Rattle.byte_strings.specs.Blanks.{is_blank, trimmed, without_leading_blanks}

pub record Placed : Type 0 where
  pub text : List ℕ
  pub column : ℕ

-- a whole line
abbrev pub whole : List ℕ → Placed
whole line = record { text = line; column = 1 }

-- the column after a part
abbrev pub end : Placed → ℕ
end p = p.column + length p.text

-- the first bytes of a part, and what comes after them
abbrev pub prefix : ℕ → Placed → Placed
prefix count p = record { text = take count p.text; column = p.column }

abbrev pub suffix : ℕ → Placed → Placed
suffix count p = record { text = drop count p.text; column = p.column + count }

-- how many blanks a text begins with
abbrev pub leading_blanks : List ℕ → ℕ
leading_blanks text = length text - length (without_leading_blanks text)

-- a part without the blanks round it
abbrev pub bare : Placed → Placed
bare p = record { text = trimmed p.text; column = p.column + leading_blanks p.text }

-- a place in a text, or its end
abbrev pub or_end : List ℕ → Option ℕ → ℕ
or_end text None = length text
or_end text (Some place) = place

-- how many bytes the first word has
abbrev pub first_length : List ℕ → ℕ
first_length text = or_end text (position is_blank text)

-- the first word, and what comes after it
abbrev pub first_word : Placed → Placed
first_word p = prefix (first_length p.text) p

abbrev pub after_first : Placed → Placed
after_first p = bare (suffix (first_length p.text) p)

-- how many bytes come before the last word
abbrev pub last_start : List ℕ → ℕ
last_start text = length text - position_or_len is_blank (reverse text)

-- the last word, and what comes before it
abbrev pub last_word : Placed → Placed
last_word p = suffix (last_start p.text) p

abbrev pub before_last : Placed → Placed
before_last p = bare (prefix (last_start p.text) p)

-- ---- examples

example-bare : bare (whole (codes "  sp 4 ")) ≡ record { text = codes "sp 4"; column = 3 }
example-bare = refl

example-first : after_first (whole (codes "x  sp 4")) ≡ record { text = codes "sp 4"; column = 4 }
example-first = refl

example-last : last_word (whole (codes "sp + 8 4")) ≡ record { text = codes "4"; column = 8 }
example-last = refl
