-- How much memory a machine gets: what may stand after `--memory`, and what is meant by it.
--
-- It is a number of KiB, 1,024 bytes each, in decimal digits: one or more of them and nothing else, so no sign, no blank
-- and no `0x`; leading zeros change nothing. The number is a multiple of 4, from 4 to 16,384.
use Rattle.std.specs.Prelude.{◌≡◌, ℕ, ◌%◌, ◌==◌, ◌&&◌, ◌≤◌, Bool, List, Option, Some, None, Result, Ok, Err, codes, if◌then◌else◌, nat_le, refl}
use Rattle.std.specs.Str.Parse.{IsNumeral, digits_value}
use Rattle.numerals.specs.Numerals.{numeral}
use Rattle.numerals.specs.declared.NumeralError.{NumeralError}

-- how much it is where none is asked for: 1 MiB
abbrev pub default_memory : ℕ
default_memory = 1024

-- a number of KiB that may be asked for
pub record IsOffered (kib : ℕ) : Type 0 where
  pub least : 4 ≤ kib
  pub greatest : kib ≤ 16384
  pub whole : kib % 4 ≡ 0

-- whether it is one
abbrev pub is_offered : ℕ → Bool
is_offered kib = (kib % 4 == 0) && nat_le 4 kib && nat_le kib 16384

-- the number that was read, where it may be asked for
abbrev pub offered : Result ℕ NumeralError → Option ℕ
offered (Ok kib) = if is_offered kib then Some kib else None
offered (Err error) = None

-- the KiB that a text asks for
abbrev pub kib_in : List ℕ → Option ℕ
kib_in text = offered (numeral 10 text)

-- the KiB that are asked for, where this text is given or none is
abbrev pub kib_for : Option (List ℕ) → Option ℕ
kib_for None = Some default_memory
kib_for (Some text) = kib_in text

-- ---- the same by the rules above

-- a text asks for this many KiB
pub record AsksFor (text : List ℕ) (kib : ℕ) : Type 0 where
  pub written : IsNumeral 10 text
  pub is_offered : IsOffered (digits_value 10 text)
  pub value : kib ≡ digits_value 10 text

-- The answer is what the text asks for; and there is none only where it asks for nothing.
abbrev pub Answers : List ℕ → Option ℕ → Type 0
Answers text (Some kib) = AsksFor text kib
Answers text None = (kib : ℕ) → ¬ AsksFor text kib

-- ---- examples

least : kib_in (codes "4") ≡ Some 4
least = refl

greatest : kib_in (codes "16384") ≡ Some 16384
greatest = refl

leading_zeros : kib_in (codes "008") ≡ Some 8
leading_zeros = refl

no_sign : kib_in (codes "+8") ≡ None
no_sign = refl

no_multiple : kib_in (codes "5") ≡ None
no_multiple = refl

too_much : kib_in (codes "16388") ≡ None
too_much = refl
