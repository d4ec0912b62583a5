-- How many instructions may run, how many bytes may be printed, and how many of the last instructions are told: what may stand after
-- `--limit`, `--output-limit` and `--trace`, and what is meant by it.
--
-- It is a number in decimal digits: one or more of them and nothing else; leading zeros change nothing. It is from 0 to
-- 4,294,967,295. Where none is asked for there is no limit, and no instruction is told.
use Rattle.std.specs.Prelude.{◌≡◌, ℕ, List, Option, Some, None, Result, Ok, Err, codes, refl}
use Rattle.numerals.specs.Numerals.{numeral}
use Rattle.numerals.specs.declared.NumeralError.{NumeralError}

-- the limit that was read
abbrev pub read_limit : Result ℕ NumeralError → Option (Option ℕ)
read_limit (Ok limit) = Some (Some limit)
read_limit (Err error) = None

-- the limit that is asked for, where this text is given or none is
abbrev pub limit_for : Option (List ℕ) → Option (Option ℕ)
limit_for None = Some None
limit_for (Some text) = read_limit (numeral 10 text)

-- ---- examples

nothing : limit_for (Some (codes "0")) ≡ Some (Some 0)
nothing = refl

greatest : limit_for (Some (codes "4294967295")) ≡ Some (Some 4294967295)
greatest = refl

too_much : limit_for (Some (codes "4294967296")) ≡ None
too_much = refl

no_sign : limit_for (Some (codes "-1")) ≡ None
no_sign = refl
