-- How often a call is made again that failed, and did nothing, where its error passes.
--
-- A signal may come at any call, and how many do is not known beforehand. So a call is made again up to a last time
-- that no machine gets to, and only then given up.
use Rattle.std.specs.Prelude.{◌≡◌, ℕ, ◌+◌, ◌<◌, ◌⊎◌, Bool, true, false, Result, Ok, Err}
use Rattle.std.specs.declared.io.Error.{Error}
use Rattle.std.specs.declared.io.ErrorKind.TheVariants.{TimedOut}
use Rattle.std.specs.IoError.{error_kind}

-- how often at most
abbrev pub most_retries : ℕ
most_retries = 18446744073709551615

-- After an error that passes, or one that does not: the call is made again, and one more is counted, or an error stays, which
-- is another than the call's only where as many were counted as there may be.
abbrev pub IsAfter : {A : Type 0} → ℕ → Error → Bool → Result A Error → ℕ → Type 0
IsAfter before error false (Ok nothing) after = ⊥
IsAfter before error false (Err stays) after = (stays ≡ error) × (after ≡ before)
IsAfter before error true (Ok nothing) after = (before < most_retries) × (after ≡ before + 1)
IsAfter before error true (Err stays) after = (before ≡ most_retries) × (error_kind stays ≡ TimedOut) × (after ≡ before)

-- An error that stays, of a call that was made again this often: it is one of these, or the call was made again as often as it may be.
abbrev pub Stays : (Error → Type 0) → ℕ → Error → Type 0
Stays fails_with count error = fails_with error ⊎ (count ≡ most_retries)
