-- What `poll` is asked, and what its answer comes to (POSIX, `poll`).
use Rattle.std.specs.Prelude.{◌≡◌, zero, suc, ℤ, pos, negsuc, Bool, true, false, Some, Result, Ok, IsErrAnd}
use Rattle.std.specs.declared.io.Error.{Error}
use Rattle.std.specs.IoError.{os_error_kind, raw_os_error}
use Rattle.blocking_io.specs.Passing.{passes}
use Rattle.blocking_io.specs.declared.ready.Direction.{Direction}
use Rattle.blocking_io.specs.declared.ready.Direction.TheVariants.{Read, Write}

-- the event that is waited for: POLLIN, POLLOUT
abbrev pub events_of : Direction → ℤ
events_of Read = pos 1
events_of Write = pos 4

-- Whether the wait has ended, by the answer of `poll` and the number of its error: a descriptor is ready (or broken,
-- which the next call tells), or the error passes.
abbrev pub has_ended : ℤ → ℤ → Bool
has_ended (pos count) errno = true
has_ended (negsuc n) errno = passes (os_error_kind errno)

-- Whether a descriptor is ready, by the answer of a `poll` whose wait has a limit: it counts the descriptors that are. A
-- broken one is, too.
abbrev pub is_ready : ℤ → Bool
is_ready (pos zero) = false
is_ready (pos (suc n)) = true
is_ready (negsuc n) = false

-- A failed one found nothing where its error passes, and else that error is told.
abbrev pub FoundByFailed : Bool → ℤ → Result Bool Error → Type 0
FoundByFailed true errno found = found ≡ Ok false
FoundByFailed false errno found = IsErrAnd found (λ e. raw_os_error e ≡ Some errno)

-- What a `poll` whose wait has a limit found: whether the descriptor is ready.
abbrev pub Found : ℤ → ℤ → Result Bool Error → Type 0
Found (pos count) errno found = found ≡ Ok (is_ready (pos count))
Found (negsuc n) errno found = FoundByFailed (passes (os_error_kind errno)) errno found
