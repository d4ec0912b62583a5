-- Which errors of a read or a write pass by themselves.
--
-- POSIX, `read` and `write`: the error is EINTR where a signal came before any byte, and EAGAIN or EWOULDBLOCK where
-- the descriptor is non-blocking and the call would block. Nothing was read or written, and the same call may be made
-- again.
use Rattle.std.specs.Prelude.{◌≡◌, Bool, true, false, IsSome}
use Rattle.std.specs.IoError.{error_kind, raw_os_error}
use Rattle.std.specs.declared.io.Error.{Error}
use Rattle.std.specs.declared.io.ErrorKind.{ErrorKind}
use Rattle.std.specs.declared.io.ErrorKind.TheVariants.{Interrupted, WouldBlock}

-- whether errors of this kind do
abbrev pub passes : ErrorKind → Bool
passes Interrupted = true
passes WouldBlock = true
passes _ = false

-- whether one of this kind is that of a signal, after which the call can be made again without a wait
abbrev pub is_interrupted : ErrorKind → Bool
is_interrupted Interrupted = true
is_interrupted _ = false

-- an error that stays, with a number of the system, as those of a wait are
abbrev pub IsOfWait : Error → Type 0
IsOfWait error = IsSome (raw_os_error error) × (passes (error_kind error) ≡ false)
