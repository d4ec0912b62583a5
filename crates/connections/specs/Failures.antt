-- What a failed call of a stream or of a door comes to.
--
-- POSIX, `read`: the error is EINTR where a signal came before any byte, and EAGAIN or EWOULDBLOCK where the descriptor
-- is non-blocking and the call would block. POSIX, `accept`: these two likewise, and ECONNABORTED where a connection was
-- aborted before it was accepted. Linux, accept(2): an error of the network that is pending on the connection is handed on
-- by the call, which is to be made again. All else, as the want of descriptors (EMFILE, ENFILE), is a fault.
use Rattle.std.specs.Prelude.{◌≡◌, ℕ, ℤ, pos, negsuc, ◌==◌, ◌||◌, Bool, true, false, Option, Some, None, Result, Ok, Err, IsOk, IsErrAnd, refl}
use Rattle.std.specs.declared.io.Error.{Error}
use Rattle.std.specs.declared.io.ErrorKind.{ErrorKind}
use Rattle.std.specs.declared.io.ErrorKind.TheVariants.{Interrupted, WouldBlock, ConnectionAborted, NetworkDown, NetworkUnreachable, HostUnreachable, Unsupported, Uncategorized}
use Rattle.std.specs.IoError.{error_kind, os_error_kind}
use Rattle.connections.specs.declared.failure.Failure.{Failure}
use Rattle.connections.specs.declared.failure.Failure.TheVariants.{Again, Nothing, Fault}

-- what a failed read comes to
abbrev pub failed_read : ErrorKind → Failure
failed_read Interrupted = Again
failed_read WouldBlock = Nothing
failed_read _ = Fault

-- The errors of the network that Linux hands on from the connection: ENETDOWN, ENETUNREACH and EHOSTUNREACH, which are kinds of
-- their own, and by their numbers ENONET, EPROTO, ENOPROTOOPT, EOPNOTSUPP and EHOSTDOWN.
abbrev pub is_of_network : Option ℤ → Bool
is_of_network (Some (pos n)) = (n == 64) || (n == 71) || (n == 92) || (n == 95) || (n == 112)
is_of_network (Some (negsuc n)) = false
is_of_network None = false

-- an accept whose connection has such an error is made again
abbrev pub failed_by_number : Bool → Failure
failed_by_number true = Again
failed_by_number false = Fault

-- what a failed accept comes to, by the kind and the number of its error
abbrev pub failed_accept : ErrorKind → Option ℤ → Failure
failed_accept Interrupted number = Again
failed_accept ConnectionAborted number = Again
failed_accept NetworkDown number = Again
failed_accept NetworkUnreachable number = Again
failed_accept HostUnreachable number = Again
failed_accept WouldBlock number = Nothing
failed_accept Unsupported number = failed_by_number (is_of_network number)
failed_accept Uncategorized number = failed_by_number (is_of_network number)
failed_accept _ number = Fault

-- what an accept comes to that failed with a number of Linux
abbrev pub failed_with : ℕ → Failure
failed_with number = failed_accept (os_error_kind (pos number)) (Some (pos number))

-- The want of descriptors, of the process and of the system, and of memory, is a fault: EMFILE, ENFILE, ENOMEM, ENOBUFS.
pub want_is_a_fault : (failed_with 24 ≡ Fault) × (failed_with 23 ≡ Fault) × (failed_with 12 ≡ Fault) × (failed_with 105 ≡ Fault)
unfolding os_error_kind
want_is_a_fault = (refl, refl, refl, refl)

-- The errors of the network: ENONET, EPROTO, ENOPROTOOPT, EOPNOTSUPP, ENETDOWN, ENETUNREACH, EHOSTDOWN, EHOSTUNREACH.
pub network_is_passed_over : (failed_with 64 ≡ Again) × (failed_with 71 ≡ Again) × (failed_with 92 ≡ Again) × (failed_with 95 ≡ Again)
    × (failed_with 100 ≡ Again) × (failed_with 101 ≡ Again) × (failed_with 112 ≡ Again) × (failed_with 113 ≡ Again)
unfolding os_error_kind
network_is_passed_over = (refl, refl, refl, refl, refl, refl, refl, refl)

-- whether a call with this failure is made again
abbrev pub is_made_again : Failure → Bool
is_made_again Again = true
is_made_again Nothing = false
is_made_again Fault = false

-- What a connection comes to, by whether it could be set to send at once, and by the second handle of it that is written
-- to. One that could not be set broke before it was accepted: so that of a peer that is gone. Where there is no second
-- handle, its error stays.
abbrev pub Connected : {A H W : Type 0} → Result A Error → Result H Error → Result W Error → Type 0
Connected (Ok nothing) (Ok handle) wire = IsOk wire
Connected (Ok nothing) (Err error) wire = wire ≡ Err error
Connected (Err error) handle wire = IsErrAnd wire (λ e. error_kind e ≡ ConnectionAborted)
