-- What a look, a write and a knock come to, by what the call of the system said.
use Rattle.std.specs.Prelude.{◌≡◌, ◌≢◌, ℕ, zero, suc, Bool, true, false, Result, Ok, Err, IfErr}
use Rattle.std.specs.declared.io.Error.{Error}
use Rattle.std.specs.IoError.{error_kind, raw_os_error}
use Rattle.wires.specs.declared.wire.Received.{Received}
use Rattle.wires.specs.declared.wire.Received.TheVariants.{Bytes, Nothing, End}
use Rattle.wires.specs.declared.wire.WireFault.{WireFault}
use Rattle.wires.specs.declared.door.Came.{Came}
use Rattle.wires.specs.declared.door.Came.TheVariants.{Wire, Nothing as Nobody}
use Rattle.wires.specs.declared.door.DoorFault.{DoorFault}
use Rattle.connections.specs.Failures.{failed_read, failed_accept}
use Rattle.connections.specs.declared.failure.Failure.{Failure}
use Rattle.connections.specs.declared.failure.Failure.TheVariants.{Again, Nothing as Later, Fault}

-- a read that failed found nothing, or it is a fault
abbrev pub received_failed : Failure → Result Received WireFault
received_failed Again = Err (record {})
received_failed Later = Ok Nothing
received_failed Fault = Err (record {})

-- A read that gave nothing is at the end of the input, unless there was no room.
abbrev pub received : Result ℕ Error → Bool → Result Received WireFault
received (Ok (suc n)) has_room = Ok (Bytes (suc n))
received (Ok zero) true = Ok End
received (Ok zero) false = Ok (Bytes zero)
received (Err e) has_room = received_failed (failed_read (error_kind e))

-- What a look finds, by whether there is something to read: what a read gives that no signal interrupted, or nothing where
-- there is nothing yet; and a reader that cannot be asked is a fault.
abbrev pub Looked : Result Bool Error → Bool → Result Received WireFault → Type 0
Looked (Ok true) has_room found = (read : Result ℕ Error) × IfErr read (λ e. failed_read (error_kind e) ≢ Again)
    × (found ≡ received read has_room)
Looked (Ok false) has_room found = found ≡ Ok Nothing
Looked (Err error) has_room found = found ≡ Err (record {})

-- A write that took nothing is a fault, unless there was nothing to take.
abbrev pub sent : Result ℕ Error → Bool → Result ℕ WireFault
sent (Ok (suc n)) has_bytes = Ok (suc n)
sent (Ok zero) true = Err (record {})
sent (Ok zero) false = Ok zero
sent (Err e) has_bytes = Err (record {})

-- an accept that failed found nobody, or it is a fault
abbrev pub came_failed : {W : Type 0} → Failure → Result (Came W) DoorFault
came_failed Again = Err (record {})
came_failed Later = Ok Nobody
came_failed Fault = Err (record {})

-- an accept that succeeded gives its wire
abbrev pub came : {W : Type 0} → Result W Error → Result (Came W) DoorFault
came (Ok wire) = Ok (Wire wire)
came (Err e) = came_failed (failed_accept (error_kind e) (raw_os_error e))
