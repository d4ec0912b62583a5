use Rattle.std.proofs.Common.{refl}
use Rattle.transport.specs.Serving.{DoorClosed, DoorFailed}
use Rattle.transport.proofs.ServingLemmas.{ends_idle}
use Rattle.transport.proofs.serving.poll_accept.Goals as goal

pub run_unattended-requires-clause-moves : goal.run_unattended-requires-clause-moves
run_unattended-requires-clause-moves g c = Rattle.transport.proofs.RoundLemmas.granted

pub returns-in-Ok-End-clause-outcome : goal.returns-in-Ok-End-clause-outcome
returns-in-Ok-End-clause-outcome g c =
    let ended = rw c.in-Ok-End.field-0-is at c.in-Ok-End.ensures.found in
    ends_idle DoorClosed (λ s. (refl, refl, λ st. st)) ended.0 (λ s st taken. ended.1)

pub returns-in-Err-clause-outcome : goal.returns-in-Err-clause-outcome
returns-in-Err-clause-outcome g c = ends_idle DoorFailed (λ s. (refl, refl, λ st. st)) c.in-Err.ensures.found (λ s st taken. tt)
