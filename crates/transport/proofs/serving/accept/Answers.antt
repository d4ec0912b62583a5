use Rattle.std.proofs.Common.{refl}
use Rattle.transport.specs.Serving.{DoorClosed, DoorFailed}
use Rattle.transport.proofs.ServingLemmas.{ends_idle}
use Rattle.transport.proofs.serving.accept.Goals as goal

pub returns-in-Ok-None-clause-outcome : goal.returns-in-Ok-None-clause-outcome
returns-in-Ok-None-clause-outcome g c =
    let ended = rw c.in-Ok-None.field-0-is at c.in-Ok-None.ensures.found in
    ends_idle DoorClosed (λ s. (refl, refl, λ st. st)) ended.0 (λ s st taken. ended.1)

pub returns-in-Err-clause-outcome : goal.returns-in-Err-clause-outcome
returns-in-Err-clause-outcome g c = ends_idle DoorFailed (λ s. (refl, refl, λ st. st)) c.in-Err.ensures.found (λ s st taken. tt)
