use Rattle.transport.proofs.Common.{refl}
use Rattle.session.specs.declared.event.Applied.TheVariants as applied
use Rattle.transport.proofs.RoundLemmas.{happened, found_ok, found_err}
use Rattle.transport.proofs.rounds.take.Goals as goal

pub returns-in-Ok-clause-took : goal.returns-in-Ok-clause-took
returns-in-Ok-clause-took g c =
    rw c.taken.ensures.ok
    (λ s st. happened (λ _. applied.Recv) c.recv.result s (λ x. refl) c.recv.ensures.stands (found_ok c.in-Ok.is) st)

pub returns-in-NoMemory-clause-took : goal.returns-in-NoMemory-clause-took
returns-in-NoMemory-clause-took g c =
    rw c.leave.ensures.end (λ s st. (refl, c.leave.ensures.dropped s (rw c.in-Err.ensures.err st)))

pub returns-in_default-clause-took : goal.returns-in_default-clause-took
returns-in_default-clause-took g c =
    rw c.taken-in_default.ensures.ok
    (λ s st. happened (λ _. applied.Recv) c.recv.result s (λ x. refl) c.recv.ensures.stands
    (found_err c.in-Err.is c.in_default.not-NoMemory) st)
