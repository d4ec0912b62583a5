use Rattle.transport.proofs.Common.{ap, Err, refl, ◌∙◌}
use Rattle.transport.specs.Serving.{Refused}
use Rattle.transport.proofs.ServingLemmas.{ends_idle, refuses, is_connection, is_cut}
use Rattle.transport.proofs.serving.serve_connection.Goals as goal

pub returns-in_default-clause-outcome : goal.returns-in_default-clause-outcome
returns-in_default-clause-outcome g c old new m =
    rw c.in_default.ensures.err
    (ends_idle (Refused _) (λ s. (refl, refl, λ st. st)) m
    (λ s st taken. refuses c.in_default.field-0 (λ z. c.connect.ensures.takes_none (c.in_default.is ∙ ap Err z))
    (rw c.in_default.is at c.connect.ensures.stands) s st))

pub returns-in-Closed-clause-outcome : goal.returns-in-Closed-clause-outcome
returns-in-Closed-clause-outcome g c old new m s st =
    is_connection (rw c.in-Ok.is at c.connect.ensures.stands) c.drive_in-driven.ensures.drove c.tell.ensures m s st
    c.in-Closed.is

pub returns-in_default-end-clause-outcome : goal.returns-in_default-end-clause-outcome
returns-in_default-end-clause-outcome g c old new m =
    rw c.leave.ensures.end
    (λ s st. is_cut (rw c.in-Ok.is at c.connect.ensures.stands) c.drive_in-driven.ensures.drove c.tell.ensures m s st
    c.in_default-end.not-Closed c.in_default-end.not-Fault c.leave.ensures.dropped c.leave.ensures.told)
