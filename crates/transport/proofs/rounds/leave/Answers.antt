use Rattle.transport.proofs.Common.{refl}
use Rattle.session.specs.declared.event.Applied.TheVariants as applied

pub returns-clause-dropped : Rattle.transport.proofs.rounds.leave.Goals.returns-clause-dropped
returns-clause-dropped g c s st =
    Rattle.transport.proofs.RoundLemmas.happened (λ _. applied.DropConnection) c.drop_connection.result s (λ x. refl)
    c.drop_connection.ensures.stands c.drop_connection.ensures.takes_none st
