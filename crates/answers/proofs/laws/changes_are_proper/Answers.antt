use Rattle.answers.proofs.ProperValues.{settings_are_proper, writings_are_proper}

pub returns : Rattle.answers.proofs.laws.changes_are_proper.Goals.returns
returns c = record { settings = settings_are_proper; writings = writings_are_proper }
