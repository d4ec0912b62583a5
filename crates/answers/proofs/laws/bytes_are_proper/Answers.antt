use Rattle.answers.proofs.ProperLooks.{bytes_are_proper, entries_are_proper}

pub returns : Rattle.answers.proofs.laws.bytes_are_proper.Goals.returns
returns c = record { bytes = bytes_are_proper; entries = entries_are_proper }
