use Rattle.answers.proofs.ProperValues.{settings_keep_words, writings_fit}

pub returns : Rattle.answers.proofs.laws.changes_fit.Goals.returns
returns c = record { settings = settings_keep_words; writings = writings_fit }
