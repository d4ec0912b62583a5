use Rattle.range_laws.proofs.Settings.{registers_stay_in_range, texts_give_words}

pub returns : Rattle.range_laws.proofs.laws.settings_are_in_range.Goals.returns
returns c = record { values = texts_give_words; registers = registers_stay_in_range }
