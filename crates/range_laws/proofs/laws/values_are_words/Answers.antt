use Rattle.range_laws.proofs.Values.{trees_have_words, values_are_words}

pub returns : Rattle.range_laws.proofs.laws.values_are_words.Goals.returns
returns c = record { numbers = trees_have_words; values = values_are_words }
