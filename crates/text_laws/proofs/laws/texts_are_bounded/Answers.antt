use Rattle.text_laws.proofs.Lengths.{texts_are_bounded}
use Rattle.text_laws.proofs.Sizes.{plain_texts_stand, texts_are_escaped}

pub returns : Rattle.text_laws.proofs.laws.texts_are_bounded.Goals.returns
returns c = record { messages = texts_are_bounded; texts = texts_are_escaped; plain = plain_texts_stand }
