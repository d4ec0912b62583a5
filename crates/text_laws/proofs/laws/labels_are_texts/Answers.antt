use Rattle.text_laws.proofs.Labels.{labels_are_texts as labels_law, programs_are_short}

pub returns : Rattle.text_laws.proofs.laws.labels_are_texts.Goals.returns
returns c = record { labels = labels_law; short = programs_are_short }
