pub returns : Rattle.framing.proofs.laws.cuts_do_not_matter.Goals.returns
returns c = Rattle.framing.proofs.Cutting.reading_of-append
