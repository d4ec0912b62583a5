pub returns : Rattle.mirror.proofs.laws.cuts_do_not_matter.Goals.returns
returns c = Rattle.mirror.proofs.Lawful.cuts_do_not_matter
