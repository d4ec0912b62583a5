pub returns : Rattle.session_laws.proofs.laws.cuts_do_not_matter.Goals.returns
returns c = Rattle.session_laws.proofs.Cuts.cuts_do_not_matter
