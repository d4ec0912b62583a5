pub returns : Rattle.stepping.proofs.laws.programs_end_with_codes.Goals.returns
returns c = Rattle.stepping.proofs.Exiting.ends_with_codes
