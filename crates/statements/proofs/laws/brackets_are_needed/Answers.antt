pub returns : Rattle.statements.proofs.laws.brackets_are_needed.Goals.returns
returns c = Rattle.statements.proofs.Refused.no_brackets
