pub returns : Rattle.statements.proofs.laws.parts_are_in_brackets.Goals.returns
returns c = Rattle.statements.proofs.Refused.no_parts
