pub returns : Rattle.statements.proofs.laws.directives_state.Goals.returns
returns c = Rattle.statements.proofs.DataLines.directives_say
