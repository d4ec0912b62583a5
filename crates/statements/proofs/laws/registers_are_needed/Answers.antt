pub returns : Rattle.statements.proofs.laws.registers_are_needed.Goals.returns
returns c = Rattle.statements.proofs.Refused.no_registers
