pub returns : Rattle.rv32i.proofs.laws.instruction_is_unique.Goals.returns
returns c = λ word i j a b. Rattle.rv32i.proofs.Unique.one_instruction i j word a b
