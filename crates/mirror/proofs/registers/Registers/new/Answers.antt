pub returns : Rattle.mirror.proofs.registers.Registers.new.Goals.returns
returns c = Rattle.mirror.proofs.Maps.nothing_in 33
