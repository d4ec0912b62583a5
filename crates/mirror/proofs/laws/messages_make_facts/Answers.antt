pub returns : Rattle.mirror.proofs.laws.messages_make_facts.Goals.returns
returns c = Rattle.mirror.proofs.Lawful.messages_make_facts
