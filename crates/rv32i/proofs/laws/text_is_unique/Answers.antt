pub returns : Rattle.rv32i.proofs.laws.text_is_unique.Goals.returns
returns c = Rattle.rv32i.proofs.OneText.one_text
