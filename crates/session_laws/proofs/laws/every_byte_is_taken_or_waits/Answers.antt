pub returns : Rattle.session_laws.proofs.laws.every_byte_is_taken_or_waits.Goals.returns
returns c = Rattle.session_laws.proofs.Waiting.every_byte_is_taken_or_waits
