pub returns-clause-past : Rattle.session_laws.proofs.laws.past_is_remembered.Goals.returns-clause-past
returns-clause-past c = Rattle.session_laws.proofs.Retiring.past_is_remembered

pub returns-clause-frames : Rattle.session_laws.proofs.laws.past_is_remembered.Goals.returns-clause-frames
returns-clause-frames c = Rattle.session_laws.proofs.Retiring.frames_are_of_the_past
