pub returns-clause-marked : Rattle.session_laws.proofs.laws.marked_retires_none.Goals.returns-clause-marked
returns-clause-marked c = Rattle.session_laws.proofs.Paused.marked_retires_none

pub returns-clause-pause : Rattle.session_laws.proofs.laws.marked_retires_none.Goals.returns-clause-pause
returns-clause-pause c = Rattle.session_laws.proofs.Paused.pause_marks
