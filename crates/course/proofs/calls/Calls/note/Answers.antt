pub returns-in-Jal-clause-past : Rattle.course.proofs.calls.Calls.note.Goals.returns-in-Jal-clause-past
returns-in-Jal-clause-past c =
    Rattle.course.proofs.Standing.notes c.args.self.now c.note_jump.new.self c.args.instr.now c.args.pc c.note_jump.ensures
