pub returns-in-NoMemory : Rattle.session.proofs.config.load.Goals.returns-in-NoMemory
returns-in-NoMemory c =
    Rattle.session.proofs.Whole.whole_memory c.args.text.now c.assemble.result c.in-Err.error c.in-Err.is c.in-NoMemory.is
    c.assemble.ensures.whole
