pub returns : Rattle.options.proofs.command.with_options.Goals.returns
returns c =
    let memory = c.told-command.ensures _ _ c.plain.ensures c.memory.ensures.rule in
    let listen = c.told-command-2.ensures _ _ memory c.listen.ensures.rule in
    let program = c.told-command-3.ensures _ _ listen c.program.ensures.rule in
    let once = c.told-command-4.ensures _ _ program c.once.ensures.rule in
    let verbose = c.told-command-5.ensures _ _ once c.verbose.ensures.rule in
    c.told.ensures _ _ verbose c.record.ensures.rule
