pub returns : Rattle.options.proofs.command.debug.Goals.returns
returns c =
    let memory = c.told-command.ensures _ _ c.described.ensures c.memory.ensures.rule in
    c.told.ensures _ _ (c.told-command-2.ensures _ _ memory c.commands.ensures.rule) c.file-text.ensures.rule
