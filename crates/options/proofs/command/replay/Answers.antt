pub returns : Rattle.options.proofs.command.replay.Goals.returns
returns c =
    let from = c.told-command.ensures _ _ c.described.ensures c.from.ensures.rule in
    let to = c.told-command-2.ensures _ _ from c.to.ensures.rule in
    c.told.ensures _ _ (c.told-command-3.ensures _ _ to c.facts.ensures.rule) c.file.ensures.rule
