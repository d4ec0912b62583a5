pub returns : Rattle.options.proofs.command.labels.Goals.returns
returns c = c.told.ensures _ _ (c.told-command.ensures _ _ c.described.ensures c.json.ensures.rule) c.file-text.ensures.rule
