pub returns : Rattle.options.proofs.command.convert.Goals.returns
returns c = c.told.ensures _ _ c.described-command.ensures c.file-text.ensures.rule
