pub returns : Rattle.options.proofs.command.watch.Goals.returns
returns c =
    let script = c.told.ensures _ _ c.described-command.ensures c.file-script.ensures.rule in
    c.told-3.ensures _ _ (c.told-2.ensures _ _ script c.word-connection.ensures.rule) c.word-bytes.ensures.rule
