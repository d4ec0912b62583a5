pub returns : Rattle.options.proofs.command.run.Goals.returns
returns c =
    let count = c.told-command.ensures _ _ c.run_of_a_machine.ensures c.count.ensures.rule in
    let registers = c.told-command-2.ensures _ _ count c.registers.ensures.rule in
    c.told.ensures _ _ (c.told-command-3.ensures _ _ registers c.trace.ensures.rule) c.files-texts.ensures.rule
