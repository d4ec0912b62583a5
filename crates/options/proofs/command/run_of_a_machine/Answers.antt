pub returns : Rattle.options.proofs.command.run_of_a_machine.Goals.returns
returns c =
    let memory = c.told-command.ensures _ _ c.described.ensures c.memory.ensures.rule in
    c.told.ensures _ _ (c.told-command-2.ensures _ _ memory c.limit.ensures.rule) c.output_limit.ensures.rule
