use Rattle.options.specs.CommandLine.{command_line}

pub returns : Rattle.options.proofs.command.command.Goals.returns
unfolding command_line
returns c =
    let asm = c.added-command.ensures _ _ c.with_options-command.ensures c.asm.ensures in
    let watch = c.added-command-2.ensures _ _ asm c.watch.ensures in
    let run = c.added-command-3.ensures _ _ watch c.run.ensures in
    let check = c.added-command-4.ensures _ _ run c.check.ensures in
    let labels = c.added-command-5.ensures _ _ check c.labels.ensures in
    let convert = c.added-command-6.ensures _ _ labels c.convert.ensures in
    let replay = c.added-command-7.ensures _ _ convert c.replay.ensures in
    c.added.ensures _ _ replay c.debug.ensures
