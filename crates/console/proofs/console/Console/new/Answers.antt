use Rattle.console.proofs.console.Console.new.Goals as goal

pub returns-in-Ok-clause-begins : goal.returns-in-Ok-clause-begins
returns-in-Ok-clause-begins c = rw c.begun.ensures.link c.in-Ok.ensures
