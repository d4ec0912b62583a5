use Rattle.transport.proofs.ServingLemmas.{stays_unattended, unattended_is_cut}
use Rattle.transport.proofs.serving.run_unattended.Goals as goal

pub returns-in-NoMemory-clause-outcome : goal.returns-in-NoMemory-clause-outcome
returns-in-NoMemory-clause-outcome g c past left old new m =
    unattended_is_cut _ c.slice.result c.requires.runnable (rw c.requires.moves at c.slice.ensures.stands) c.in-NoMemory.is m

pub returns-in_default-clause-outcome : goal.returns-in_default-clause-outcome
returns-in_default-clause-outcome g c past left old new m =
    stays_unattended c.slice.result c.requires.runnable (rw c.requires.moves at c.slice.ensures.stands) c.in_default.not-NoMemory m
    (rw c.requires.moves at c.tell.ensures)
