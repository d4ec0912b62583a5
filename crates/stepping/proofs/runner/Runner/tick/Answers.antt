use Rattle.stepping.proofs.Going.{one_ends}
use Rattle.stepping.proofs.runner.Runner.tick.Goals as goal

pub returns-in-Ticked-clause-tick : goal.returns-in-Ticked-clause-tick
returns-in-Ticked-clause-tick c = rw c.in-Ticked.is at (one_ends _ _ c.run.result c.run.ensures.run)

pub returns-in-NoMemory-clause-err : goal.returns-in-NoMemory-clause-err
returns-in-NoMemory-clause-err c = (rw c.in-NoMemory.is at (one_ends _ _ c.run.result c.run.ensures.run)).0

pub returns-in-NoMemory-clause-lacks : goal.returns-in-NoMemory-clause-lacks
returns-in-NoMemory-clause-lacks c = (rw c.in-NoMemory.is at (one_ends _ _ c.run.result c.run.ensures.run)).1
