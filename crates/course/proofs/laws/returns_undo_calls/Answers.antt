use Rattle.course.proofs.Returning.{returns_keep_calls, returns_keep_depth}
use Rattle.course.proofs.laws.returns_undo_calls.Goals as goal

pub returns-clause-depth : goal.returns-clause-depth
returns-clause-depth c = returns_keep_depth

pub returns-clause-calls : goal.returns-clause-calls
returns-clause-calls c = returns_keep_calls
