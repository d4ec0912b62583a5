use Rattle.course.specs.Private.Moves.{moves_of}
use Rattle.course.proofs.Coursing.{gone}
use Rattle.course.proofs.course.Course.quick.Goals as goal

pub invariant_of-self : goal.invariant_of-self
invariant_of-self c =
    (gone c.args.pc c.self.inside.machine c.quick.new.self c.args.self.now (moves_of c.self.inside.log) (moves_of c.quick.new.log) c.quick.result
    c.self.view_is c.self.invariant c.quick.ensures).kept

pub returns : goal.returns
returns c =
    (gone c.args.pc c.self.inside.machine c.quick.new.self c.args.self.now (moves_of c.self.inside.log) (moves_of c.quick.new.log) c.quick.result
    c.self.view_is c.self.invariant c.quick.ensures).goes
