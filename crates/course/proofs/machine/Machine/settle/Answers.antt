use Rattle.course.specs.Positions.{Position}
use Rattle.course.proofs.Moving.{with_pc}

pub returns-clause-rest : Rattle.course.proofs.machine.Machine.settle.Goals.returns-clause-rest
returns-clause-rest c =
    let p : Position = record { hart = c.self.inside.hart; memory = c.self.inside.memory; calls = c.self.inside.calls } in
    with_pc p c.args.self.now c.settle.new.self c.self.view_is c.settle.ensures.x
