use Rattle.course.proofs.Common.{Position, refl}
use Rattle.course.proofs.Moving.{with_pc}

pub returns : Rattle.course.proofs.machine.Machine.set_pc.Goals.returns
returns c =
    let p : Position = record { hart = c.self.inside.hart; memory = c.self.inside.memory; calls = c.self.inside.calls } in
    with_pc p c.args.self.now _ c.self.view_is refl
