use Rattle.rv32i.proofs.Common.{IsDecodedAtPc, machine_of, subst}
use Rattle.rv32i.proofs.Moves.{carried}

pub returns-in-Some : Rattle.rv32i.proofs.hart.Hart.execute.Goals.returns-in-Some
returns-in-Some c =
    let before = machine_of c.args.self.now c.args.memory.now in
    let all = carried before c.in-Some.instr _ _ (subst (IsDecodedAtPc before) c.in-Some.is c.requires) c.carry_out.ensures in
    record { moves = all.moves; keeps = all.keeps; lacks = all.lacks }
