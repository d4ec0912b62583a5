use Rattle.rv32i.proofs.Common.{IsDecodedAtPc, machine_of, subst}
use Rattle.rv32i.proofs.Undoing.{kept_undoes}

pub returns-in-Some : Rattle.rv32i.proofs.undo.undo_of.Goals.returns-in-Some
returns-in-Some c =
    let decoded = subst (λ i. IsDecodedAtPc (machine_of c.args.hart.now c.args.memory.now) i) c.in-Some.is c.requires in
    kept_undoes c.in-Some.instr _ c.undo_at.result decoded c.undo_at.ensures
