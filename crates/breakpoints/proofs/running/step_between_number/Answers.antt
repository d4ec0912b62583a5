use Rattle.std.proofs.Common.{ap, arith, Ok, sym, ◌-◌, ◌∷◌}
use Rattle.breakpoints.specs.Private.Flat.{made_between_number, stack_in}
use Rattle.breakpoints.proofs.Stacking.{done_with_one}

pub returns : Rattle.breakpoints.proofs.running.step_between_number.Goals.returns
returns c =
    done_with_one (made_between_number c.args.operator c.args.number) c.args.words.now c.args.depth _ 0
    (omega (arith, c.if-depth-eq0.false)) c.if-depth-words.false
    (ap (λ v. Ok (v ∷ stack_in c.args.words.now (c.args.depth - 1), 0)) (sym c.between.ensures))
