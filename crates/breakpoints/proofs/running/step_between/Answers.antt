use Rattle.std.proofs.Common.{ap, Ok, sym, ◌-◌, ◌∷◌}
use Rattle.breakpoints.specs.Private.Flat.{made_between, stack_in}
use Rattle.breakpoints.proofs.Stacking.{done_with_two}

pub returns : Rattle.breakpoints.proofs.running.step_between.Goals.returns
returns c =
    done_with_two (made_between c.args.operator) c.args.words.now c.args.depth _ 0 c.if-depth-lt2.false c.if-depth-words.false
    (ap (λ v. Ok (v ∷ stack_in c.args.words.now (c.args.depth - 2), 0)) (sym c.between.ensures))
