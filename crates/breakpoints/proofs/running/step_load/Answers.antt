use Rattle.std.proofs.Common.{ap, arith, sym, ◌-◌, ◌∙◌}
use Rattle.breakpoints.specs.Private.Flat.{made_load, stack_in, with_top}
use Rattle.breakpoints.proofs.Stacking.{done_with_one}

pub returns-in-Ok : Rattle.breakpoints.proofs.running.step_load.Goals.returns-in-Ok
returns-in-Ok c =
    done_with_one (made_load c.args.memory.now) c.args.words.now c.args.depth _ 0
    (omega (arith, c.if-depth-eq0.false)) c.if-depth-words.false
    (ap (with_top (stack_in c.args.words.now (c.args.depth - 1))) (sym c.word_anywhere.ensures ∙ c.in-Ok.is))
