use Rattle.std.proofs.Common.{◌∙◌}
use Rattle.breakpoints.specs.Private.Flat.{stack_in}
use Rattle.breakpoints.proofs.Flattened.{jumps}

pub loop-operation-preserved : Rattle.breakpoints.proofs.running.run.Goals.loop-operation-preserved
loop-operation-preserved c =
    let found = c.in-Some.ensures.lookup in
    c.loop-operation.invariant
    ∙ jumps c.args.hart.now c.args.memory.now (stack_in c.loop-operation.words c.loop-operation.depth)
    (stack_in c.step.new.words c.loop-operation.depth) c.args.operations.now c.in-Some.operation.now c.loop-operation.at c.in-Decided.over
    found.3.0 found.1 c.in-Decided.ensures
