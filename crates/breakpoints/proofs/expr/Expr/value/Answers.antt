use Rattle.std.proofs.Common.{[], ap, ◌∙◌}
use Rattle.breakpoints.specs.Nodes.{tree_of}
use Rattle.breakpoints.specs.Values.{value_of}
use Rattle.breakpoints.specs.Private.Flat.{outcome}
use Rattle.breakpoints.proofs.Flattened.{runs}

pub returns-in-Some : Rattle.breakpoints.proofs.expr.Expr.value.Goals.returns-in-Some
returns-in-Some c =
    c.in-Some.ensures
    ∙ ap (outcome c.args.hart.now c.args.memory.now [] 0) (c.deref.ensures.value ∙ c.self.invariant)
    ∙ runs c.args.hart.now c.args.memory.now (tree_of c.self.inside.root)
    ∙ ap (λ x. value_of (tree_of x) c.args.hart.now c.args.memory.now) c.self.view_is
