use Rattle.std.proofs.Common.{ap, arith, length, length-append, sym, ◌++◌, ◌∙◌}
use Rattle.breakpoints.specs.Nodes.{tree_of}
use Rattle.breakpoints.specs.Private.Flat.{operations_of}
use Rattle.breakpoints.proofs.Flattened.{between_both, is_there}
use Rattle.breakpoints.proofs.operation.+push_operations.Goals as goal

pub join-requires : goal.join-requires
join-requires t c =
    let second = c.push_decider.new.operations in
    let third = c.push_operations-in-Binary-2.new.operations in
    omega (
      arith,
      c.len-right_side.ensures,
      second.ok.0,
      third.ok.0,
      ap length c.in_ok-push_operations-in-Binary-2.ensures,
      length-append second.items (operations_of (tree_of c.deref-in-Binary-2.result.now)),
    )

pub reach-requires : goal.reach-requires
reach-requires t c =
    let first = c.push_operations-in-Binary.new.operations in
    let second = c.push_decider.new.operations in
    let third = c.push_operations-in-Binary-2.new.operations in
    let fourth = c.join.new.operations in
    let there = is_there c.in-Binary.operator (tree_of c.deref-in-Binary-2.result.now) first.items second.items third.items fourth.items
    c.len-right_side.result c.in_ok-push_decider-in-Binary.ensures (c.len-right_side.ensures ∙ second.ok.0)
    c.in_ok-push_operations-in-Binary-2.ensures c.in_ok-join-in-Binary.ensures in
    omega (arith, c.len-decider.ensures, first.ok.0, fourth.ok.0, there)

pub returns-in_ok-join-in-Binary : goal.returns-in_ok-join-in-Binary
returns-in_ok-join-in-Binary t c =
    let first = c.push_operations-in-Binary.new.operations in
    let second = c.push_decider.new.operations in
    let third = c.push_operations-in-Binary-2.new.operations in
    let fourth = c.join.new.operations in
    between_both c.in-Binary.operator (tree_of c.in-Binary.left.value) (tree_of c.in-Binary.right.value) c.args.operations.now.items
    first.items second.items third.items fourth.items c.reach.new.operations.items c.len-decider.result c.len-right_side.result _
    (c.in_ok-push_operations-in-Binary.ensures
    ∙ ap (λ x. c.args.operations.now.items ++ operations_of (tree_of x)) c.deref-in-Binary.ensures)
    (c.len-decider.ensures ∙ first.ok.0) c.in_ok-push_decider-in-Binary.ensures (c.len-right_side.ensures ∙ second.ok.0)
    (c.in_ok-push_operations-in-Binary-2.ensures ∙ ap (λ x. second.items ++ operations_of (tree_of x)) c.deref-in-Binary-2.ensures)
    c.in_ok-join-in-Binary.ensures fourth.ok.0 c.reach.ensures
    ∙ ap (λ x. c.args.operations.now.items ++ operations_of (tree_of x)) (sym c.in-Binary.is)
