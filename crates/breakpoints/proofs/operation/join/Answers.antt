use Rattle.std.proofs.Common.{arith, drop, length-drop, ◌∙◌}
use Rattle.std.proofs.lemmas.Result.{on_ok_weaker}
use Rattle.breakpoints.proofs.Flattened.{joined_apart, not_alone}

pub returns : Rattle.breakpoints.proofs.operation.join.Goals.returns
returns c =
    let all = c.args.operations.now in
    let m = c.args.right_side in
    let apart = not_alone (drop m all.items)
    (λ one. c.if-len-right_side-eq1.false (omega (arith, one, length-drop m all.items, c.len.ensures, all.ok.0))) in
    on_ok_weaker c.append.result (λ e. e ∙ joined_apart c.args.operator all.items m apart) c.append.ensures
