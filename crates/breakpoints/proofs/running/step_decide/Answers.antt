use Rattle.std.proofs.Common.{arith, get_or, rules, ◌-◌, ◌≡◌}
use Rattle.rv32i.specs.Machine.{flag}
use Rattle.breakpoints.specs.Values.{is_true}
use Rattle.breakpoints.specs.Private.Flat.{made_decide, stack_in}
use Rattle.breakpoints.proofs.Stacking.{decided, done_with_one}

pub returns : Rattle.breakpoints.proofs.running.step_decide.Goals.returns
returns c =
    let top = get_or c.args.words.now (c.args.depth - 1) 0 in
    let value : c.from.result ≡ flag (is_true top) = search (rules, c.from.ensures) in
    done_with_one (made_decide c.args.operator c.args.over) c.args.words.now c.args.depth c.from.result c.args.over
    (omega (arith, c.if-depth-eq0.false)) c.if-depth-words.false
    (decided c.args.operator c.args.over top c.from.result (stack_in c.args.words.now (c.args.depth - 1)) c.if-not-decides.ensures value)
