use Rattle.std.proofs.Common.{ap, arith, Ok, sym}
use Rattle.breakpoints.proofs.Stacking.{written}

pub returns : Rattle.breakpoints.proofs.running.push.Goals.returns
returns c =
    ap (λ s. Ok (s, 0)) (sym (written c.args.words.now _ c.args.depth c.args.value (omega arith) c.if-depth-words.false))
