use Rattle.std.proofs.Common.{arith}
use Rattle.image.proofs.Nearest.{looked_to, looked_in_vain}
use Rattle.image.proofs.lines.nearest_by_looking.Goals as goal

pub returns-in-Some : goal.returns-in-Some
returns-in-Some c =
    looked_to c.args.labels.now.entries c.args.addr c.loop-index.index c.in-Some.index c.in-Some.field-0-1 c.loop-index.found c.loop-index.invariant c.in-Some.is (omega arith)

pub returns-in-None : goal.returns-in-None
returns-in-None c =
    looked_in_vain c.args.labels.now.entries c.args.addr c.loop-index.index c.loop-index.found c.loop-index.invariant c.in-None.is
    (omega arith)
