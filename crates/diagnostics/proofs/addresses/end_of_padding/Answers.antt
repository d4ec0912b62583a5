use Rattle.std.proofs.Common.{arith}
use Rattle.assembler.proofs.Padded.{too_wide, at_multiple}
use Rattle.diagnostics.proofs.addresses.end_of_padding.Goals as goal

pub returns-then-power-ge32 : goal.returns-then-power-ge32
returns-then-power-ge32 c =
    too_wide c.args.power c.args.address c.args.limit c.if-power-ge32.true c.requires.some c.requires.within (omega arith)

pub returns-then-over-eq0 : goal.returns-then-over-eq0
returns-then-over-eq0 c = at_multiple c.args.power c.args.address c.args.limit (omega arith) c.if-over-eq0.true c.requires.within
