use Rattle.framing.proofs.Common.{ap, parts_of, Start, sym, ◌∙◌}
use Rattle.framing.proofs.Ends.{past_nothing}
use Rattle.framing.proofs.Readings.{fewer_after}
use Rattle.framing.proofs.Passing.{reached_start, reached_more, reached_end}
use Rattle.framing.proofs.split.split.Goals as goal

pub of-start-requires : goal.of-start-requires
of-start-requires c = past_nothing c.in-Some.after.now

pub loop-after-init : goal.loop-after-init
loop-after-init c = reached_start c.args.limit c.args.bytes.now c.args.start c.requires

pub loop-after-smaller : goal.loop-after-smaller
loop-after-smaller c =
    fewer_after c.args.limit c.loop-after.rest.now c.in-Some.field-0-0.now c.in-Some.after.now
    (ap (λ (s : Start). parts_of s c.loop-after.rest.now) (sym c.loop-after.invariant.starts) ∙ sym c.in-Some.ensures.parts)

pub loop-after-preserved : goal.loop-after-preserved
loop-after-preserved c =
    reached_more c.args.limit c.args.bytes.now c.loop-after.start c.loop-after.rest.now c.in-Some.field-0-0.now c.in-Some.after.now
    c.of-start.result c.loop-after.invariant (sym c.in-Some.ensures.parts) c.of-start.ensures

pub returns : goal.returns
returns c =
    reached_end c.args.limit c.args.bytes.now c.loop-after.start c.loop-after.rest.now c.loop-after.invariant
    (sym (rw c.in_default.is at c.parts.ensures.parts))
