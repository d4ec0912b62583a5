use Rattle.answers.proofs.Frames.{target_on}

pub loop-index-preserved : Rattle.answers.proofs.stack_trace.targets.Goals.loop-index-preserved
loop-index-preserved c = record {
  targets =
      target_on c.args.first c.loop-index.index c.loop-index.targets.items c.push.new.self.items c.loop-index.auto.index c.in_ok-push.ensures.items c.loop-index.invariant.targets;
}
