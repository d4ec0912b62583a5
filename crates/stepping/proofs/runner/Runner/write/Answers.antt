use Rattle.stepping.proofs.Counting.{still_sound, written_counts}

pub invariant_of-self : Rattle.stepping.proofs.runner.Runner.write.Goals.invariant_of-self
invariant_of-self c =
    still_sound c.self.invariant (rw c.write.ensures.rest
    (written_counts c.write.result c.self.inside.course c.write.new.self.now.memory c.self.inside.retired c.self.invariant.called))
