use Rattle.stepping.proofs.Counting.{counts_anew, not_deeper, still_sound}

pub invariant_of-self : Rattle.stepping.proofs.runner.Runner.set_hart.Goals.invariant_of-self
invariant_of-self c =
    still_sound c.self.invariant (rw c.set_hart.ensures
    (counts_anew _ _ (not_deeper c.self.inside.course c.self.inside.retired c.self.invariant.called)))
