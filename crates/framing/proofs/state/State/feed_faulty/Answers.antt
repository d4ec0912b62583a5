use Rattle.framing.proofs.Common.{[], ap, fed, Unframed, ◌∙◌}
use Rattle.framing.proofs.Holding.{faulty}
use Rattle.framing.proofs.state.State.feed_faulty.Goals as goal

pub invariant_of-self : goal.invariant_of-self
invariant_of-self c = record {
  holds = c.self.invariant.holds;
  mark_holds = (faulty c.self.inside [] c.self.invariant.holds (rw (← c.self.view_is) at c.requires)).0;
}

pub returns : goal.returns
returns c = λ piece.
    c.keep_needed.ensures ∙ (faulty c.self.inside piece c.self.invariant.holds (rw (← c.self.view_is) at c.requires)).1
    ∙ ap (λ (k : Unframed). fed k piece) c.self.view_is
