use Rattle.framing.proofs.Common.{ap, inl, inr, sym, ◌∙◌}
use Rattle.framing.proofs.Readings.{is_waiting, start_waits, start_stays}
use Rattle.framing.proofs.start.Start.with_more.Goals as goal

pub of-requires : goal.of-requires
of-requires c = start_waits c.args.limit c.args.bytes.now c.args.before c.requires.within (sym c.requires.started ∙ c.in-Waits.is)

pub returns-in-Breaks : goal.returns-in-Breaks
returns-in-Breaks c =
    start_stays c.args.limit c.args.bytes.now c.args.before c.args.self c.requires.started
    (elim c.in-Breaks.is [ inl e ↦ ap is_waiting e.1 | inr e ↦ ap is_waiting e.2 ])
