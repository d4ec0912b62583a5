use Rattle.breakpoints.proofs.Common.{sym, ◌∙◌}
use Rattle.breakpoints.proofs.Lists.{no_look, none_standing}
use Rattle.breakpoints.proofs.breaks.Breaks.stand_at.Goals as goal

pub returns-then-not-has-clause-lists : goal.returns-then-not-has-clause-lists
returns-then-not-has-clause-lists c =
    c.forget_ids.ensures ∙ sym (no_look c.args.pc c.args.hart.now c.args.memory.now c.args.self.now (sym c.has.ensures ∙ c.if-not-has.true))

pub returns-then-not-has-clause-hit : goal.returns-then-not-has-clause-hit
returns-then-not-has-clause-hit c =
    sym (none_standing c.args.pc c.args.hart.now c.args.memory.now c.args.self.now (sym c.has.ensures ∙ c.if-not-has.true))
