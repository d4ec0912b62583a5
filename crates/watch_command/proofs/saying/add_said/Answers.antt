use Rattle.std.proofs.Common.{List, ℕ, length, drop, ap, sym, ◌∙◌}
use Rattle.watch_command.proofs.Spoken.{does_one}

pub returns-clause-does : Rattle.watch_command.proofs.saying.add_said.Goals.returns-clause-does
returns-clause-does c =
    does_one c.args.asked c.args.number c.args.event.now c.args.session.now c.apply-answer.new.self c.args.stream.now c.add_came.new.self
    c.apply-answer.result c.link_fault.result c.piece_of.result.now c.after.result.now c.args.text.now.items c.add_came.new.text.items
    c.add_told.new.text.items
    (sym c.lacks_memory.ensures ∙ c.if-lacks_memory.false) c.apply-answer.ensures.stands c.link_fault.ensures c.piece_of.ensures
    c.in_ok-add_came.ensures
    (c.after.ensures ∙ ap (λ (l : List ℕ). drop (length l) c.waiting.result.now) c.waiting-waited.ensures
    ∙ ap (drop (length c.args.session.now.waiting)) c.waiting.ensures) c.in_ok-add_told.ensures.lines
