use Rattle.course.proofs.Common.{ap, moves_of, ◌∙◌}
use Rattle.course.proofs.Logging.{forgets}

pub returns : Rattle.course.proofs.undo_log.UndoLog.drop_newest.Goals.returns
returns c =
    forgets c.hand_on.new.ring c.pop_back.new.self c.hand_on.new.newest.items (moves_of c.args.self.now) c.hand_on.ensures.newest
    c.pop_back.ensures.items (c.hand_on.ensures.ring.few c.self.invariant.1) (c.hand_on.ensures.ring.same ∙ ap moves_of c.self.view_is)
