use Rattle.course.proofs.Common.{ap, List, logged, Move, moves_of, slice_get, sym, ◌∙◌}
use Rattle.course.proofs.Logging.{last_first, logged_alone}
use Rattle.course.proofs.undo_log.UndoLog.newest.Goals as goal

pub returns-clause-newest : goal.returns-clause-newest
returns-clause-newest c =
    c.copied.ensures ∙ c.back.ensures ∙ last_first 65535 c.hand_on.new.ring.items
    ∙ ap (λ (l : List Move). slice_get l 0)
    (sym (logged_alone c.hand_on.new.ring.items) ∙ ap (logged c.hand_on.new.ring.items) (sym c.hand_on.ensures.newest)
    ∙ c.hand_on.ensures.ring.same ∙ ap moves_of c.self.view_is)

pub returns-clause-same : goal.returns-clause-same
returns-clause-same c = c.hand_on.ensures.ring.same ∙ ap moves_of c.self.view_is
