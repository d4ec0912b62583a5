use Rattle.course.proofs.Common.{ap, length, Log, min, moves_of, ◌+◌, ◌∙◌}
use Rattle.course.proofs.Logging.{length_logged}

pub returns-clause-len : Rattle.course.proofs.undo_log.UndoLog.len.Goals.returns-clause-len
returns-clause-len c =
    length_logged c.self.inside.ring.items c.self.inside.newest.items c.min.result
    (c.min.ensures ∙ (λ j. min (c.len.ensures.len j + length (c.as_slice.ensures.value j)) 65536)) ∙ ap (λ (l : Log). length (moves_of l)) c.self.view_is
