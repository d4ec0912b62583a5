use Rattle.course.proofs.Common.{with_called, ◌∙◌}
use Rattle.course.proofs.Logging.{amended}

pub returns : Rattle.course.proofs.undo_log.UndoLog.note.Goals.returns
returns c = λ made log e. amended log c.self.inside.ring.items c.self.inside.newest.items c.len-last.result made c.index_mut.result.now
    c.note.new.self (with_called c.args.called) (c.self.view_is ∙ e) (c.len-last.ensures ∙ c.self.inside.newest.ok.0) c.index_mut.ensures.value c.note.ensures
