use Rattle.course.proofs.Common.{ap, Course, length, moves_of, sym, ◌∙◌}
use Rattle.course.proofs.Coursing.{length_past}

pub returns-clause-recorded : Rattle.course.proofs.course.Course.recorded.Goals.returns-clause-recorded
returns-clause-recorded c =
    c.len.ensures.len
    ∙ sym (length_past (moves_of c.self.inside.log) c.self.inside.machine)
    ∙ ap (λ (x : Course). length x.past) c.self.view_is
