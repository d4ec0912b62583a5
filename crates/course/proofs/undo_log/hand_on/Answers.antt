use Rattle.course.proofs.Common.{ap, buffer, keep_last, List, Move, ◌++◌, ◌∙◌}
use Rattle.course.proofs.Logging.{handed_on}

pub returns-clause-ring : Rattle.course.proofs.undo_log.hand_on.Goals.returns-clause-ring
returns-clause-ring c =
    let ring = c.args.ring.now in
    handed_on ring c.extend_from_slice.new.self c.args.newest.now.items c.clear.new.self.items c.requires
    (c.extend_from_slice.ensures
    ∙ ap (λ (l : List Move). buffer (keep_last ring.capacity (ring.items ++ l)) ring.capacity) c.as_slice.ensures.value) c.clear.ensures.items
