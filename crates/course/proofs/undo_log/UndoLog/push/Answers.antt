use Rattle.course.proofs.Common.{ap, logged, moves_of, with_move, ◌∙◌}
use Rattle.course.proofs.Logging.{one_more}
use Rattle.course.proofs.undo_log.UndoLog.push.Goals as goal

pub returns-clause-puts : goal.returns-clause-puts
returns-clause-puts c =
    let ring = c.make_room.new.ring.items in
    record {
      roomy = record { ring = ring; newest = c.make_room.new.newest.items };
      same = c.make_room.ensures.ring.same ∙ ap moves_of c.self.view_is;
      is = λ j. record { ring = ring; newest = c.push_reserved.ensures.items j };
    }

pub returns-clause-moves : goal.returns-clause-moves
returns-clause-moves c =
    ap (logged c.make_room.new.ring.items) c.push_reserved.ensures.items
    ∙ one_more c.make_room.new.ring.items c.make_room.new.newest.items c.args.made
    ∙ ap (with_move c.args.made) (c.make_room.ensures.ring.same ∙ ap moves_of c.self.view_is)
