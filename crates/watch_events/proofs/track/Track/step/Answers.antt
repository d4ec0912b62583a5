use Rattle.std.proofs.Common.{ap, length, rules}
use Rattle.watch_events.proofs.Tracked.{steps_inside}

pub returns-in_ok-note-in_default : Rattle.watch_events.proofs.track.Track.step.Goals.returns-in_ok-note-in_default
returns-in_ok-note-in_default c = record {
  keeps =
      steps_inside _ _ c.self.view_is c.slice-sliced.new.self c.args.moves c.slice-sliced.result c.note.new.self _
      (ap length c.waiting-before.ensures)
      (search rules) c.slice-sliced.ensures.stands c.in_ok-note-in_default.ensures.noted c.note.ensures.same;
  same = (search rules);
}
