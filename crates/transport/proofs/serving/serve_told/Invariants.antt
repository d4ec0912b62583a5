use Rattle.transport.proofs.Common.{known, OfEach, vec_len, ◌-◌, ◌≡◌, ◌≤◌}
use Rattle.transport.specs.Private.Serving.{ServedSoFar}
use Rattle.transport.proofs.serving.serve_told.Given as goal

-- there is room to receive into, no more turns were taken than there are, and the session has been served since the start
abbrev pub invariant-serving : goal.invariant-serving
invariant-serving g l = record {
  room : vec_len l.room ≡ 65536;
  few : l.taken ≤ l.fn.turns;
  serving : OfEach l.fn.session (λ s. ServedSoFar (known (g.F.Files.past l.fn.files) (g.R.Recorder.told l.fn.recorder)) (known (g.F.Files.past l.files) (g.R.Recorder.told l.recorder)) (g.D.Door.doorway l.fn.door) (g.D.Door.doorway l.door) l.fn.turns l.taken s l.session);
}

abbrev pub decreases-serving : goal.decreases-serving
decreases-serving g l = l.fn.turns - l.taken
