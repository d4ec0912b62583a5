use Rattle.transport.proofs.Common.{Driving, known, OfEach, ◌≤◌}

-- the count of moves is not above its greatest value, and the session has been driven since the start
abbrev pub invariant-driving : Rattle.transport.proofs.drives.drive_in.Given.invariant-driving
invariant-driving g l = record {
  since : l.since ≤ 10000000;
  driving : OfEach l.fn.session (λ s. Driving (known (g.F.Files.past l.fn.files) (g.R.Recorder.told l.fn.recorder)) (known (g.F.Files.past l.files) (g.R.Recorder.told l.recorder)) (g.W.Wire.line l.fn.wire) (g.W.Wire.line l.wire) l.made l.since s l.session);
}
