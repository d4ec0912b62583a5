use Rattle.std.proofs.Common.{rules, ◌≡◌}
use Rattle.transport.proofs.Driving.{goes_on, ends, stops_driving}
use Rattle.transport.proofs.drives.drive_in.Goals as goal

pub returns-in-Err-clause-drove : goal.returns-in-Err-clause-drove
returns-in-Err-clause-drove g c s st =
    ends (c.driving.invariant.driving s st) c.in-Err.ensures.waits c.args.turns c.driving-test.true c.in-Err.ensures.went

pub driving-preserved : goal.driving-preserved
driving-preserved g c = record {
  since = rw c.in-Ok.is at c.round.ensures.since;
  driving = λ s st. goes_on (c.driving.invariant.driving s st) c.round.ensures.waits (rw c.in-Ok.is at c.round.ensures.went);
}

pub returns-clause-drove : goal.returns-clause-drove
returns-clause-drove g c s st =
    let all : c.driving.made ≡ c.args.turns = search rules in
    stops_driving c.args.turns all (c.driving.invariant.driving s st)
