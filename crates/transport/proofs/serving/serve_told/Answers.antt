use Rattle.transport.proofs.FileReads.{Records-nil}
use Rattle.transport.specs.Serving.{NoRoomYet}
use Rattle.std.proofs.Common.{[], refl, rules, arith, ◌≡◌, ◌≤◌, ◌<◌, ◌-◌}
use Rattle.transport.proofs.ServingLemmas.{opened-refl, serving_continues, serving_ends, all_taken}
use Rattle.transport.proofs.serving.serve_told.Goals as goal

pub serving-init : goal.serving-init
serving-init g c = record {
  room = c.in-Ok.ensures;
  few = omega arith;
  serving =
      λ s st. record {
        iterations = [];
        are_iterations = tt;
        count = refl;
        opened = opened-refl _;
        waits = refl;
        files = Records-nil _;
        told = Records-nil _;
        stands = st;
      };
}

-- without memory for a piece the door is not called
pub returns-in_default : goal.returns-in_default
returns-in_default g c s st = record {
  iterations = [];
  why = NoRoomYet;
  are_iterations = tt;
  few = omega arith;
  opened = opened-refl _;
  waits = refl;
  files = Records-nil _;
  told = Records-nil _;
  is_end = refl;
  is_why = refl;
  leaves = st;
}

pub returns-in-Err : goal.returns-in-Err
returns-in-Err g c s st =
    serving_ends (c.serving.invariant.serving s st) c.in-Err.ensures.waits c.serving-test.true c.in-Err.ensures.outcome

pub returns : goal.returns
returns g c s st =
    let all : c.serving.taken ≡ c.args.turns = search rules in
    all_taken all (c.serving.invariant.serving s st)

pub serving-preserved : goal.serving-preserved
serving-preserved g c =
    let few : c.serving.taken < c.args.turns = c.serving-test.true in
    let most : c.in-Ok-accept.count ≤ c.args.turns - c.serving.taken = c.in-Ok-accept.ensures.some.1 in record {
      room = c.serving.invariant.room;
      few = omega arith;
      serving =
          λ s st. serving_continues (c.serving.invariant.serving s st) c.accept.ensures.waits
          (rw c.in-Ok-accept.is at c.accept.ensures.outcome);
    }
