use Rattle.transport.proofs.Common.{[], arith, NoRoom, refl}
use Rattle.transport.proofs.Driving.{still}
use Rattle.transport.proofs.FileReads.{Records-nil}
use Rattle.transport.proofs.drives.drive_told.Goals as goal

-- without room for a piece no round is made
pub returns-in_default : goal.returns-in_default
returns-in_default g c s st = record {
  rounds = [];
  cause = NoRoom;
  drove = record { are_rounds = tt; few = omega arith; moved = still _; waits = refl; is_cause = refl };
  files = Records-nil _;
  told = Records-nil _;
  is_end = refl;
  leaves = st;
}

pub returns : goal.returns
returns g c s st =
    let v = c.drive_in.ensures.drove s st in
    record { rounds = v.rounds; cause = v.cause; drove = v.drove; files = v.files; told = v.told; is_end = v.is_end; leaves = v.leaves }
