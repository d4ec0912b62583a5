use Rattle.transport.proofs.Common.{[], holds, is_held, Slice, ◌+◌, ◌∷◌}
use Rattle.transport.proofs.FileReads.{Records-trans}
use Rattle.transport.proofs.RoundLemmas.{few_counted}
use Rattle.transport.proofs.Driving.{runs_over, time_is_cut}
use Rattle.transport.proofs.drives.run.Goals as goal

pub returns-in-NoMemory-clause-went : goal.returns-in-NoMemory-clause-went
returns-in-NoMemory-clause-went g c past line line' p =
    time_is_cut _ c.slice-sliced.result p c.requires.due (rw c.requires.moves at c.slice-sliced.ensures.stands) c.in-NoMemory.is

pub returns-in_default : goal.returns-in_default
returns-in_default g c =
    let held = is_held c.args.polls (c.args.since + c.slice-sliced.result.moved) in
    let told = Records-trans _ _ _ (Slice c.args.moves ∷ []) (holds held) c.tell.ensures c.hold_after.ensures.told in record {
      went =
          λ past line line' p. runs_over c.slice-sliced.result p c.requires.due (rw c.requires.moves at c.slice-sliced.ensures.stands)
          c.in_default.not-NoMemory c.hold_after.ensures.counts c.hold_after.ensures.holds (rw c.requires.moves at told);
      since = few_counted (c.args.since + c.slice-sliced.result.moved) c.hold_after.result c.hold_after.ensures.counts;
    }
