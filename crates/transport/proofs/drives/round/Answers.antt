use Rattle.transport.proofs.Common.{AllSaid, arith, length, nat_tests, see_kept, sym, ◌≡◌}
use Rattle.transport.proofs.RoundLemmas.{granted}
use Rattle.transport.proofs.Driving.{leaves_by, leave_due, still}
use Rattle.transport.proofs.drives.round.Goals as goal

pub returns-then-finished-clause-went : goal.returns-then-finished-clause-went
returns-then-finished-clause-went g c =
    let none : length c.waiting.result.now ≡ 0 = grind (arith, nat_tests) in
    rw c.leave.ensures.end
    (leaves_by c.leave.ensures.dropped c.leave.ensures.told AllSaid tt (still _)
    (λ s st turns made. rw st at (leave_due (see_kept c.args.session.now) (rw c.waiting.ensures at none) (sym c.if-finished.ensures))))

pub run-requires-clause-moves : goal.run-requires-clause-moves
run-requires-clause-moves g c = granted
