-- A move in three cases: it is made, or the instruction traps, or it ends the program.
use Rattle.session.proofs.Common.{Beat, Ended, exits, false, makes_move, moves_by, Now, Outcome, Program, refl, Some, stays, Stopped, stops, Went, ℤ, ◌≡◌}
use Rattle.debuggee.specs.declared.run.Why.TheVariants as why
use Rattle.rv32i.specs.declared.stepped.Cause.{Cause}
use Rattle.session.specs.declared.event.SliceEnd.TheVariants as ending
use Rattle.stepping.specs.declared.tick.Reason.TheVariants as met

-- What holds of each holds of the move.
pub by_move : (P : Outcome → Beat → Type 0) (now : Now) (p : Program) (outcome : Outcome)
    → ((o : Outcome) → stays o ≡ false → P o (makes_move now p))
    → ((cause : Cause) → P (Stopped (met.Exception cause)) (stops now p (why.Met (met.Exception cause))))
    → ((code : ℤ) → P (Ended code) (record { acts = exits now p code; moved = 0; ending = Some ending.Ended }))
    → P outcome (moves_by now p outcome)
by_move P now p Went made traps ends = made Went refl
by_move P now p (Stopped (met.Exception cause)) made traps ends = traps cause
by_move P now p (Stopped other) made traps ends = made (Stopped other) refl
by_move P now p (Ended code) made traps ends = ends code
