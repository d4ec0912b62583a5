-- What most proofs here speak of, under one name.
pub use Rattle.course.specs.Positions.{past_left, Position}
pub use Rattle.debuggee.specs.Programs.{Advances, GoesQuietly, IsWritten, moved, NamesNone, next_tick, owing, owing_by, Program, restarted, stays, written}
pub use Rattle.std.proofs.Common.{[], ap, arith, Bool, cond, Err, false, length, List, map, None, Ok, OnOk, Option, refl, Result, Some, subst, suc, sym, true, zero, ℕ, ℤ, ◌++◌, ◌+◌, ◌||◌, ◌∙◌, ◌∷◌, ◌≡◌}
pub use Rattle.stepping.specs.Plain.{IsPlain, plain_tick}
pub use Rattle.stepping.specs.Ticks.{back_outcome, back_tick, Debugged, entry_checked, entry_tick, gone_back, hit_at_pc, IsTick, looked_at, meets_goal, moved_as, Moves, outcome_of, outcome_or, settled, Settles, stayed, tick_of, undone, undone_by, unless_start, went_on, with_check}
pub use Rattle.stepping.specs.declared.goal.Goal.{Goal}
pub use Rattle.stepping.specs.declared.goal.Goal.TheVariants.{Back, Go, In, Out, Over, ReverseGo}
pub use Rattle.stepping.specs.declared.tick.Tick.{Tick}
