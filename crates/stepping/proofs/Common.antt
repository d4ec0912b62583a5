-- What most proofs here speak of, under one name.
pub use Rattle.breakpoints.proofs.Lists.{no_check, no_hit}
pub use Rattle.breakpoints.specs.Stops.{hit_in, Lists, standing_in}
pub use Rattle.breakpoints.specs.declared.breakpoint.Hit.{Hit}
pub use Rattle.course.proofs.Moving.{decoded_is_fetched}
pub use Rattle.course.specs.Calls.{Kept, noted}
pub use Rattle.course.specs.Positions.{Course, GoesOn, Halts, IsFetched, machine_at, past_after, past_left, Position, position_at, recorded, Retires, undone_to, UndoNeedsPage}
pub use Rattle.image.specs.Memory.{first_address, word_at}
pub use Rattle.image.specs.declared.fault.MemFault.{MemFault}
pub use Rattle.rv32i.proofs.Keeps.{step_keeps}
pub use Rattle.rv32i.proofs.OneMove.{one_move}
pub use Rattle.rv32i.specs.Encoding.{Encodes, IsDecoding, IsIllegal}
pub use Rattle.rv32i.specs.Machine.{calls, Effect, effect_of, fetch_fault, IsDecodedAtPc, IsMove, KeepsMachine, Machine, machine_of, sum, trapped}
pub use Rattle.rv32i.specs.declared.hart.Hart.{Hart}
pub use Rattle.rv32i.specs.declared.instr.Instr.{Instr}
pub use Rattle.rv32i.specs.declared.performing.Halt.{Halt}
pub use Rattle.rv32i.specs.declared.stepped.Cause.TheVariants.{FetchOutside, Illegal, JumpMisaligned}
pub use Rattle.rv32i.specs.declared.stepped.Cause.{Cause}
pub use Rattle.rv32i.specs.declared.stepped.Stepped.TheVariants.{Break, Exit, Printed, Retired, Trap}
pub use Rattle.rv32i.specs.declared.stepped.Stepped.{Stepped}
pub use Rattle.std.proofs.Common.{[], add-one, ap, arith, Bool, drop, Err, false, if◌then◌else◌, inl, inr, IsOk, IsTrue, length, length-append, List, MatchBool, MatchResult, None, Ok, Option, refl, Result, Some, subst, suc, sym, take, true, zero, ℕ, ◌++◌, ◌+◌, ◌-◌, ◌<◌, ◌^◌, ◌∙◌, ◌∷◌, ◌≡◌, ◌≢◌, ◌≤◌, ◌⊎◌}
pub use Rattle.std.proofs.lemmas.Bool.{both_ways, cases_lt}
pub use Rattle.std.specs.Prelude.{is_ok, slice_get, ℤ, ⊤}
pub use Rattle.std.specs.declared.alloc.AllocError.{AllocError}
pub use Rattle.stepping.specs.Goals.{is_met, turns_back}
pub use Rattle.stepping.specs.Plain.{plain_tick}
pub use Rattle.stepping.specs.Private.Bursts.{Bursts, Ends, EndsBurst, EndsHalted, IsFar, moved_by, Retire, stretch_of}
pub use Rattle.stepping.specs.Private.Running.{AreCounted, counted_by, IsEnding, IsOutOfReach, IsQuiet, IsSound, left_by, Stretches}
pub use Rattle.stepping.specs.RunLaws.{AnswersWith, CountsAnew, EachTickAnswers, EndingSays, EndsWithCodes, GoOn, HasSignedCode, HasTick, MovesEnd, number_after, RunsSayWhere, RunsStopThere, Says, StopIsUnique, TickIsDeterministic, TicksSayWhere}
pub use Rattle.stepping.specs.Runs.{EndsRun, Goes, IsRun, MayLackMemory}
pub use Rattle.stepping.specs.Stopping.{Advances, After, Answers, Applies, AppliesAt, AppliesAtEntry, entered, has_retired, NoneBelow, OneStops, place, StopsAt}
pub use Rattle.stepping.specs.Ticks.{back_outcome, back_tick, Comes, course_of, Debugged, entry_checked, entry_tick, gone_back, gone_on, hit_at_pc, IsTick, looked_at, moved_as, Moves, outcome_of, outcome_or, position_of, seen, settled, stayed, tick_of, undone, undone_by, unless_start, with_check}
pub use Rattle.stepping.specs.declared.burst.Burst.{Burst}
pub use Rattle.stepping.specs.declared.burst.BurstEnd.{BurstEnd}
pub use Rattle.stepping.specs.declared.goal.Goal.TheVariants.{Back, ReverseGo}
pub use Rattle.stepping.specs.declared.goal.Goal.{Goal}
pub use Rattle.stepping.specs.declared.tick.Outcome.TheVariants.{Ended, Stopped, Went}
pub use Rattle.stepping.specs.declared.tick.Outcome.{Outcome}
pub use Rattle.stepping.specs.declared.tick.Reason.TheVariants.{Ebreak, Exception, Function, Instruction, Source, Start}
pub use Rattle.stepping.specs.declared.tick.Reason.{Reason}
pub use Rattle.stepping.specs.declared.tick.RunEnd.{RunEnd}
pub use Rattle.stepping.specs.declared.tick.Tick.{Tick}
pub use mathlib.Core.Path.{subst₂}
