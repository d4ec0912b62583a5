-- What most proofs here speak of, under one name.
pub use Rattle.breakpoints.specs.Stops.{standing_in, Wanted}
pub use Rattle.breakpoints.specs.declared.breakpoint.Hit.{Hit}
pub use Rattle.course.specs.Marks.{Retired}
pub use Rattle.course.specs.Positions.{Course, gone_back, Position, undone_to}
pub use Rattle.debuggee.specs.Programs.{Debuggee, ended, entered, first_mark, first_run, is_ended, is_running, left, marked, marked_by, moved, next_tick, on_program, owing_by, Program, restarted, resumed, run_left, stays, stopped, told, with_hart}
pub use Rattle.debuggee.specs.declared.run.Mark.{Mark}
pub use Rattle.debuggee.specs.declared.run.Run.{Run}
pub use Rattle.debuggee.specs.declared.run.Why.{Why}
pub use Rattle.handlers.specs.Breaks.{with_list}
pub use Rattle.handlers.specs.Demands.{goes_on, run_of}
pub use Rattle.handlers.specs.Disconnect.{departed, is_to_end, is_to_stand}
pub use Rattle.handlers.specs.Given.{Answering, Given}
pub use Rattle.handlers.specs.GoingBack.{past_of, success_by}
pub use Rattle.handlers.specs.Requests.{demand_of, success_of}
pub use Rattle.handlers.specs.declared.terms.Terms.{Terms}
pub use Rattle.history_laws.specs.Again.{BackAndForthAgain, IsMade, IsReached, IsUndone, MakesSaying, MovesAreMade, MovesAreUndone, MovesSaying, printed_by}
pub use Rattle.history_laws.specs.ByRequests.{AreQuiet, AsksFor, Backward, Direction, Forward, goal_by, HasMet, IsQuiet, IsStep, IsWhereItWas, LeavesProgram, MakesAgain, PrintsAgain, Steps, ThereAndBack}
pub use Rattle.history_laws.specs.GoingBack.{BeginsBack, goal_asked, goal_of, GoesBackFrom, OfProgram, TurnsBeginBack}
pub use Rattle.history_laws.specs.Recorded.{AreGivenUp, asks_to_give_up, count_answered, count_moved, count_of, count_sliced, EndsARun, EventsAreCounted, EveryPastIsARun, gives_up, recorded_of, TicksAreCounted}
pub use Rattle.history_laws.specs.RunningBack.{IsNewest, IsTime, RunsBackStopThere, RunsBackToTheNewest, stop_at, StopsBackThere}
pub use Rattle.history_laws.specs.SteppingBack.{asks_to_start_or_end, HasEnded, HasSteppedBack, IsStartedOrEnded, IsUnderWay, OneEarlier, starts_or_ends, StartsOrEnds, step_made, StepsBack, StepsBackIn, StepsGoOneBack}
pub use Rattle.image.specs.Memory.{fault_at, word_at}
pub use Rattle.protocol.specs.declared.command.Command.{Command}
pub use Rattle.protocol.specs.declared.command.Command.TheVariants.{Launch, Restart, ReverseContinue, SetBreakpoints, SetVariable, StepBack, StepIn, WriteMemory}
pub use Rattle.protocol.specs.declared.refusal.Refusal.{Refusal}
pub use Rattle.queues.specs.declared.pending.Ask.TheVariants.{Bad, Request}
pub use Rattle.queues.specs.declared.pending.Ask.{Ask}
pub use Rattle.queues.specs.declared.pending.Pending.{Pending}
pub use Rattle.rv32i.specs.Machine.{IsMove, machine_of}
pub use Rattle.rv32i.specs.declared.instr.Instr.{Instr}
pub use Rattle.rv32i.specs.declared.stepped.Stepped.{Stepped}
pub use Rattle.session.proofs.Advancing.{Leaves, move_leaves}
pub use Rattle.session.proofs.BySuccess.{agrees, by_success, BySuccess, steps}
pub use Rattle.session.proofs.Orderly.{OrderlyOf}
pub use Rattle.session.proofs.Reaching.{if_keeps, led_append}
pub use Rattle.session.proofs.Serving.{Meets, of_answer}
pub use Rattle.session.specs.Acts.{Accept, given_of, Now, Open, Seen}
pub use Rattle.session.specs.Effects.{beats, enough, next_by, performed, sliced, Slicing}
pub use Rattle.session.specs.Kinds.{is_success}
pub use Rattle.session.specs.Outcomes.{answer_to}
pub use Rattle.session.specs.Private.Beats.{concluded}
pub use Rattle.session.specs.Reached.{Cut, Happened, leaves, led_to, OfEvent, Reached, Whole}
pub use Rattle.session.specs.Sessions.{Beginning, Effect, histories, Session, start}
pub use Rattle.session.specs.Slices.{Beat, beat, beat_of, ends, goes, telling}
pub use Rattle.session.specs.declared.event.Event.{Event}
pub use Rattle.session.specs.declared.event.Event.TheVariants.{Connect, DropConnection, Hold, Recv, Sent, Slice, Turn}
pub use Rattle.session.specs.declared.event.SliceEnd.{SliceEnd}
pub use Rattle.session.specs.declared.link.Link.{Link}
pub use Rattle.session_laws.proofs.Answered.{by_turn, the_answered}
pub use Rattle.session_laws.proofs.Cases.{by_beat, by_beats, by_effect, by_program, by_running, by_slicing, ByBeat, StopsFor}
pub use Rattle.session_laws.proofs.Joined.{answering_debuggee, exits_program, halts_program, program_of, still_holds, telling_program}
pub use Rattle.session_laws.specs.Intents.{intent_of}
pub use Rattle.session_laws.specs.Retiring.{after_answer, after_next, and_next, and_retired, asks_to_load, at_address, decoded, moved_on, retired_after, retired_by, retired_in, retired_of}
pub use Rattle.session_laws.specs.Turns.{Answered, answered, answered_on}
pub use Rattle.std.proofs.Common.{[], ap, arith, below_more, Bool, cond, false, inl, inr, is_some, length, length-append, length-take, List, ltb, min, None, Ok, Option, refl, Some, subst, suc, sym, take, take_all, true, zero, ℕ, ℤ, ◌++◌, ◌+◌, ◌-◌, ◌<◌, ◌∙◌, ◌∷◌, ◌≡◌, ◌≢◌, ◌≤◌, ◌⊎◌}
pub use Rattle.std.specs.Prelude.{All, bytes_eq, IfSome, not, ◌&&◌, ◌||◌, ◌↔◌}
pub use Rattle.stepping.proofs.Cases.{back_of, by_tick, move_of, one_tick}
pub use Rattle.stepping.proofs.Determined.{one_fetched, same_moves}
pub use Rattle.stepping.proofs.Existing.{the_tick}
pub use Rattle.stepping.proofs.Leading.{moves_equal, moves_from_oldest, ticks_lead}
pub use Rattle.stepping.specs.Goals.{turns_back}
pub use Rattle.stepping.specs.Leading.{back, LeadTo, Makes, MovesTo, oldest_of}
pub use Rattle.stepping.specs.StoppingBack.{turned, turned_from, TurnsTo}
pub use Rattle.stepping.specs.Ticks.{back_outcome, back_tick, course_of, Debugged, looked_at, moved_as, Moves, outcome_of, outcome_or, position_of, settled, tick_of, undone, undone_by, unless_start}
pub use Rattle.stepping.specs.declared.goal.Goal.{Goal}
pub use Rattle.stepping.specs.declared.goal.Goal.TheVariants.{Back, In, ReverseGo}
pub use Rattle.stepping.specs.declared.tick.Outcome.{Outcome}
pub use Rattle.stepping.specs.declared.tick.Outcome.TheVariants.{Ended, Stopped, Went}
pub use Rattle.stepping.specs.declared.tick.Reason.{Reason}
pub use Rattle.stepping.specs.declared.tick.Tick.{Tick}
