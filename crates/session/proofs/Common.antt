-- What most proofs here speak of, under one name.
pub use Rattle.answers.specs.Answers.{breaks_answer, sets_breakpoints}
pub use Rattle.answers.specs.Looking.{looks_in}
pub use Rattle.answers.specs.SetVariable.{set_in, set_variable}
pub use Rattle.answers.specs.WriteMemory.{start_by, write_memory}
pub use Rattle.answers.specs.declared.set_variable.Setting.{Setting}
pub use Rattle.answers.specs.declared.write_memory.Writing.{Writing}
pub use Rattle.assembler.specs.declared.error.AsmError.{AsmError}
pub use Rattle.breakpoints.specs.Stops.{checked, counted, fresh, ids_where, is_hit, Lists, log_at, Placed, reset, stands, Wanted}
pub use Rattle.course.specs.Positions.{Position}
pub use Rattle.debuggee.specs.Programs.{Advances, Debuggee, ended, entered, first_run, GoesQuietly, is_ended, is_running, just_loaded, left, marked, marked_by, moved, next_tick, on_program, owing_by, Program, restarted, resumed, stays, stopped, told, why_marked, with_hart, written}
pub use Rattle.debuggee.specs.declared.run.Mark.{Mark}
pub use Rattle.debuggee.specs.declared.run.Run.{Run}
pub use Rattle.debuggee.specs.declared.run.Why.{Why}
pub use Rattle.handlers.specs.Breaks.{replaces, sets_by, success_on, with_list}
pub use Rattle.handlers.specs.Changes.{answering_as, call_of, changed}
pub use Rattle.handlers.specs.Demands.{goes_on, has_ended, has_none, is_no_thread, run_of}
pub use Rattle.handlers.specs.Given.{Answering, Given, Lent}
pub use Rattle.handlers.specs.Looking.{issues, looks_on, seen_in, shows_by}
pub use Rattle.handlers.specs.Refusals.{answer_by, answer_of, first_refusal, is_cancelled, misread, names_none, path_in, refusals, response_to, unmet, where_so}
pub use Rattle.handlers.specs.Requests.{demand_of, is_taken_in, success_of}
pub use Rattle.handlers.specs.Successes.{agreeing, changing, refusing, resuming}
pub use Rattle.handlers.specs.Telling.{exit_events, log_event, output_event, reason_of, stop_event, text_of}
pub use Rattle.handlers.specs.declared.phase.Phase.{Phase}
pub use Rattle.handlers.specs.declared.terms.Terms.{Terms}
pub use Rattle.message_parts.specs.Forms.{is_word}
pub use Rattle.protocol.specs.Refusals.{has_text}
pub use Rattle.protocol.specs.declared.command.Command.TheVariants.{Disassemble, Evaluate, ReadMemory, Scopes, SetBreakpoints, SetFunctionBreakpoints, SetInstructionBreakpoints, StackTrace, Variables}
pub use Rattle.protocol.specs.declared.command.Command.{Command}
pub use Rattle.protocol.specs.declared.refusal.Refusal.TheVariants.{AssemblyFailed, Cancelled, FileUnreadable, NoHistory, NoMachine, NoThread, NotStopped, ReferencesExhausted, RepeatedSequence, RequestGone, TooMuch, WrongPhase}
pub use Rattle.protocol.specs.declared.refusal.Refusal.{Refusal}
pub use Rattle.protocol.specs.declared.set_variable.SetVariableArguments.{SetVariableArguments}
pub use Rattle.protocol.specs.declared.write_memory.WriteMemoryArguments.{WriteMemoryArguments}
pub use Rattle.queues.specs.Arrivals.{first_pending, is_repeat, others_pending}
pub use Rattle.queues.specs.declared.pending.Pending.{Pending}
pub use Rattle.replies.specs.declared.message.Message.TheVariants.{Event as IsEvent, Response}
pub use Rattle.replies.specs.declared.message.Message.{Message}
pub use Rattle.replies.specs.declared.response.Outcome.TheVariants.{Done}
pub use Rattle.replies.specs.declared.response.ResponseBody.{ResponseBody}
pub use Rattle.rv32i.specs.declared.hart.Hart.{Hart}
pub use Rattle.rv32i.specs.declared.instr.Instr.{Instr}
pub use Rattle.rv32i.specs.declared.stepped.Stepped.{Stepped}
pub use Rattle.session.specs.Acts.{Act, Become, given_of, Now, refers, Tell}
pub use Rattle.session.specs.Effects.{after_all, after_beat, answer, beats, beats_on, BreaksOff, effect, Ends, EndsWell, enough, from_here, MayLack, moves_asked, next_beat, next_by, performed, ran_out, ran_out_at, slice_answer, sliced, Slicing, World}
pub use Rattle.session.specs.Kept.{draft_on, draft_told, drafted, Drafted, drafted_all, Goes, Happens, HasNumbers, keepings, keeps, Kept, kept_changed, kept_of, nothing_kept, Stands}
pub use Rattle.session.specs.Kinds.{initializes, is_resume}
pub use Rattle.session.specs.Outcomes.{answer_to, answering, closing, is_owed, is_to_tell, needs_memory, next_turn, outcome, wanted_on}
pub use Rattle.session.specs.Phases.{is_active}
pub use Rattle.session.specs.Private.Beats.{concluded, Decides, going, Moved, moved_by, outcome_events, owed_of, Reached, Stretches, tick_events, unless_memory}
pub use Rattle.session.specs.Private.Preparing.{draft_of, IsPrepared}
pub use Rattle.session.specs.Sessions.{Beginning, Effect, histories, Life, life_of, lives, no_life, performed_on, said_on, Session, start}
pub use Rattle.session.specs.Slices.{beat, Beat, beat_by, beat_of, becomes, concludes, ending_of, ends, exits, goes, goes_unless, halts, is_at_limit, is_runnable_by, IsFree, logged, makes_move, moves, moves_by, output_events, printed_events, stops, telling}
pub use Rattle.session.specs.declared.event.Applied.{Applied}
pub use Rattle.session.specs.declared.event.Event.TheVariants.{Slice}
pub use Rattle.session.specs.declared.event.Event.{Event}
pub use Rattle.session.specs.declared.event.EventError.{EventError}
pub use Rattle.session.specs.declared.event.SliceEnd.{SliceEnd}
pub use Rattle.session.specs.declared.limits.Limits.{Limits}
pub use Rattle.session.specs.declared.link.Link.{Link}
pub use Rattle.session.specs.declared.prepared.Prepared.{Prepared}
pub use Rattle.session.specs.declared.slices.Step.{Step}
pub use Rattle.session.specs.declared.state.TheConstants.{FULL}
pub use Rattle.std.proofs.Common.{[], ap, append-nil, append_assoc, arith, Bool, cond, drop, eqb, Err, false, filter, get_or, inl, inr, leb, length, List, lt-ltb, ltb, map, None, Ok, Option, refl, Result, Some, subst, suc, sym, true, zero, ℕ, ℤ, ◌*◌, ◌++◌, ◌+◌, ◌-◌, ◌<◌, ◌∙◌, ◌∷◌, ◌≡◌, ◌≤◌, ◌⊎◌}
pub use Rattle.std.proofs.lemmas.Bool.Decides.{nat_tests}
pub use Rattle.std.proofs.lemmas.Bool.{and_from, cases_Bool, not-false, or_left, or_right, true≢false}
pub use Rattle.std.proofs.lemmas.Option.{same_Some}
pub use Rattle.std.specs.Prelude.{All, filter_map, IfOk, IfSome, int_le, IsTrue, MatchResult, neg_ℤ, not, pos, slice_index, take, ⊤, ◌&&◌, ◌^◌, ◌≤ℤ◌}
pub use Rattle.std.specs.declared.alloc.AllocError.{AllocError}
pub use Rattle.stepping.proofs.Cases.{by_tick}
pub use Rattle.stepping.proofs.Existing.{the_tick}
pub use Rattle.stepping.specs.Goals.{turns_back}
pub use Rattle.stepping.specs.Ticks.{Debugged, entry_checked, entry_tick, gone_back, hit_at_pc, IsTick, looked_at, moved_as, settled, tick_of, undone, undone_by}
pub use Rattle.stepping.specs.declared.goal.Goal.TheVariants.{ReverseGo}
pub use Rattle.stepping.specs.declared.goal.Goal.{Goal}
pub use Rattle.stepping.specs.declared.tick.Outcome.TheVariants.{Ended, Stopped, Went}
pub use Rattle.stepping.specs.declared.tick.Outcome.{Outcome}
pub use Rattle.stepping.specs.declared.tick.Tick.{Tick}
pub use Rattle.variables.specs.Numbers.{has_room, Numbers}

-- what holds of either choice holds of the one that is made
pub if_keeps : {A : Type 0} (P : A → Type 0) (b : Bool) (x y : A) → (b ≡ true → P x) → (b ≡ false → P y) → P (cond b x y)
if_keeps P true x y f g = f refl
if_keeps P false x y f g = g refl
