-- What most proofs here speak of, under one name.
pub use Rattle.answers.specs.StackTrace.{addresses, frames_given, indices}
pub use Rattle.breakpoints.specs.Stops.{checked, counted, fresh, is_hit, Lists, Placed, reset, with_hit}
pub use Rattle.facts.specs.Facts.{Facts, nothing_known}
pub use Rattle.facts.specs.declared.breakpoint.BreakInfo.{BreakInfo}
pub use Rattle.facts.specs.declared.frame.FrameInfo.{FrameInfo}
pub use Rattle.facts.specs.declared.run.RunState.{RunState}
pub use Rattle.facts.specs.declared.run.RunState.TheVariants.{Running, Unknown}
pub use Rattle.handlers.specs.ConfigurationDone.{begins, joins, run_events}
pub use Rattle.handlers.specs.Phases.{first_terms, is_active_in, is_configuring_in, is_debugging_in, is_fresh_in, is_initialized_in}
pub use Rattle.handlers.specs.Successes.{agreeing, refusing, resuming}
pub use Rattle.handlers.specs.declared.phase.Phase.TheVariants.{Active, Configuring, Fresh, Initialized, Left}
pub use Rattle.mirror.specs.Folding.{after_variable, after_variables, answered, folded, frame_of, happened, in_state, listed, over, succeeded, valued, verified_at, verified_instruction}
pub use Rattle.mirror.specs.Requests.{asked_of, kept_first, register_of, told_of}
pub use Rattle.mirror.specs.declared.asked.Asked.{Asked}
pub use Rattle.numerals.specs.MemoryReferences.{address_in, offset_by}
pub use Rattle.protocol.specs.declared.request.Request.{Request}
pub use Rattle.queues.specs.Arrivals.{fate_of_cancel}
pub use Rattle.queues.specs.declared.pending.Fate.{Fate}
pub use Rattle.queues.specs.declared.pending.Fate.TheVariants.{Cancelled, Repeated, Waits}
pub use Rattle.replies.specs.declared.event.Event.TheVariants.{Continued, Exited, Output, Terminated}
pub use Rattle.replies.specs.declared.event.Event.{Event}
pub use Rattle.replies.specs.declared.message.Message.TheVariants.{Event as IsEvent}
pub use Rattle.replies.specs.declared.response.ResponseBody.TheVariants.{Empty}
pub use Rattle.session.proofs.Orderly.{Orderly, OrderlyIn, OrderlyOf}
pub use Rattle.session.specs.Acts.{numbered}
pub use Rattle.session.specs.Effects.{ended_as}
pub use Rattle.session.specs.Sessions.{snapshot_of}
pub use Rattle.session_laws.proofs.ByForms.{accepts_by, after_answer, on, on_with, opens_by, said_by, with_change}
pub use Rattle.session_laws.proofs.Cases.{OwesNothing}
pub use Rattle.session_laws.proofs.Common.{[], accepting, Act, after_beat, agreed_body, agrees, All, All-cons, All-head, All-nil, All-push, All-tail, All-take, All-weaker, all_joined, AllocError, AllPass-from_list_all, and_parts, AnEvent, answer_on, answer_to, answering, Answering, answers_next, ap, append-nil, append_assoc, AreFrames, AreRegisters, AreTold, arith, Arrivals, Ask, asks_of, AssemblyFailed, at_most, at_next_stop, Bad, beat, Beat, beat_by, beat_of, beats, Become, becomes, Beginning, Bool, by_move, by_success, by_tick, BySuccess, byte_at, bytes_eq, bytes_from, bytes_of, can_begin, Cancel, cancelled_by, cancels, closing, codes, Command, concludes, cond, cond-false, cond-true, Connect, Continue, Cut, Debugged, Debuggee, demand_of, departed, Done, drop, drop-append_seam, DropConnection, each_ends, each_life, Effect, Ended, ended, ending_of, ends, enough, entered, entry_checked, eqb, eqb-false, eqb-true, Err, error_text, Exit, exit_events, exits, false, fault_at, fed_in, FileUnreadable, Filter, find_at, first_address, first_program, first_run, first_told, flat_map, Frame, frame_first, frame_said, FULL, get_or, Given, given_of, GivesBytes, Goal, goes, goes_on, goes_unless, halts, HangUp, Happened, Hart, has_bytes, has_ended, has_none, has_program, HasTexts, histories, Hold, holding, hung_on, if_keeps, IfOk, Indexed, inl, inr, Instr, InstructionBreakpoint, is_above, is_active, is_at_limit, is_ended, is_named, is_repeat, is_runnable_by, is_running, is_same, is_some, is_success, is_taken_in, is_to_end, is_to_stand, IsEditor, IsPrefixOf, issues, IsTick, IsTold, IsTrue, joined, known_within, LAST_CONNECTION, leaves, leaving, leb, led_append, left, length, length-append, Life, life_of, Link, List, list_any-append, loads, log_event, logged, looked_at, Looks, looks_in, lt-ltb, ltb, ltb-false, ltb-true, makes_move, map, map-append, Mark, marked, marked_by, MatchOption, Meets, MemFault, memory_after, Message, MessageError, Met, minimal_frame, MirrorsHoldWhatWasSo, MOST_PENDING, MOST_PIECE, moved, moved_as, moves_by, name_answer, name_of, Named, nat_tests, Next, next_by, next_tick, next_turn, no_life, None, not, NotWritable, Now, number_for, number_of, Numbers, of_answer, Ok, on_program, Open, Option, outcome_at, outcome_next, output_events, part, Partial, Pending, pending_with, performed, performed_append, performed_on, Phase, Position, Program, reached, Reached, read, read_on, reading_is_right, ReadMemory, ReadMemoryArguments, Recv, reference_in, referred, refl, Refusal, Refused, Registers, Replied, replied_on, requests_in, Response, response_to, ResponseBody, restarted, Result, resumed, ReverseContinue, ReverseGo, Run, run_of, runs, Said, said_next, said_on, saying, Seen, seen_in, Sent, sent_in, Session, set_in, SetBreakpoints, SetExceptionBreakpoints, SetFunctionBreakpoints, SetInstructionBreakpoints, SetsList, Setting, setting_of, settled, SetVariableArguments, Slice, slice_get, sliced, SliceEnd, Slicing, Some, Stack, StackTrace, start, start_at, start_by, step_body, StepBack, StepIn, StepOut, Stepped, steps, stop_event, stopped, Stopped, stops, subst, suc, success_of, sym, Table, TailIs, Take, take, take-append-add, take-append-drop, take-append_seam, Target, target_of, Tell, telling, tells, Terms, the_tick, Threads, Tick, told, told_first, TooMuch, Trap, true, Turn, turn_by, turn_of, undone_by, unless_zero, value_of, Variable, Variables, VariablesArguments, View, view_of, Wanted, Went, WereSo, Whole, Why, why_marked, with_beat, with_bytes, with_functions, with_hart, with_instructions, with_list, with_register, with_said, with_source, with_targets, word_of, Writing, writings_fit, written, zero, ℕ, ℤ, ⊤, ◌&&◌, ◌++◌, ◌+◌, ◌-◌, ◌<◌, ◌^◌, ◌||◌, ◌∙◌, ◌∷◌, ◌≡◌, ◌≤◌, ◌⊎◌}
pub use Rattle.session_laws.proofs.Joined.{at_end, histories_follow, program_of}
pub use Rattle.session_laws.proofs.Turning.{beat_keeps, begins_so, Both, BoundsIn, KeptByEvents, outcome_keeps, reached_by_events}
pub use Rattle.session_laws.specs.Concluding.{known_after, last_seen, remembered, told_within, WasSo, WhatIsKnownWasSo}
pub use Rattle.session_laws.specs.Holding.{HasEnded, Holds, HoldsAt, HoldsRun}
pub use Rattle.session_laws.specs.Known.{AllKnown, first_asked, IsKnown, IsKnownBy, IsKnownIn, SuccessesAreKnown}
pub use Rattle.session_laws.specs.News.{as_running, IsAtRest, IsFollowed, IsSeenAfter, says_output, seen_at, seen_now, sight, Sight, sight_by, Spends}
pub use Rattle.session_laws.specs.Printed.{PrintsRunning, WhatIsPrintedRuns}
pub use Rattle.snapshots.specs.Shown.{frame_at, frame_in, info_of, listed_at, or_zero, register_at, shown, shown_by, shown_of, Snapshot, state_of}
pub use Rattle.std.proofs.Common.{fold, min}
pub use Rattle.std.proofs.lemmas.Bool.{eq-eqb, le-leb, le-ltb, leb-false, leb-true, lt-leb, ne_eqb, not-false, not-true, or_left, or_right}
pub use Rattle.std.proofs.lemmas.List.{get_or-set_other, get_or-set_same, get_or_push, length-drop, length-take, take-append-le, take_all}
pub use Rattle.std.proofs.lemmas.List.Elements.{All-drop, All-map}
pub use Rattle.std.proofs.lemmas.Option.{same_Some, slice_get-get_or, slice_get-map, slice_get_within}
pub use Rattle.std.specs.List.{cons_option, filter_map, list_all, position_or_len, range_with_len}
pub use Rattle.std.specs.Option.{option_or}
pub use Rattle.std.specs.Prelude.{find, nat_le, option_and_then, option_map, slice_index, unwrap_or, ◌%◌}
pub use Rattle.stepping.specs.declared.tick.Outcome.{Outcome}
pub use Rattle.variables.specs.Numbers.{has, number_from, number_in, with_all, with_one}
