-- What most proofs here speak of, under one name.
pub use Rattle.answers.proofs.ProperValues.{settings_are_proper, writings_are_proper, writings_fit}
pub use Rattle.answers.specs.Evaluate.{if_valued, unless_refused, valued}
pub use Rattle.answers.specs.Looking.{look_answer, looks_in}
pub use Rattle.answers.specs.Parts.{at_most, part}
pub use Rattle.answers.specs.ReadMemory.{bytes_from, can_begin, read, start_at, start_by}
pub use Rattle.answers.specs.Scopes.{body_by as scopes_by, given_by}
pub use Rattle.answers.specs.SetVariable.{has_name, set_in, set_variable, setting_of, with_register}
pub use Rattle.answers.specs.Targets.{number_for, target_of}
pub use Rattle.answers.specs.Variables.{asked_of, body_by, of_kind, variables_in}
pub use Rattle.answers.specs.declared.set_variable.Setting.{Setting}
pub use Rattle.answers.specs.declared.view.View.{View}
pub use Rattle.answers.specs.declared.write_memory.Writing.{Writing}
pub use Rattle.assembler.specs.Assembled.{assembled, IsNarrowRow}
pub use Rattle.breakpoints.specs.Stops.{Wanted}
pub use Rattle.course.specs.Positions.{IsFetched, past_left, Position}
pub use Rattle.debuggee.specs.Programs.{Debuggee, ended, entered, first_mark, first_run, is_ended, is_running, just_loaded, left, marked, marked_by, moved, next_tick, on_program, owing, owing_by, Program, restarted, resumed, run_after, run_left, stays, stopped, told, why_marked, with_functions, with_hart, with_instructions, with_program, with_source, written}
pub use Rattle.debuggee.specs.declared.run.Mark.{Mark}
pub use Rattle.debuggee.specs.declared.run.Run.{Run}
pub use Rattle.debuggee.specs.declared.run.Why.TheVariants.{Limit, Met}
pub use Rattle.debuggee.specs.declared.run.Why.{Why}
pub use Rattle.framing.proofs.Cutting.{reading_of-append}
pub use Rattle.framing.proofs.Framing.{frame_first, reading_is_right}
pub use Rattle.framing.proofs.Pasts.{nothing_stands}
pub use Rattle.framing.specs.Frames.{AreFrames, minimal_frame}
pub use Rattle.framing.specs.Reading.Tail.{Faulty, Partial}
pub use Rattle.framing.specs.Reading.{Reading, reading_of, Tail, with_bodies}
pub use Rattle.framing.specs.Streams.{fault_of, first_of, reading_after, TailIs}
pub use Rattle.handlers.specs.Breaks.{with_list}
pub use Rattle.handlers.specs.ConfigurationDone.{run_events}
pub use Rattle.handlers.specs.Demands.{goes_on, has_ended, has_none, is_no_thread, run_of}
pub use Rattle.handlers.specs.Disconnect.{departed, is_to_end, is_to_stand}
pub use Rattle.handlers.specs.Given.{Answering, Given}
pub use Rattle.handlers.specs.Launch.{assembles, error_text, loads}
pub use Rattle.handlers.specs.Looking.{demand, issues, looks_on, seen_in, shows_by}
pub use Rattle.handlers.specs.Refusals.{answer_by, first_refusal, is_cancelled, names_none, refusals, response_to, unmet, where_so}
pub use Rattle.handlers.specs.Requests.{demand_of, is_taken_in, success_of}
pub use Rattle.handlers.specs.Telling.{exit_events, log_event, reason_of, stop_event, text_of}
pub use Rattle.handlers.specs.Views.{view_of}
pub use Rattle.handlers.specs.declared.phase.Phase.{Phase}
pub use Rattle.handlers.specs.declared.terms.Terms.{Terms}
pub use Rattle.image.specs.Lines.{line_in, start_of, Table}
pub use Rattle.image.specs.Memory.{byte_at, bytes_at, fault_at, first_address, has_bytes, little_endian, memory_after, unless_fault, with_bytes, word_at}
pub use Rattle.image.specs.declared.fault.MemFault.{MemFault}
pub use Rattle.message_parts.specs.Forms.{AreTexts, text, texts_if, texts_of, whole}
pub use Rattle.message_parts.specs.declared.set_instruction_breakpoints.InstructionBreakpoint.{InstructionBreakpoint}
pub use Rattle.message_parts.specs.declared.variables.Variable.{Variable}
pub use Rattle.numerals.specs.Words.{word_of}
pub use Rattle.protocol.specs.Commands.{name_of}
pub use Rattle.protocol.specs.Laws.{AsksLinesWithin}
pub use Rattle.protocol.specs.Reading.{incoming_of}
pub use Rattle.protocol.specs.declared.command.Command.{Command}
pub use Rattle.protocol.specs.declared.command.Command.TheVariants.{Cancel, Continue, Evaluate, Launch, Next, Pause, ReadMemory, Restart, ReverseContinue, Scopes, SetBreakpoints, SetExceptionBreakpoints, SetFunctionBreakpoints, SetInstructionBreakpoints, SetVariable, StackTrace, StepBack, StepIn, StepOut, Threads, Variables, WriteMemory}
pub use Rattle.protocol.specs.declared.filter.Filter.TheVariants.{Indexed, Named}
pub use Rattle.protocol.specs.declared.filter.Filter.{Filter}
pub use Rattle.protocol.specs.declared.read_memory.ReadMemoryArguments.{ReadMemoryArguments}
pub use Rattle.protocol.specs.declared.refusal.Refusal.TheVariants.{AssemblyFailed, FileUnreadable, NotWritable, TooMuch}
pub use Rattle.protocol.specs.declared.refusal.Refusal.{Refusal}
pub use Rattle.protocol.specs.declared.request.Incoming.{Incoming}
pub use Rattle.protocol.specs.declared.request.Incoming.TheVariants.{Bad as IsBad, Ignored, Request as IsRequest}
pub use Rattle.protocol.specs.declared.request.MessageError.{MessageError}
pub use Rattle.protocol.specs.declared.set_variable.SetVariableArguments.{SetVariableArguments}
pub use Rattle.protocol.specs.declared.variables.VariablesArguments.{VariablesArguments}
pub use Rattle.queues.specs.Arrivals.{all_joined, Arrivals, asks_in, asks_of, cancelled_by, cancels, fault_in, is_above, is_named, is_repeat, joined, message_fault_of, name_asked, number_of, pending_with}
pub use Rattle.queues.specs.declared.pending.Ask.{Ask}
pub use Rattle.queues.specs.declared.pending.Ask.TheVariants.{Bad, Request}
pub use Rattle.queues.specs.declared.pending.Pending.{Pending}
pub use Rattle.range_laws.specs.Machines.{AreRegisters, IsByte, IsWord}
pub use Rattle.range_laws.specs.Requests.{GivesBytes}
pub use Rattle.replies.specs.Events.{event_texts, IsProperEvent}
pub use Rattle.replies.specs.Laws.{HasOutcomeTexts, HasTexts}
pub use Rattle.replies.specs.declared.event.Event.{Event as Told}
pub use Rattle.replies.specs.declared.message.Message.{Message}
pub use Rattle.replies.specs.declared.message.Message.TheVariants.{Event, Response}
pub use Rattle.replies.specs.declared.response.Outcome.{Outcome as Replied}
pub use Rattle.replies.specs.declared.response.Outcome.TheVariants.{Done, Refused}
pub use Rattle.replies.specs.declared.response.ResponseBody.{ResponseBody}
pub use Rattle.rv32i.specs.Encoding.{Encodes, IsDecoding}
pub use Rattle.rv32i.specs.Machine.{Machine, machine_of, sum}
pub use Rattle.rv32i.specs.declared.hart.Hart.{Hart}
pub use Rattle.rv32i.specs.declared.instr.Instr.{Instr}
pub use Rattle.rv32i.specs.declared.stepped.Stepped.TheVariants.{Exit, Trap}
pub use Rattle.rv32i.specs.declared.stepped.Stepped.{Stepped}
pub use Rattle.session.proofs.Advancing.{move_leaves}
pub use Rattle.session.proofs.Breaking.{answer_on, ids_are_words, is_plain, IsPlain}
pub use Rattle.session.proofs.ByMove.{by_move}
pub use Rattle.session.proofs.BySuccess.{agreed_body, agrees, by_success, BySuccess, Has, has_program, IsAboutProgram, Looks, SetsList, step_body, steps}
pub use Rattle.session.proofs.Enough.{each_ends, Follows, is_sliced, stays_ended}
pub use Rattle.session.proofs.Orderly.{AreWords, departed_orderly, ended_orderly, entered_orderly, exit_is_proper, first_run_orderly, hart_orderly, ids_are_words as named_are_words, left_orderly, listed_orderly, loaded_orderly, log_is_proper, marked_orderly, moved_orderly, next_fits, Orderly, OrderlyIn, OrderlyOf, output_is_proper, owed_fits, restarted_orderly, resumed_orderly, stop_is_proper, stopped_orderly, told_orderly, with_orderly, written_orderly}
pub use Rattle.session.proofs.Reaching.{each_life, if_keeps, KeptByActs, led_append, performed_append, reached, reached_by_acts, whole_events}
pub use Rattle.session.proofs.Serving.{IsRefusalOf, Meets, not_taken, of_answer}
pub use Rattle.session.specs.Acts.{Accept, Act, Agree, Become, Close, fault_of_reading, fault_or, given_of, HangUp, Now, Open, read_on, Refer, refers, Reply, Seen, tail_kept, Take, Tell}
pub use Rattle.session.specs.Config.{first_program, given, HasImage}
pub use Rattle.session.specs.Effects.{after_all, after_beat, beats, beats_on, Ends, EndsWell, enough, from_here, moves_asked, next_beat, next_by, performed, ran_out, sliced, Slicing, with_beat}
pub use Rattle.session.specs.Kinds.{initializes, is_resume, is_success}
pub use Rattle.session.specs.Limits.{are_limits}
pub use Rattle.session.specs.Outcomes.{answer_to, answering, answers_next, closing, done, holding, leaving, next_turn, Outcome, outcome, outcome_at, refused, turn_by, turn_of}
pub use Rattle.session.specs.Phases.{is_active, is_configuring}
pub use Rattle.session.specs.Prefixes.{IsPrefixOf}
pub use Rattle.session.specs.Private.Beats.{concluded}
pub use Rattle.session.specs.Reached.{Cut, Happened, leaves, led_to, OfEvent, Reached, Whole}
pub use Rattle.session.specs.References.{ended as references_ended, issued_all, issued_one, past_of, past_referred, Reference, References, referred, unless_issued, without_connection}
pub use Rattle.session.specs.Sessions.{accepted_on, accepting, agreed_on, Answer, Beginning, bytes_of, Effect, frame_said, histories, hung_on, is_faulty, Life, life_of, no_life, opened_on, performed_on, referred_on, replied_on, Said, said_next, said_on, saying, Session, start, up_to_fault, with_said, with_taken}
pub use Rattle.session.specs.Slices.{beat, Beat, beat_by, beat_of, becomes, concludes, ending_of, ends, exits, goes, goes_unless, halts, is_at_limit, is_runnable_by, logged, makes_move, moves_by, output_events, runs, stops, telling, tells}
pub use Rattle.session.specs.declared.TheConstants.{BODY_LIMIT}
pub use Rattle.session.specs.declared.event.Applied.{Applied}
pub use Rattle.session.specs.declared.event.Applied.TheVariants.{Connect as Connected, DropConnection as Dropped, Hold as Held, Recv as Received, Sent as DidSend, Turn as DidTurn}
pub use Rattle.session.specs.declared.event.Event.{Event as AnEvent}
pub use Rattle.session.specs.declared.event.Event.TheVariants.{Connect, DropConnection, Hold, Recv, Sent, Slice, Turn}
pub use Rattle.session.specs.declared.event.EventError.{EventError}
pub use Rattle.session.specs.declared.event.EventError.TheVariants.{AlreadyConnected, Busy, Closing, NoMemory, NotConnected, PieceTooLong, SentTooMuch, Spent}
pub use Rattle.session.specs.declared.event.LinkFault.{LinkFault}
pub use Rattle.session.specs.declared.event.SliceEnd.{SliceEnd}
pub use Rattle.session.specs.declared.limits.Limits.{Limits}
pub use Rattle.session.specs.declared.link.Link.{Link}
pub use Rattle.session.specs.declared.state.TheConstants.{FULL, LAST_CONNECTION, MOST_PENDING, MOST_PIECE}
pub use Rattle.session_laws.specs.Editors.{AreTold, fed_in, first_told, IsEditor, IsTold, requests_in, sent_in, told_first}
pub use Rattle.session_laws.specs.Headline.{known_within, MirrorsHoldWhatWasSo, WereSo}
pub use Rattle.session_laws.specs.Laws.{answered_as, answered_in, AnswersAreProper, AnswersInOrder, AreNumberedFrom, asked_as, asked_in, CutsDoNotMatter, Disconnects, EditorLeaves, EveryByteIsTakenOrWaits, FaultIsOfTheBytes, initializes_by, InitializesOnce, IsAtRest, IsMarked, IsStop, IsTaken, LivesAreNumbered, MarkedRetiresNone, names, NumbersRise, PauseMarks, Pauses, pending_as, RefusedChangesNothing, RequestsAreRead, RetiresNone, RetiresNoneIn, RunsAreTold, RunsAs, SaysItsRun, SlicesEnd, SlicesJoin, times_initialized}
pub use Rattle.session_laws.specs.Lifetimes.{is_of_other_kind, IsStale, IsUnknown, outcome_next, reference_in, ReferencesAreGood, ReferencesLast, ReferencesRise, ReferencesStand, WasIssued}
pub use Rattle.session_laws.specs.Turns.{Answered, answered_by, answered_on, answered_with, first_answered, next_answered}
pub use Rattle.std.proofs.Common.{[], ap, append-nil, append_assoc, arith, Bool, cond, drop, eqb, Err, false, get_or, inl, inr, is_some, leb, length, List, ltb, ltb-true, map, MatchBool, MatchResult, negsuc, None, Ok, Option, pos, refl, Result, Some, subst, suc, sym, take, take-append-drop, true, zero, ℕ, ℤ, ◌*◌, ◌++◌, ◌+◌, ◌-◌, ◌<◌, ◌∙◌, ◌∷◌, ◌≡◌, ◌≤◌, ◌⊎◌}
pub use Rattle.std.proofs.Math.Seq.{drop-append_seam, take-append-add, take-append_seam}
pub use Rattle.std.proofs.lemmas.Bool.{agree_below_at, and_from, and_parts, and_right, cond-false, cond-true, eqb-false, eqb-true, lt-ltb, ltb-false, or_parts}
pub use Rattle.std.proofs.lemmas.Bool.Decides.{nat_tests}
pub use Rattle.std.proofs.lemmas.List.Folds.{find_at, list_all-append, list_any-append}
pub use Rattle.std.proofs.lemmas.List.Sums.{AllPass-from_list_all, sum_by-le}
pub use Rattle.std.proofs.lemmas.List.{get_or-append-add, length-append, length-map, map-append, map-id, take_at}
pub use Rattle.std.proofs.lemmas.List.Elements.{All-cons, All-filter, All-head, All-nil, All-push, All-tail, All-take, All-weaker}
pub use Rattle.std.proofs.lemmas.Option.{IfSome_then, same_Some}
pub use Rattle.std.specs.Prelude.{All, bytes_eq, codes, flat_map, IfOk, IfSome, if◌then◌else◌, IsTrue, MatchOption, not, slice_get, ⊤, ◌&&◌, ◌==◌, ◌^◌, ◌||◌, ◌↔◌}
pub use Rattle.std.specs.Result.{result_err, result_ok}
pub use Rattle.std.specs.declared.alloc.AllocError.{AllocError}
pub use Rattle.stepping.proofs.Cases.{back_of, by_tick, Enters, GoesBack, tick_of_entry, tick_of_move}
pub use Rattle.stepping.proofs.Existing.{the_tick}
pub use Rattle.stepping.specs.Goals.{turns_back}
pub use Rattle.stepping.specs.RunLaws.{GoOn, HasSignedCode, number_after, Says}
pub use Rattle.stepping.specs.Ticks.{back_outcome, Debugged, entry_checked, entry_tick, gone_back, hit_at_pc, IsTick, looked_at, moved_as, Moves, outcome_of, settled, Settles, undone, undone_by}
pub use Rattle.stepping.specs.declared.goal.Goal.TheVariants.{Go, ReverseGo}
pub use Rattle.stepping.specs.declared.goal.Goal.{Goal}
pub use Rattle.stepping.specs.declared.tick.Outcome.{Outcome as CameTo}
pub use Rattle.stepping.specs.declared.tick.Outcome.TheVariants.{Ended, Stopped, Went}
pub use Rattle.stepping.specs.declared.tick.Reason.TheVariants.{Exception, Start}
pub use Rattle.stepping.specs.declared.tick.Tick.{Tick}
pub use Rattle.text_laws.proofs.Plain.{all_plain, are_plain, is_plain_byte, plain_passes, plain_utf8}
pub use Rattle.text_laws.proofs.Sizes.{plain_texts_stand, texts_are_escaped}
pub use Rattle.text_laws.specs.Lengths.{most_bytes, most_of_body, most_of_event, most_of_frame, most_of_instruction, most_of_instruction_breakpoint, most_of_outcome, most_of_source, most_of_source_breakpoint, most_of_variable, written_length, written_length_if}
pub use Rattle.variables.specs.Laws.{Call, down_from}
pub use Rattle.variables.specs.Numbers.{at_next_stop, found_in, has_room, InOrder, next_of, Numbers, StandsFor, with_targets}
pub use Rattle.variables.specs.References.{found_among, is_same, next_after}
pub use Rattle.variables.specs.Registers.{name_answer, unless_zero}
pub use Rattle.variables.specs.Values.{value_of}
pub use Rattle.variables.specs.declared.target.Target.TheVariants.{Frame, Registers, Stack}
pub use Rattle.variables.specs.declared.target.Target.{Target}
