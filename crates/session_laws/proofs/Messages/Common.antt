-- What most proofs here speak of, under one name.
pub use Rattle.answers.specs.Answers.{breaks_answer}
pub use Rattle.answers.specs.Breakpoints.{Answer, entries_of, followed_by, list_of, message_of, next_after}
pub use Rattle.answers.specs.Conditions.{both, Conditions, conditions_of}
pub use Rattle.answers.specs.EditorLines.{line_in_image}
pub use Rattle.answers.specs.Expressions.{expression_of}
pub use Rattle.answers.specs.Laws.{HoldsWords}
pub use Rattle.answers.specs.Spaces.{said}
pub use Rattle.answers.specs.StackTrace.{addresses, file_name, frame_at, frames_given, indices, name_at, name_by, source_by}
pub use Rattle.answers.specs.Texts.{text_at, text_at-is}
pub use Rattle.answers.specs.WriteMemory.{fitting, write_memory}
pub use Rattle.answers.specs.declared.view.View.{View}
pub use Rattle.answers.specs.declared.write_memory.Writing.{Writing}
pub use Rattle.assembler.specs.Errors.{kind_name}
pub use Rattle.assembler.specs.Placed.{error_of}
pub use Rattle.assembler.specs.declared.error.AsmError.{AsmError}
pub use Rattle.breakpoints.specs.Stops.{checked, counted, fresh, ids_where, is_hit, Lists, log_at, log_of, Placed, reset, stands, stops}
pub use Rattle.breakpoints.specs.Trees.{Tree}
pub use Rattle.handlers.specs.Launch.{error_text}
pub use Rattle.handlers.specs.Telling.{output_event}
pub use Rattle.handlers.specs.Views.{view_of}
pub use Rattle.image.specs.Lines.{bind, first_greatest, in_image, Label, label_at, line_of, place_of, Table, up_to}
pub use Rattle.protocol.specs.declared.refusal.Refusal.TheVariants.{AssemblyFailed, TooMuch}
pub use Rattle.protocol.specs.declared.set_breakpoints.SourceBreakpoint.{SourceBreakpoint}
pub use Rattle.protocol.specs.declared.write_memory.WriteMemoryArguments.{WriteMemoryArguments}
pub use Rattle.replies.specs.declared.response.Outcome.{Outcome}
pub use Rattle.session.proofs.Orderly.{Orderly, OrderlyIn, OrderlyOf}
pub use Rattle.session_laws.proofs.Common.{[], Accept, accepted_on, Act, Agree, agree_below_at, agreed_body, agreed_on, All, All-cons, All-filter, All-head, All-nil, All-push, All-tail, All-take, All-weaker, all_joined, all_plain, AllocError, and_from, and_parts, AnEvent, answer_on, answer_to, Answering, ap, are_limits, are_plain, AreFrames, AreTexts, arith, Arrivals, Ask, asked_of, asks_in, asks_of, assembled, at_most, Bad, beat, Beat, beat_by, beat_of, beats, Become, Beginning, body_by, BODY_LIMIT, Bool, by_move, by_success, by_tick, BySuccess, bytes_at, bytes_from, CameTo, Close, closing, codes, Command, concludes, Connect, Debugged, departed, drop, DropConnection, each_life, Effect, Encodes, Ended, ended, enough, entered, eqb, eqb-true, Err, Event, event_texts, Exception, Exit, exit_events, exits, false, fault_at, Faulty, Filter, first_address, first_program, first_run, Frame, FULL, get_or, given_of, Go, goes, goes_unless, halts, HangUp, Happened, Hart, HasImage, HasOutcomeTexts, HasTexts, histories, Hold, hung_on, if_keeps, if_valued, IfOk, IfSome, IfSome_then, Ignored, Incoming, incoming_of, Indexed, inl, inr, Instr, InstructionBreakpoint, is_active, is_at_limit, is_ended, is_plain_byte, is_runnable_by, is_running, is_to_end, is_to_stand, IsBad, IsRequest, IsTick, just_loaded, LAST_CONNECTION, Launch, leb, left, length, length-append, length-map, Life, life_of, Limit, Limits, Link, List, list_all-append, little_endian, log_event, logged, look_answer, looked_at, ltb, map, map-id, Mark, marked, marked_by, MemFault, Message, MessageError, Met, most_bytes, most_of_body, most_of_event, most_of_frame, most_of_instruction, most_of_instruction_breakpoint, most_of_outcome, most_of_source, most_of_source_breakpoint, most_of_variable, MOST_PENDING, MOST_PIECE, moved, name_asked, name_of, Named, nat_tests, negsuc, next_by, next_tick, no_life, None, not, Now, Numbers, of_answer, of_kind, Ok, on_program, Open, opened_on, Option, or_parts, outcome_at, output_events, part, Partial, Pending, performed, performed_on, plain_passes, plain_texts_stand, plain_utf8, pos, Position, Program, reached, Reached, reached_by_acts, read, read_on, reading_after, reading_is_right, ReadMemoryArguments, Recv, Refer, referred_on, refl, Refusal, Refused, Registers, replied_on, Reply, Request, Response, response_to, ResponseBody, restarted, Result, result_ok, resumed, ReverseGo, Run, run_events, run_of, Said, said_next, said_on, saying, scopes_by, Seen, Sent, Session, set_in, set_variable, SetBreakpoints, SetFunctionBreakpoints, SetInstructionBreakpoints, Setting, setting_of, SetVariableArguments, Slice, slice_get, SliceEnd, Some, Stack, start, Start, start_at, start_by, step_body, Stepped, stop_event, Stopped, subst, suc, sum, sum_by-le, sym, Tail, take, Take, Target, target_of, Tell, telling, tells, Terms, text, text_of, texts_are_escaped, texts_if, texts_of, the_tick, Tick, Told, told, Trap, true, Turn, undone, undone_by, unless_fault, unless_refused, value_of, valued, Variable, variables_in, VariablesArguments, Wanted, Went, whole, Why, why_marked, with_hart, with_list, with_targets, word_of, written, written_length, written_length_if, zero, ℕ, ℤ, ◌&&◌, ◌*◌, ◌++◌, ◌+◌, ◌-◌, ◌<◌, ◌^◌, ◌∙◌, ◌∷◌, ◌≡◌, ◌≤◌, ◌⊎◌}
pub use Rattle.session_laws.specs.Messages.{HasPath, IsPath, MessagesAreReadable, MessagesAreShort, TextsAreUtf8}
pub use Rattle.std.proofs.Common.{decimal, IsUtf8, min, option_map, reverse, ◌%◌, ◌+ℤ◌, ◌/◌}
pub use Rattle.std.proofs.lemmas.Bool.{leb-true}
pub use Rattle.std.proofs.lemmas.List.{length-drop, length-reverse, length-take}
pub use Rattle.std.proofs.lemmas.List.Elements.{All-append, All-drop, All-map}
pub use Rattle.std.proofs.lemmas.Str.{IsUtf8-append}
pub use Rattle.std.specs.Fmt.{digit_glyph, digits, digits_onto, signed_decimal}
pub use Rattle.std.specs.List.{AllByRecursion, cons_option, list_all, prefix_len, range_with_len, sum_by, take_while}
pub use Rattle.std.specs.Prelude.{filter, filter_map, find, nat_le, slice_index}
pub use Rattle.stepping.specs.Ticks.{moved_as, settled}
pub use Rattle.stepping.specs.declared.goal.Goal.{Goal}
pub use Rattle.text_laws.specs.Texts.{IsPlain, IsPlainByte, IsTextWithin}
