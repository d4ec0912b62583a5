-- What most proofs here speak of, under one name.
pub use Rattle.answers.specs.Breakpoints.{Answer, entries_of, followed_by, list_of, next_after}
pub use Rattle.answers.specs.Conditions.{both, condition_of, Conditions, conditions_of, hit_of, if_expression, if_positive}
pub use Rattle.answers.specs.Disassemble.{disassembled, entries_from, entry, entry_by, word_in, wrapped}
pub use Rattle.answers.specs.EditorLines.{line_in_editor, line_in_image}
pub use Rattle.answers.specs.Expressions.{and_others, expression_of, if_shallow, is_number, IsExpression, names, registers_below, signs, spells, tree_among, with_number}
pub use Rattle.answers.specs.Laws.{AnswersAreProper, AreIssued, BytesAreProper, BytesAreRead, EachHasItsEntry, entries_in, EntriesAreProper, EntriesHaveTheirPlaces, EntriesTellTheList, ExpressionsAreRead, HoldsWords, IsNarrow, IsRead, NumbersFit, NumbersFollowEachOther, set_at_instructions, set_at_lines, set_by_body, SettingsAreProper, SettingsKeepWords, TextsAreDisassemblies, those_set, WritingsAreProper, WritingsFit}
pub use Rattle.answers.specs.Parts.{part}
pub use Rattle.answers.specs.Private.Steps.{end_in, first_in, frames_from, list_in}
pub use Rattle.answers.specs.ReadMemory.{bytes_from, can_begin, read, start_at, start_by}
pub use Rattle.answers.specs.SetVariable.{set_in, setting_of, with_register}
pub use Rattle.answers.specs.Spaces.{said, trimmed, without_leading_spaces, without_trailing_spaces}
pub use Rattle.answers.specs.StackTrace.{addresses, body_of, column_by, file_name, frame, frame_at, frames_given, indices, line_by, name_at, source_by, stack_trace}
pub use Rattle.answers.specs.Targets.{frame_of, frame_refusal, number_for, target_of}
pub use Rattle.answers.specs.declared.problem.Problem.{Problem}
pub use Rattle.answers.specs.declared.view.View.{View}
pub use Rattle.breakpoints.specs.Stops.{CanBeSet, Wanted, wanted_by}
pub use Rattle.breakpoints.specs.Texts.{IsTreeOf, Parses}
pub use Rattle.breakpoints.specs.Tokens.{IsTokens, Spells}
pub use Rattle.breakpoints.specs.Trees.{Binary, Enclosed, nesting, Number, Pc, Register, tokens_of, Tree, Unary}
pub use Rattle.breakpoints.specs.declared.token.Bracket.TheVariants.{Round, Square}
pub use Rattle.breakpoints.specs.declared.token.Infix.{Infix}
pub use Rattle.breakpoints.specs.declared.token.Infix.TheVariants.{And, AndThen, Equal, Greater, GreaterEqual, Less, LessEqual, Minus, NotEqual, Or, OrElse, Plus, ShiftLeft, ShiftRight, Times, Xor}
pub use Rattle.breakpoints.specs.declared.token.Token.{Token}
pub use Rattle.image.specs.Lines.{bind, covers, label_address, line_in, line_of, Row, start_of, Table}
pub use Rattle.image.specs.Memory.{byte_at, bytes_at, fault_at, first_address, has_bytes, little_endian, unless_fault}
pub use Rattle.message_parts.specs.EncodedBytes.{are_bytes}
pub use Rattle.numerals.specs.MemoryReferences.{address_in, address_of, offset_by}
pub use Rattle.numerals.specs.Numerals.{magnitude, magnitude_by, numeral, prefixed, within}
pub use Rattle.numerals.specs.Words.{word_by, word_of}
pub use Rattle.numerals.specs.declared.NumeralError.{NumeralError}
pub use Rattle.protocol.specs.declared.read_memory.ReadMemoryArguments.{ReadMemoryArguments}
pub use Rattle.protocol.specs.declared.refusal.Refusal.{Refusal}
pub use Rattle.protocol.specs.declared.refusal.Refusal.TheVariants.{NotWritable, OutsideMemory, TooMuch}
pub use Rattle.protocol.specs.declared.set_breakpoints.SourceBreakpoint.{SourceBreakpoint}
pub use Rattle.protocol.specs.declared.set_function_breakpoints.FunctionBreakpoint.{FunctionBreakpoint}
pub use Rattle.protocol.specs.declared.set_instruction_breakpoints.InstructionBreakpoint.{InstructionBreakpoint}
pub use Rattle.protocol.specs.declared.stack_trace.StackTraceArguments.{StackTraceArguments}
pub use Rattle.replies.specs.Responses.{IsOutcomeOf}
pub use Rattle.replies.specs.declared.response.Outcome.TheVariants.{Done}
pub use Rattle.replies.specs.declared.response.ResponseBody.TheVariants.{ReadMemory, SetFunctionBreakpoints, SetInstructionBreakpoints, SetVariable, StackTrace}
pub use Rattle.rv32i.specs.declared.hart.Hart.{Hart}
pub use Rattle.std.proofs.Common.{[], add-one, ap, append_assoc, arith, Bool, Bor, cond, div-le_self, drop, drop-cons, eqb, Err, false, get_or, IfOk, IfSome, inl, inr, leb, length, List, ltb, map, MatchOption, min, negsuc, None, not, of_z, Ok, Option, option_map, pos, refl, Result, reverse, rules, Some, subst, suc, sym, take, to_z, true, w64, zero, ℕ, ℤ, ◌%◌, ◌&&◌, ◌*ℤ◌, ◌*◌, ◌++◌, ◌+ℤ◌, ◌+◌, ◌-◌, ◌<◌, ◌==◌, ◌^◌, ◌||◌, ◌∙◌, ◌∷◌, ◌≡◌, ◌≢◌, ◌≤◌, ◌⊎◌}
pub use Rattle.std.proofs.lemmas.Bool.{and_from, and_parts, both_ways, eqb-true, le-leb, leb-true, lt-ltb, ltb-false, ltb-true, or_left, or_right}
pub use Rattle.std.proofs.lemmas.Bool.Decides.{nat_tests}
pub use Rattle.std.proofs.lemmas.Int.{ints}
pub use Rattle.std.proofs.lemmas.List.{append-nil, get_or-reverse, length-drop, length-map, length-reverse, length-take, reverse-append, reverse-reverse, take-append-drop, take_all}
pub use Rattle.std.proofs.lemmas.List.Elements.{All-cons, All-head, All-nil, All-set, All-tail, All-weaker}
pub use Rattle.std.proofs.lemmas.Str.Pattern.{drop_at_char, NoCharPasses-char, strip_prefix_char, strip_suffix_char}
pub use Rattle.std.specs.List.{list_all, list_any, range_with_len, take_while}
pub use Rattle.std.specs.Option.{unwrap_or}
pub use Rattle.std.specs.Prelude.{All, bit_and, bytes_eq, codes, find, is_some, IsTrue, slice_get, slice_index, ⊤}
pub use Rattle.std.specs.Result.{result_ok}
pub use Rattle.stepping.specs.Ticks.{Debugged}
pub use Rattle.variables.specs.Numbers.{number_from, number_in, Numbers, with_all, with_targets}
pub use Rattle.variables.specs.Registers.{counter, name_answer, numbers, register, registers_after, set_answer, unless_zero, value_answer, with_value}
pub use Rattle.variables.specs.declared.target.Target.{Target}
pub use Rattle.variables.specs.declared.target.Target.TheVariants.{Frame, Registers, Stack}
