-- What most proofs here speak of, under one name.
pub use Rattle.assembler.specs.Assembled.{AssembledIsNarrow, AssembledIsPlaced, code_bytes, image_by, image_of, IsNarrowRow, part_of, parts_of, PlacedIsAssembled, PlacedIsLoadable}
pub use Rattle.assembler.specs.Contents.{address_of, and_then, AreParts, AreWords, branch_offset, call, Code, Coded, coded_branch, coded_jump, Contained, content_at, content_error, content_of, defined, distance, distance_of, IsContent, IsPart, IsWord, item_bytes, items_bytes, jump_offset, load_address, lower, one, plain, Plain, store_lower, target_of, upper, value_of, with_more, wrong_in}
pub use Rattle.assembler.specs.Errors.{at, error_in, first_of, reported, Reports}
pub use Rattle.assembler.specs.Placed.{error_by, memory_end, Placed, placed, PlacedIsUnique}
pub use Rattle.assembler.specs.Places.{bytes_in, defines_twice, end_of, end_of_line, entry_of, error_at, first_start, is_aligned, labels_at, labels_in, misplaced, or_first, padding, Place, place, place_error, places, row_of, rows_at, rows_in, size_at, size_of, start, words_at, words_of}
pub use Rattle.assembler.specs.Private.Steps.{after, Appends, IsLayout, reported_at, reported_kind, ReportsKind, up_to, Writes}
pub use Rattle.assembler.specs.Program.{kept, line_at, line_then, read_by, read_lines, read_text, says_nothing, source, text_limit, whole_error}
pub use Rattle.assembler.specs.declared.error.AsmError.{AsmError}
pub use Rattle.assembler.specs.declared.error.AsmErrorKind.{AsmErrorKind}
pub use Rattle.assembler.specs.declared.program.Source.{Source}
pub use Rattle.image.specs.Lines.{Label, labels_of, Row, RowsRise}
pub use Rattle.image.specs.Memory.{first_address, word_bytes}
pub use Rattle.rv32i.specs.Encoding.{Encodes}
pub use Rattle.rv32i.specs.declared.instr.Instr.{Instr}
pub use Rattle.statements.specs.Operations.{branch_instruction, immediate_instruction, lower_part, store_instruction, upper_part}
pub use Rattle.statements.specs.Reading.{line_of, meaning, read, said, said_at, said_by, statement_in, stating}
pub use Rattle.byte_strings.specs.Fields.{parted}
pub use Rattle.statements.specs.Spelling.{is_name, named, stripped}
pub use Rattle.statements.specs.declared.error.LineError.{LineError}
pub use Rattle.statements.specs.declared.line.Line.{Line}
pub use Rattle.statements.specs.declared.operations.Condition.{Condition}
pub use Rattle.statements.specs.declared.operations.ImmediateOperation.{ImmediateOperation}
pub use Rattle.statements.specs.declared.operations.StoreOperation.{StoreOperation}
pub use Rattle.statements.specs.declared.statement.Statement.{Statement}
pub use Rattle.std.proofs.Common.{[], ap, append_assoc, arith, Bool, codes, cond, drop, eqb, Err, false, get_or, length, length-append, List, lit<, lit≤, ltb, map, None, Ok, Option, refl, Result, Some, String, subst, sym, true, ℕ, ◌%◌, ◌&&◌, ◌*◌, ◌++◌, ◌+◌, ◌-◌, ◌<◌, ◌==◌, ◌^◌, ◌∙◌, ◌∷◌, ◌≡◌, ◌≤◌}
pub use Rattle.std.proofs.lemmas.Bool.{and_from, and_parts, false_from_ne_true}
pub use Rattle.std.proofs.lemmas.Bool.Decides.{nat_tests}
pub use Rattle.std.proofs.lemmas.List.{append-nil, at_drop_all, at_drop_more, length-replicate}
pub use Rattle.std.specs.List.{list_all, list_any, onto_first, slice_split}
pub use Rattle.std.specs.Prelude.{All, IfSome, nat_le, nat_lt, not, ◌||◌}
pub use Rattle.std.specs.Str.{bytes_eq, is_utf8, IsUtf8}
pub use Rattle.std.specs.Str.Lines.{lines, lines_of_parts}
