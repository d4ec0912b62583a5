-- What most proofs here speak of, under one name.
pub use Rattle.assembler.proofs.Labelled.{added, looked_up}
pub use Rattle.assembler.specs.Contents.{address_of, and_then, branch_offset, call, Coded, coded_branch, coded_jump, content_at, content_error, content_of, defined, distance, item_bytes, items_bytes, jump_offset, load_address, lower, one, plain, store_lower, target_of, upper, value_of, with_more, wrong_in}
pub use Rattle.assembler.specs.Errors.{at, error_in, first_of, of_line}
pub use Rattle.assembler.specs.Placed.{error_by, error_of, placed}
pub use Rattle.assembler.specs.Places.{defines_twice, end_of, end_of_line, error_at, is_aligned, labels_at, labels_in, misplaced, Place, place, place_error, places, start}
pub use Rattle.assembler.specs.Program.{kept, line_then, read_by, read_lines, says_nothing, text_limit, whole_error}
pub use Rattle.assembler.specs.declared.error.AsmError.{AsmError}
pub use Rattle.assembler.specs.declared.error.AsmErrorKind.{AsmErrorKind}
pub use Rattle.byte_strings.proofs.Divided.{left}
pub use Rattle.diagnostics.specs.Diagnoses.{diagnosis, HasColumn, told}
pub use Rattle.diagnostics.specs.Errors.{content_errors, EachIsTold, error_if, errors_by, errors_in, errors_read, first_in, FirstIsReported, line_errors, line_in, lines_of, listed, located_among, memory_limit, misplaced_at, next_address, numbered, or_next, place_errors, program_errors, reading_errors, Source, stands, unread, value_in, with_label, with_labels}
pub use Rattle.diagnostics.specs.Findings.{errors_found, finding_of, findings_of, HaveColumns, located_in, program_of, source_of}
pub use Rattle.diagnostics.specs.Private.Steps.{all_read, content_steps, labels_after, LiesWithin, misplaced_so, said, said_lines, wrong_content, wrong_items, wrong_statement}
pub use Rattle.image.specs.Lines.{Label, labels_of}
pub use Rattle.image.specs.Memory.{first_address}
pub use Rattle.statements.specs.Reading.{label_before, read}
pub use Rattle.statements.specs.Spelling.{is_name, named}
pub use Rattle.statements.specs.declared.error.LineError.{LineError}
pub use Rattle.statements.specs.declared.line.Line.{Line}
pub use Rattle.std.proofs.Common.{[], ap, append_assoc, arith, Bool, cond, drop, Err, false, get_or, length, List, map, None, Ok, Option, refl, Result, Some, string_bytes, subst, suc, sym, true, Vec, vec_items, vec_len, zero, ℕ, ◌++◌, ◌+◌, ◌-◌, ◌<◌, ◌∙◌, ◌∷◌, ◌≡◌, ◌≤◌}
pub use Rattle.std.proofs.lemmas.Bool.{eqb-true, false_from_ne_true, or_parts}
pub use Rattle.std.proofs.lemmas.List.{append-nil, length-map}
pub use Rattle.std.proofs.lemmas.List.Elements.{All-head, All-map, All-tail, Contains-append_left, Contains-append_right, Contains-push}
pub use Rattle.std.specs.List.{All, Contains, flat_map, list_any, slice_split}
pub use Rattle.std.specs.Option.{option_copied, unwrap_or}
pub use Rattle.std.specs.Prelude.{IfOk, IfSome, if◌then◌else◌, is_some, nat_le, nat_lt, not, option_map, slice_get, ◌%◌, ◌&&◌, ◌==◌, ◌||◌}
pub use Rattle.std.specs.Str.{bytes_eq, is_utf8, IsUtf8}
pub use Rattle.std.specs.Str.Lines.{lines, lines_of_parts}
