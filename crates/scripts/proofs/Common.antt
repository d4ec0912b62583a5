-- What most proofs here speak of, under one name.
pub use Rattle.scripts.specs.Joining.{AreJoined, due, joined, slice_of, waiting_of, waits, written_of}
pub use Rattle.scripts.specs.Laws.{all_for, HaveLines, IsInRange}
pub use Rattle.scripts.specs.Lines.{coming, cut_of, fitting, moves, sending, small, step_of, taken, watch_of, watching, wide, with_path, words_round}
pub use Rattle.scripts.specs.Private.Steps.{Adds, first_line, following, line_before, Refuses, rest_after, rest_of_lines}
pub use Rattle.scripts.specs.Recordings.{Holds, or_last, recorded, recorded_of, step_or, whole_lines, whole_of_parts}
pub use Rattle.scripts.specs.Scripts.{before, last, line_then, read, Reads, script_of}
pub use Rattle.scripts.specs.Writing.{after_header, body_if, can_end_line, has_line, in_one_line, line_of, piece_line, text_of, watch_all, written}
pub use Rattle.scripts.specs.declared.step.Step.{Step}
pub use Rattle.scripts.specs.declared.step.Step.TheVariants.{Connect, DropConnection, Hold, Recv, Sent, Slice, Turn}
pub use Rattle.scripts.specs.declared.watch.Watch.{Watch}
pub use Rattle.std.proofs.Common.{[], ap, append-nil, append_assoc, arith, Bool, bytes_eq, codes, decimal, drop, Err, false, get_or, IfSome, if◌then◌else◌, inl, inr, is_none, is_some, length, length-append, length-drop, length-take, List, nat_le, nat_lt, None, not, Ok, Option, refl, Result, slice_index, slice_index_or, Some, subst, suc, sym, take, take-take, take_all, take_at, true, zero, ℕ, ◌%◌, ◌&&◌, ◌*◌, ◌++◌, ◌+◌, ◌-◌, ◌/◌, ◌<◌, ◌==◌, ◌^◌, ◌∙◌, ◌∷◌, ◌≡◌, ◌≤◌}
pub use Rattle.std.proofs.Math.Seq.{drop-append-add, get_or-append_right, take-append-add, take-append-le, take-length, take-nil}
pub use Rattle.std.proofs.lemmas.Bool.Decides.{nat_tests}
pub use Rattle.std.proofs.lemmas.Fmt.{decimal_is_IsNumeral, IsAscii-decimal}
pub use Rattle.std.specs.Char.{digit_value, is_digit}
pub use Rattle.std.specs.List.{list_all, onto_first, position, position_or_len, slice_split}
pub use Rattle.std.specs.Str.{is_utf8, IsAscii}
pub use Rattle.std.specs.Str.Lines.{lines, lines_of_parts, strip_carriage_return}
pub use Rattle.std.specs.Str.Parse.{AllDigits, digits_value, digits_value_after}
