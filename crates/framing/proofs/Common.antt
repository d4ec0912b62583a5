-- What most proofs here speak of, under one name.
pub use Rattle.byte_strings.proofs.Conjunctions.{all_append, all_reverse, and_both, and_left, and_right}
pub use Rattle.byte_strings.specs.Blanks.{trimmed}
pub use Rattle.framing.specs.Frames.{AreFrames, Fault, Frame, Framed, HasFields, HasHeader, minimal_frame}
pub use Rattle.framing.specs.Headers.{begins_with_end, end_of, end_of_line, Field, Head, header_of, is_field, is_name, is_name_byte, is_value_byte, length_fields, line_of, SaysLength}
pub use Rattle.framing.specs.Private.Lines.{EndsPast, length_within, lines_after, one_more, with_length}
pub use Rattle.framing.specs.Private.Parts.{before_by, first_by, Holds, is_broken, Parts, parts_of, range, Starts, tail_by, waiting_in}
pub use Rattle.framing.specs.Reading.{content_length, field_at, field_in, fields_in, length_among, length_by, length_or_fault, lines_of, number_in, onto_first, Reading, reading_by, reading_of, reading_within, size_of, start_at, start_by, start_of, Tail, with_bodies, with_body, with_field}
pub use Rattle.framing.specs.Reading.Tail.{Faulty, Partial}
pub use Rattle.framing.specs.Streams.{fault_of, fed, Feeds, first_of, HasFault, lent_from, lent_times, nothing_came, nothing_fed, others_of, reading_after, Reads, retracted, StandsFor, Stream, TailIs, TakesPiece, Unframed, with_lent, with_piece}
pub use Rattle.framing.specs.declared.error.FrameError.{FrameError}
pub use Rattle.framing.specs.declared.error.FrameError.TheVariants.{BadLength, Header, HeaderTooLong, NoLength, NoMemory, TooLong, TwoLengths}
pub use Rattle.framing.specs.declared.start.Start.{Start}
pub use Rattle.framing.specs.declared.start.Start.TheVariants.{Begins, Breaks, Waits}
pub use Rattle.std.proofs.Common.{[], ap, append_assoc, arith, Bool, codes, decimal, drop, eqb, Err, false, get_or, inl, inr, IsSome, leb, length, length-append, List, ltb, map, None, not, Ok, Option, refl, Result, reverse, rules, Some, subst, suc, sym, take, take-add, true, zero, ℕ, ◌&&◌, ◌*◌, ◌++◌, ◌+◌, ◌-◌, ◌<◌, ◌^◌, ◌∙◌, ◌∷◌, ◌≡◌, ◌≤◌, ◌⊎◌}
pub use Rattle.std.proofs.lemmas.Bool.Decides.{nat_tests}
pub use Rattle.std.proofs.lemmas.Bool.{cases_Bool, cases_lt, le-leb, le-ltb, leb-false, leb-true, lt-leb, ltb-false}
pub use Rattle.std.proofs.lemmas.List.Folds.{list_all-append}
pub use Rattle.std.proofs.lemmas.Option.{some_pair_parts}
pub use Rattle.std.proofs.lemmas.List.{append-nil, drop-append-le, drop-drop, drop-take, drop_at, drop_more, length-drop, length-take, length-take-le, take-append-drop, take-append-le, take-take, take_at, take_more, take_rest}
pub use Rattle.std.specs.Char.{digit_value, is_ascii_digit}
pub use Rattle.std.specs.List.{flat_map, list_all, position, prefix_len}
pub use Rattle.std.specs.Option.{option_copied, option_map}
pub use Rattle.std.specs.Str.Parse.{digits_value}
