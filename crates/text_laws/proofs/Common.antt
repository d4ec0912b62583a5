-- What most proofs here speak of, under one name.
pub use Rattle.base64.specs.Engines.{standard}
pub use Rattle.base64.specs.GeneralPurpose.{encode_of}
pub use Rattle.message_parts.specs.EncodedBytes.{are_bytes}
pub use Rattle.message_parts.specs.Forms.{Form, is_in_if, is_word, items_of, member_if, whole}
pub use Rattle.serde_json.specs.Data.{array, boolean, Data, float, item, Items, member, Members, negative, no_items, no_members, null, number, object, put, string, unsigned}
pub use Rattle.std.proofs.Common.{[], ap, arith, Bool, codes, cond, drop, Equal, Err, false, get_or, Greater, IfOk, length, Less, List, lit<, map, nat_eq, nat_le, nat_lt, negsuc, None, not, Ok, Option, option_and_then, option_map, Ordering, pos, refl, Result, Some, subst, suc, sym, take, true, zero, ℕ, ◌%◌, ◌&&◌, ◌*◌, ◌++◌, ◌+◌, ◌-◌, ◌/◌, ◌<◌, ◌==◌, ◌^◌, ◌∙◌, ◌∷◌, ◌≡◌, ◌≤◌}
pub use Rattle.std.proofs.lemmas.Bool.{and_parts, eqb-true, leb-true, ltb-false, ltb-true}
pub use Rattle.std.proofs.lemmas.Bool.Decides.{nat_tests}
pub use Rattle.std.proofs.lemmas.List.{append-nil, append_assoc, drop_at, get_or_at, length-append, length-map, length-replicate, length-take, take_at}
pub use Rattle.std.proofs.lemmas.List.Elements.{All-append, All-cons, All-get_or, All-head, All-nil, All-replicate, All-tail}
pub use Rattle.std.specs.List.{AllByRecursion, list_all, onto_first, slice_split, starts_with, sum_by}
pub use Rattle.std.specs.Prelude.{All, bytes_eq, IfSome, ok_or, position, replicate, slice_index, unwrap_or, ⊤, ◌||◌}
pub use Rattle.std.specs.Str.{is_utf8, IsUtf8}
pub use Rattle.text_laws.specs.Lengths.{most_bytes, most_of_body, most_of_event, most_of_frame, most_of_instruction, most_of_instruction_breakpoint, most_of_outcome, most_of_source, most_of_source_breakpoint, most_of_variable, PlainTextsStand, TextsAreBounded, TextsAreEscaped, written_length, written_length_if}
pub use Rattle.text_laws.specs.Texts.{IsPlain, IsPlainByte, IsTextWithin}
