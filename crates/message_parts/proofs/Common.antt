-- What most proofs here speak of, under one name.
pub use Rattle.json.proofs.Printed.Utf8.{are_ascii, IsUtf8-are_ascii, IsUtf8-boolean, IsUtf8-quoted}
pub use Rattle.message_parts.specs.Addresses.{address, address_text, hex_digit, word_in, word_of}
pub use Rattle.message_parts.specs.Forms.{all_found, AreTexts, either, field, Fields, first_named, fixed, Form, found_if, found_or_empty, if_any, is_in_either, is_in_if, is_signed_word, is_word, items_of, left_or_right, list, made_of, member_if, members_either, none, object_of, one_of, optional, signed, text, texts_either, texts_if, texts_of, truth, unless_empty, whole, within_word}
pub use Rattle.message_parts.specs.Written.{Appends, AreWritten, HasSmallNumbers, IsSmallNumber, IsWritten, items_tokens, ItemsHaveSmallNumbers, ItemsWritten, members_tokens, MembersHaveSmallNumbers, tokens_of}
pub use Rattle.serde_json.specs.Data.{array, boolean, Data, depth, float, item, Items, items_depth, member, Members, members_depth, negative, no_items, no_members, null, Num, number, object, put, string, unsigned}
pub use Rattle.serde_json.specs.Find.{as_array, as_i64, as_number, as_str, as_u64, get, get_member, of_integer}
pub use Rattle.serde_json.specs.Written.{comma_if, compact_text, has_float, items_have_float, items_outline, items_text, members_have_float, members_outline, members_text, outline}
pub use Rattle.std.proofs.Common.{[], ap, append-nil, append_assoc, arith, Bool, decimal, drop, Equal, Err, false, Greater, IfSome, inl, inr, int_le, IsUtf8, le-leb, Less, List, lt-ltb, ltb-true, map, nat_lt, neg_ℤ, negsuc, None, Ok, OnOk, Option, option_and_then, option_map, Ordering, pos, refl, Result, rules, Some, subst, suc, sym, true, zero, ℕ, ℤ, ◌%◌, ◌&&◌, ◌*◌, ◌++◌, ◌+◌, ◌/◌, ◌<◌, ◌==◌, ◌^◌, ◌∙◌, ◌∷◌, ◌≡◌, ◌≤◌, ◌⊎◌}
pub use Rattle.std.proofs.lemmas.Bool.{and_parts}
pub use Rattle.std.proofs.lemmas.Int.{ints, to_z-of_z}
pub use Rattle.std.specs.Fmt.{signed_decimal}
pub use Rattle.std.specs.Prelude.{if◌then◌else◌, length, nat_le, not}
