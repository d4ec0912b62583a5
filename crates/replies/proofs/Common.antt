-- What most proofs here speak of, under one name.
pub use Rattle.json.proofs.Printed.Utf8.{are_ascii, IsUtf8-are_ascii}
pub use Rattle.message_parts.proofs.Addresses.{lawful_address}
pub use Rattle.message_parts.proofs.Appending.{and_then, if_then, object_written}
pub use Rattle.message_parts.proofs.Lawful.{Lawful, lawful_either, lawful_field, lawful_fixed, lawful_list, lawful_made_of, lawful_none, lawful_object, lawful_one_of, lawful_optional, lawful_signed, lawful_text, lawful_unless_empty, lawful_whole, LawfulFields, then_is}
pub use Rattle.message_parts.proofs.Simple.{is_simple, IsPlain-is_simple}
pub use Rattle.message_parts.proofs.Texts.{AreMembersPlain, IsPlain, json_of-compact_text}
pub use Rattle.message_parts.specs.Forms.{AreTexts, either, field, Fields, first_named, fixed, Form, is_in_if, is_word, member_if, none, optional, text, unless_empty, whole}
pub use Rattle.message_parts.specs.Order.{is_ordered}
pub use Rattle.protocol.specs.Json.{json_of}
pub use Rattle.protocol.specs.declared.refusal.Refusal.{Refusal}
pub use Rattle.replies.specs.Bodies.{all_taken, always, body_data, body_in, formed, has_numbers, in_form, IsBodyOf, row, Row, surely, Taken, texts_in, without_body}
pub use Rattle.replies.specs.Events.{event_body, event_data, event_members, event_name, event_named, event_texts, IsProperEvent, taken_among}
pub use Rattle.replies.specs.Messages.{IsNumber, IsProper, message_data, text_of}
pub use Rattle.replies.specs.Responses.{format_of, IsOutcomeOf, IsProperResponse, outcome_data, shared_members}
pub use Rattle.replies.specs.declared.message.Message.{Message}
pub use Rattle.replies.specs.declared.response.ResponseBody.{ResponseBody}
pub use Rattle.serde_json.specs.Data.{array, boolean, Data, depth, float, item, Items, member, Members, negative, no_items, no_members, null, Num, number, object, string, unsigned}
pub use Rattle.serde_json.specs.Find.{get, is_float}
pub use Rattle.serde_json.specs.Read.{max_depth, read}
pub use Rattle.serde_json.specs.Written.{compact_text, has_float, items_have_float, members_have_float}
pub use Rattle.std.proofs.Common.{[], ap, ap₂, arith, Bool, bytes_eq, cond, Decides, false, IfSome, inl, inr, is_some, IsTrue, IsUtf8, List, lt-ltb, ltb-true, nat_lt, None, Ok, Option, option_and_then, option_map, refl, rules, Some, subst, sym, true, ℕ, ◌++◌, ◌<◌, ◌==◌, ◌^◌, ◌||◌, ◌∙◌, ◌∷◌, ◌≡◌, ◌≤◌, ◌⊎◌}
pub use Rattle.std.proofs.lemmas.Bool.{and_parts, false≢true, or_parts}
pub use Rattle.std.specs.List.{AllByRecursion, list_all, list_any}
pub use Rattle.std.specs.Prelude.{codes, if◌then◌else◌, nat_eq, not, ◌&&◌}
