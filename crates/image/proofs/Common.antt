-- What most proofs here speak of, under one name.
pub use Rattle.image.specs.Lines.{covers, end_of, first_greatest, in_image, Label, label_address, label_at, labels_of, line_in, place_of, Row, RowsRise, start_of, Table, up_to, words_in}
pub use Rattle.image.specs.Memory.{byte_at, bytes_at, fault_at, first_address, halfword_at, has_bytes, IsBlank, little_endian, memory_after, NeedsPage, unless_fault, with_bytes, WritesOrLacks}
pub use Rattle.image.specs.Private.Pages.{AreBlank, AreMade, ArePages, AreWhole, flat, HaveBytes, IsPage, LacksOne, page_bytes, put}
pub use Rattle.std.proofs.Common.{[], ap, append_assoc, arith, Bool, cond, drop, eqb, Err, false, get_or, inl, inr, leb, length, length-append, length-drop, List, ltb, map, None, not, of_calls, Ok, Option, refl, Result, rules, Some, subst, suc, sym, take, true, zero, ℕ, ◌%◌, ◌&&◌, ◌*◌, ◌++◌, ◌+◌, ◌-◌, ◌/◌, ◌<◌, ◌^◌, ◌∙◌, ◌∷◌, ◌≡◌, ◌≢◌, ◌≤◌}
pub use Rattle.std.proofs.lemmas.Bool.Decides.{nat_tests}
pub use Rattle.std.proofs.lemmas.Fn.{always_returns_same}
pub use Rattle.std.proofs.lemmas.List.{append-nil, drop-append-le, drop-drop, drop-replicate, get_or-map, length-replicate, length-set, length-take-le, length_push, nil_from_length, replicate-append-replicate, set-get_or, take-append-le, take-replicate, with_items_is}
pub use Rattle.std.proofs.lemmas.Option.{slice_get-get_or, slice_get-map, slice_get_past}
pub use Rattle.std.specs.List.{AllWithin, list_all, list_any}
pub use Rattle.std.specs.Prelude.{All, filter, find, is_some, nat_le, nat_lt, OnErr, option_map, replicate, slice_get, slice_set, String, string_bytes, ◌==◌}
pub use Rattle.std.specs.declared.alloc.Global.{Global}
pub use Rattle.std.specs.declared.vec.Vec.{Vec}
