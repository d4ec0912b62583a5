-- What most proofs here speak of, under one name.
pub use Rattle.facts.specs.Facts.{Facts, unknown}
pub use Rattle.framing.specs.Streams.{fault_of, first_of, lent_from, others_of, reading_after, Unframed}
pub use Rattle.mirror.specs.Folding.{after_variables, folded, frame_of, listed, over, upto}
pub use Rattle.mirror.specs.Kept.{at, breaks_of, facts_of, flat, Kept, Link, PlaceIs, register_in, source_in}
pub use Rattle.mirror.specs.Streams.{after_input, answer_by, AsksAre, body_limit, error_in, error_of, fault_in, FedBy, Feeds, FeedsPast, first_fault, GoesOn, link_by, link_fault, link_of, message_of, messages_in, messages_of, messages_so_far, newly_whole, nothing_past, Past, StandsFor, stream_fault, with_piece}
pub use Rattle.std.proofs.Common.{[], ap, append-nil, append_assoc, arith, Bool, cond, drop, Err, false, fold, inl, inr, length, List, map, None, Ok, Option, refl, Result, rules, Some, subst, suc, sym, take, true, zero, ℕ, ◌++◌, ◌+◌, ◌-◌, ◌<◌, ◌^◌, ◌∙◌, ◌∷◌, ◌≡◌, ◌≤◌}
pub use Rattle.std.specs.Prelude.{bytes_eq, filter, find, nat_le, nat_lt, not, option_map, replicate, slice_get, ◌&&◌}
