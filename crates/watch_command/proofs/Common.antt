-- What most proofs here speak of, under one name.
pub use Rattle.framing.specs.Headers.{begins_with_end, end_of}
pub use Rattle.framing.specs.Reading.{Reading, reading_by, reading_of, start_of, Tail, with_body}
pub use Rattle.framing.specs.Streams.{fed, first_of, nothing_fed, others_of, reading_after, Unframed}
pub use Rattle.scripts.specs.declared.step.Step.{Step}
pub use Rattle.session.specs.declared.config.Config.{Config}
pub use Rattle.session.specs.declared.event.Event.{Event}
pub use Rattle.std.proofs.Common.{[], add-one, ap, append-nil, append_assoc, arith, Bool, codes, cond, drop, drop-cons, Err, false, get_or, inl, inr, is_some, length, length-drop, List, nat_lt, None, Ok, Option, option_map, refl, Result, Some, subst, suc, sym, take, take-append-drop, true, ℕ, ◌&&◌, ◌++◌, ◌+◌, ◌-◌, ◌<◌, ◌==◌, ◌∙◌, ◌∷◌, ◌≡◌, ◌≤◌}
pub use Rattle.std.proofs.lemmas.List.{drop_all, length-take-le}
pub use Rattle.std.specs.List.{flat_map}
pub use Rattle.transport.specs.Files.{FileRead, KnownReads, Records}
pub use Rattle.watch_command.specs.Conversing.{after, came, closing, first_known, HasPart, is_asked, KnowsIf, left_over, lines_of, others_known, piece_of, queued, Replays, rest_of, said, tail_after, Talk, Talks, told, told_each, within}
pub use Rattle.watch_command.specs.Playing.{AreEvents, config, Done, event_of, Fails, HasWatched, IsSomething, path_in, Played, StepsFail, WatchAnswers, WatchesNone}
pub use Rattle.watch_command.specs.Private.Conversing.{after_frame, answered, Does, DoesOne, EachSays, HasLeft, IsEmptied, IsReady, lacks_memory, no_session, ReplaysIn, SaysEach, SaysOne, SaysPiece, SaysTold, SaysWhatCame, Shows, ShowsAll, Stream, Writes}
pub use Rattle.watch_command.specs.Private.Playing.{fault_of, HasEvent, HasEvents}
pub use Rattle.watch_command.specs.Shown.{line, shown_byte}
