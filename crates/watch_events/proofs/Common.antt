-- What most proofs here speak of, under one name.
pub use Rattle.framing.specs.Reading.{reading_of}
pub use Rattle.session_laws.specs.Concluding.{known_after, last_seen, remembered, told_within, WasSo}
pub use Rattle.session_laws.specs.News.{Fits, IsAtRest, IsFollowed, IsSeenAfter, says_output, seen_at, seen_now, sight, Sight, sight_by}
pub use Rattle.mirror.proofs.Streaming.{error_more, messages_more, waits_by}
pub use Rattle.mirror.specs.Streams.{after, after_input, body_limit, error_in, error_of, FeedsPast, first_fault, Input, message_of, messages_of, messages_so_far, nothing_past, Past, StandsFor, stream_fault, TellsPast, with_request}
pub use Rattle.replies.specs.declared.message.Message.{Message}
pub use Rattle.session.specs.Acts.{Accept, Now, Open}
pub use Rattle.session.specs.Kept.{answered, Happens, Kept, Stands}
pub use Rattle.session.specs.Sessions.{After, Answer, Beginning, bytes_of, Effect, frame_said, histories, Life, life_of, lives, no_life, Said, Session, snapshot_of, start, up_to_fault}
pub use Rattle.session.specs.declared.event.Event.{Event}
pub use Rattle.snapshots.specs.Snapshots.{as_running, Captured, IsTaken}
pub use Rattle.std.proofs.Common.{[], ap, append-nil, append_assoc, arith, Bool, cond, drop, eqb, Err, false, fold, get_or, inl, inr, is_some, leb, length, length-append, List, ltb, map, None, Ok, Option, option_map, refl, Result, Some, subst, suc, sym, take, true, zero, ℕ, ◌++◌, ◌+◌, ◌-◌, ◌<◌, ◌∙◌, ◌∷◌, ◌≡◌, ◌≤◌}
pub use Rattle.std.proofs.lemmas.Bool.Decides.{nat_tests}
pub use Rattle.std.specs.Prelude.{All, MatchOption, OnOk, ◌&&◌}
pub use Rattle.watch_events.specs.Private.Replaying.{CountsQueued, IsTold, requests_of, Shows, TellsBody, TellsOne}
pub use Rattle.watch_events.specs.Private.Tracking.{is_current, is_made, IsReached, IsSeenNow, Keeps, last_from, Noted, NotedIf, SaidBy, SameBut, SameWatched, SeenAfter, Steps, taken_at, Tracked, Tracks, untouched, with_piece}
pub use Rattle.watch_events.specs.Replaying.{sight_in}
