-- What most proofs here speak of, under one name.
pub use Rattle.framing.specs.Streams.{fed, first_of, lent_from, StandsFor, Unframed, with_lent}
pub use Rattle.session.specs.Effects.{after_all, BreaksOff, EndsWell, performed, ran_out, slice_answer, sliced}
pub use Rattle.session.specs.Kept.{answered, Happens, Kept, OfEach, see_kept, Stands}
pub use Rattle.session.specs.Outcomes.{answers_next, done, is_finished, is_finished_on, next_turn, outcome, outcome_at, turn_by, turn_of, wanted_on}
pub use Rattle.session.specs.Sessions.{Effect, histories, Session}
pub use Rattle.session.specs.Slices.{is_runnable}
pub use Rattle.session.specs.declared.event.Event.{Event}
pub use Rattle.session.specs.declared.event.Event.TheVariants.{Connect, DropConnection, Hold, Recv, Sent, Slice, Turn}
pub use Rattle.session.specs.declared.event.EventError.{EventError}
pub use Rattle.session.specs.declared.event.EventError.TheVariants.{AlreadyConnected, Busy, Closing, NotConnected, PieceTooLong, SentTooMuch, Spent}
pub use Rattle.session.specs.declared.event.Sliced.{Sliced}
pub use Rattle.std.proofs.Common.{[], ap, append-nil, append_assoc, arith, Bool, cond, drop, eqb, Err, false, filter, IfSome, inl, inr, leb, length, List, ltb, map, None, Ok, Option, refl, Result, rules, Some, subst, suc, sym, take, take-append-drop, true, vec_len, zero, ℕ, ◌&&◌, ◌++◌, ◌+◌, ◌-◌, ◌<◌, ◌∙◌, ◌∷◌, ◌≡◌, ◌≤◌}
pub use Rattle.std.proofs.KnownBytes.{Appends-kept, Appends-nil, Appends-trans, Consumes-nil, Consumes-trans}
pub use Rattle.std.proofs.lemmas.Bool.Decides.{nat_tests}
pub use Rattle.std.proofs.lemmas.List.{drop-append-le, length-append, length-take-le, map-append}
pub use Rattle.std.specs.Io.KnownBytes.{Appends, Consumes, IsAtEnd}
pub use Rattle.std.specs.Prelude.{IfOk, if◌then◌else◌, IsErr, IsOk, ◌⊎◌}
pub use Rattle.transport.specs.Drives.{AllSaid, AreRounds, AreUnused, CallFailed, Cause, Driven, DrivenTold, end_of, events_by, failed_by, idle_after, idle_after_rounds, idle_by, idle_looked, InputEnded, is_held, IsCause, IsRound, Leaves, MayCome, MayFail, NoAnswer, NoRoom, PieceLost, TimeCut, turns_of, TurnsMade, unused_by, waits_after_rounds, waits_at, waits_by}
pub use Rattle.transport.specs.Files.{KnownReads, Records}
pub use Rattle.transport.specs.Heard.{AllGiven, and_gave, and_read, has_fault, HasHeard, HasRead, Heard, is_looked_at, IsUnfinished, messages_of, NeedsMore, NextFails, Unread}
pub use Rattle.transport.specs.Outbox.{Queued}
pub use Rattle.transport.specs.Private.Drives.{Driving, DroveFor, GoesOn, HasBegun, IsLeaving, Passed, Stops, Went}
pub use Rattle.transport.specs.Private.Outbox.{SendsPrefix}
pub use Rattle.transport.specs.Rounds.{after_round, after_rounds, Answer, counted, Did, due, Due, due_in, held_after, IsGiven, IsTaken, Leave, moves_granted, moves_made, Ran, read_for, reads, reads_in, Receive, received, received_in, Round, Run, RunsOut, Send, sent, sent_in, since_round, since_rounds, wanted}
pub use Rattle.transport.specs.Told.{events_in, events_of, holds, Known, known, KnownEvents}
pub use Rattle.transport.specs.declared.end.DriveEnd.{DriveEnd}
pub use Rattle.transport.specs.declared.end.DriveEnd.TheVariants.{Closed, Fault, NoMemory, Turns}
pub use Rattle.wires.specs.Wires.{Line, Moved, one_more}
