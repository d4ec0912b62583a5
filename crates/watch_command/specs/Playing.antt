-- What a script means, why it is not played to its end, and what was written then.
--
-- A script whose lines are right lists what happens to a session, in order: with the files that its lines name, read one
-- after the other. Its last line says what is watched: a connection, and how many of its bytes. What an editor then knows is
-- what `watch` answers for these events, in a session with 1 MiB of memory, no program and the greatest limits.
--
-- Of a script whose lines are wrong the first of these is said. Else its last line is said, the one that says what is
-- watched, where there is nothing to watch: no connection has that number, or it got fewer bytes. Nothing was written in
-- both cases.
--
-- The lines may have been read before, and the session may be another, with a program or another size of memory.
use Rattle.std.specs.Prelude.{◌≡◌, ◌⊎◌, ℕ, ◌+◌, ◌≤◌, List, [], ◌∷◌, ◌++◌, length, Option, Some, None, IfSome, Result, Ok, Err}
use Rattle.std.specs.Str.{IsUtf8}
use Rattle.scripts.specs.Scripts.{script_of}
use Rattle.scripts.specs.declared.fault.ScriptFault.{ScriptFault}
use Rattle.scripts.specs.declared.fault.ScriptFault.TheVariants.{Line, Write, NoMemory}
use Rattle.scripts.specs.declared.step.Step.{Step}
use Rattle.scripts.specs.declared.step.Step.TheVariants as step
use Rattle.scripts.specs.declared.watch.Cut.{Cut}
use Rattle.scripts.specs.declared.watch.Cut.TheVariants.{At, All}
use Rattle.scripts.specs.declared.watch.Watch.{Watch}
use Rattle.session.specs.Limits.{greatest_limits}
use Rattle.session.specs.declared.config.Config.{Config}
use Rattle.session.specs.declared.event.Event.{Event}
use Rattle.session.specs.declared.event.Event.TheVariants as event
use Rattle.transport.specs.Files.{FileRead, KnownReads, Records}
use Rattle.transport.specs.Rounds.{read_for}
use Rattle.watch_events.specs.Replaying.{Queues, Watches}
use Rattle.watch_events.specs.declared.watching.WatchError.{WatchError}
use Rattle.watch_events.specs.declared.watching.WatchError.TheVariants as watch
use Rattle.watch_events.specs.declared.watching.Watched.{Watched}
use Rattle.watch_command.specs.declared.watching.WatchFault.{WatchFault}
use Rattle.watch_command.specs.declared.watching.WatchFault.TheVariants as fault

-- ---- the events of a script

-- the path of the file that a step reads, if it reads one
abbrev pub path_in : Step → Option (List ℕ)
path_in (step.Turn path) = path
path_in other = None

-- what happens by a step: a turn is given what was read, if its line names a file
abbrev pub event_of : Step → Option (List ℕ) → Event
event_of step.Connect file = event.Connect
event_of (step.Recv piece) file = event.Recv piece
event_of (step.Turn None) file = event.Turn None
event_of (step.Turn (Some path)) file = event.Turn file
event_of (step.Slice moves) file = event.Slice moves
event_of step.Hold file = event.Hold
event_of (step.Sent count) file = event.Sent count
event_of step.DropConnection file = event.DropConnection

-- the events of steps, with the reads that they took, one after the other
abbrev pub AreEvents : List Step → List FileRead → List Event → Type 0
AreEvents [] reads events = (reads ≡ []) × (events ≡ [])
AreEvents (s ∷ steps) reads events = (file : Option (List ℕ)) × (others : List FileRead) × (more : List Event)
    × ((reads ≡ read_for (path_in s) file ++ others) × ((events ≡ event_of s file ∷ more) × AreEvents steps others more))

-- ---- what is watched

-- a session with 1 MiB of memory, and no program
abbrev pub config : Config
config = record { memory_size = 1048576; program = None }

-- the path of a program, if one is given, is a text, and short enough to be told
abbrev pub HasShortPath : Config → Type 0
HasShortPath c = IfSome c.program (λ program. IsUtf8 program.0 × (length program.0 ≤ 1048576))

-- how many bytes of the connection are watched
abbrev pub IsCut : Config → Cut → List Event → ℕ → ℕ → Type 0
IsCut c (At count) events connection n = n ≡ count
IsCut c All events connection n = Queues c greatest_limits events connection (Ok n)

-- what `watch` answers for the bytes of the cut; or why it is not known how many all are
abbrev pub WatchAnswers : Config → List Event → Watch → Result Watched WatchError → Type 0
WatchAnswers c events w (Ok watched) = (n : ℕ) × (IsCut c w.cut events w.connection n
    × Watches c greatest_limits events w.connection n (Ok watched))
WatchAnswers c events w (Err error) = ((n : ℕ) × (IsCut c w.cut events w.connection n
    × Watches c greatest_limits events w.connection n (Err error)))
    ⊎ ((w.cut ≡ All) × Queues c greatest_limits events w.connection (Err error))

-- ---- what is answered

-- Steps were played: the files that they name were read, and this is so of their events.
pub record Done (steps : List Step) (before after : KnownReads) (IsSo : List Event → Type 0) : Type 0 where
  pub reads : List FileRead
  pub files : Records before after reads
  pub events : List Event
  pub are : AreEvents steps reads events
  pub so : IsSo events

-- A script that can be read was played: this is so of its steps, of what it watches, and of its events.
pub record Played (text : List ℕ) (before after : KnownReads) (IsSo : List Step → Watch → List Event → Type 0) : Type 0 where
  pub steps : List Step
  pub watch : Watch
  pub script : script_of text ≡ Ok (steps, watch)
  pub done : Done steps before after (IsSo steps watch)

-- there is something to watch
abbrev pub HasWatched : Config → Watch → List Event → Type 0
HasWatched c w events = (watched : Watched) × WatchAnswers c events w (Ok watched)

-- there is, by a script
abbrev pub IsSomething : List Step → Watch → List Event → Type 0
IsSomething steps w events = HasWatched config w events

-- there is not, and this is the number of the last line
abbrev pub WatchesNone : ℕ → List Step → Watch → List Event → Type 0
WatchesNone number steps w events = (number ≡ length steps + 1)
    × (WatchAnswers config events w (Err watch.NoSuchConnection) ⊎ WatchAnswers config events w (Err watch.CutTooLong))

-- why steps are not watched; the reads of the files, and the bytes that the writer has, where they are known, before and after
abbrev pub StepsFail : WatchFault → Config → List Step → Watch → (files files' : KnownReads)
    → (before after : Option (List ℕ)) → Type 0
StepsFail (fault.Unwatched (watch.Config error)) c steps w files files' before after =
    (after ≡ before) × Done steps files files' (λ events. WatchAnswers c events w (Err (watch.Config error)))
StepsFail (fault.Unwatched watch.NoSuchConnection) c steps w files files' before after =
    (after ≡ before) × Done steps files files' (λ events. WatchAnswers c events w (Err watch.NoSuchConnection))
StepsFail (fault.Unwatched watch.CutTooLong) c steps w files files' before after =
    (after ≡ before) × Done steps files files' (λ events. WatchAnswers c events w (Err watch.CutTooLong))
StepsFail (fault.Unwatched watch.NoMemory) c steps w files files' before after = after ≡ before
StepsFail fault.Write c steps w files files' before after = Done steps files files' (HasWatched c w)

-- why a script is not played
abbrev pub Fails : ScriptFault → List ℕ → (files files' : KnownReads) → (before after : Option (List ℕ)) → Type 0
Fails (Line number) text files files' before after =
    (after ≡ before) × ((script_of text ≡ Err number) ⊎ Played text files files' (WatchesNone number))
Fails Write text files files' before after = Played text files files' IsSomething
Fails NoMemory text files files' before after = after ≡ before
