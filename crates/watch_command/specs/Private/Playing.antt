-- For private clauses alone, beside `Playing`.
use Rattle.std.specs.Prelude.{◌≡◌, ℕ, List, Option}
use Rattle.scripts.specs.declared.fault.ScriptFault.{ScriptFault}
use Rattle.scripts.specs.declared.fault.ScriptFault.TheVariants.{Line, Write, NoMemory}
use Rattle.scripts.specs.declared.step.Step.{Step}
use Rattle.session.specs.declared.event.Event.{Event}
use Rattle.transport.specs.Files.{FileRead, KnownReads, Records}
use Rattle.transport.specs.Rounds.{read_for}
use Rattle.watch_events.specs.declared.watching.WatchError.{WatchError}
use Rattle.watch_events.specs.declared.watching.WatchError.TheVariants as watch
use Rattle.watch_command.specs.declared.watching.WatchFault.{WatchFault}
use Rattle.watch_command.specs.declared.watching.WatchFault.TheVariants as fault
use Rattle.watch_command.specs.Playing.{path_in, event_of, AreEvents}

-- the files gave what an event takes, and what events take
abbrev pub HasEvent : Step → KnownReads → KnownReads → Event → Type 0
HasEvent s before after event =
    (file : Option (List ℕ)) × (Records before after (read_for (path_in s) file) × (event ≡ event_of s file))

abbrev pub HasEvents : List Step → KnownReads → KnownReads → List Event → Type 0
HasEvents steps before after events =
    (reads : List FileRead) × (Records before after reads × AreEvents steps reads events)

-- what is said of a script whose steps are not watched, by the number of its last line
abbrev pub unwatched : ℕ → WatchError → ScriptFault
unwatched last (watch.Config error) = NoMemory
unwatched last watch.NoSuchConnection = Line last
unwatched last watch.CutTooLong = Line last
unwatched last watch.NoMemory = NoMemory

abbrev pub fault_of : ℕ → WatchFault → ScriptFault
fault_of last (fault.Unwatched error) = unwatched last error
fault_of last fault.Write = Write
