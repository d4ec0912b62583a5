-- Where there is nothing to watch, the last line is said.
use Rattle.watch_command.proofs.Common.{config, Config, Done, Err, Event, Fails, fault_of, HasEvents, HasWatched, inl, inr, IsSomething, KnownReads, length, List, Ok, Option, Played, refl, Step, StepsFail, WatchAnswers, WatchesNone, ℕ, ◌+◌, ◌≡◌}
use Rattle.scripts.specs.Scripts.{script_of}
use Rattle.scripts.specs.declared.watch.Watch.{Watch}
use Rattle.watch_command.specs.declared.watching.WatchFault.{WatchFault}
use Rattle.watch_command.specs.declared.watching.WatchFault.TheVariants as fault
use Rattle.watch_events.specs.declared.watching.WatchError.{WatchError}
use Rattle.watch_events.specs.declared.watching.WatchError.TheVariants as watch

-- what is so of events is so of steps that were played
pub done_by : (steps : List Step) (files files' : KnownReads) (events : List Event) (IsSo : List Event → Type 0)
    → HasEvents steps files files' events → IsSo events → Done steps files files' IsSo
done_by steps files files' events IsSo has so = record { reads = has.0; files = has.1.0; events = events; are = has.1.1; so = so }

-- why there is nothing to watch is why steps are not watched
pub unwatched : (c : Config) (steps : List Step) (w : Watch) (files files' : KnownReads) (held : Option (List ℕ)) (events : List Event)
    → HasEvents steps files files' events → (error : WatchError) → WatchAnswers c events w (Err error)
    → StepsFail (fault.Unwatched error) c steps w files files' held held
unwatched c steps w files files' held events has (watch.Config error) h =
    (refl, done_by steps files files' events (λ events. WatchAnswers c events w (Err (watch.Config error))) has h)
unwatched c steps w files files' held events has watch.NoSuchConnection h =
    (refl, done_by steps files files' events (λ events. WatchAnswers c events w (Err watch.NoSuchConnection)) has h)
unwatched c steps w files files' held events has watch.CutTooLong h =
    (refl, done_by steps files files' events (λ events. WatchAnswers c events w (Err watch.CutTooLong)) has h)
unwatched c steps w files files' held events has watch.NoMemory h = refl

module _ (text : List ℕ) (files files' : KnownReads) (steps : List Step) (w : Watch) (script : script_of text ≡ Ok (steps, w)) where
  played : (Other : List Event → Type 0) (IsSo : List Step → Watch → List Event → Type 0)
      → ((events : List Event) → Other events → IsSo steps w events) → Done steps files files' Other → Played text files files' IsSo
  played Other IsSo so h = record {
    steps = steps;
    watch = w;
    script = script;
    done = record { reads = h.reads; files = h.files; events = h.events; are = h.are; so = so h.events h.so };
  }

  pub some_watched : Done steps files files' (HasWatched config w) → Played text files files' IsSomething
  some_watched = played (HasWatched config w) IsSomething (λ events h. h)

  pub none_watched : (before after : Option (List ℕ)) (error : WatchFault) → StepsFail error config steps w files files' before after
      → Fails (fault_of (length steps + 1) error) text files files' before after
  none_watched before after (fault.Unwatched (watch.Config error)) h = h.0
  none_watched before after (fault.Unwatched watch.NoSuchConnection) h = (
    h.0,
    inr (played (λ events. WatchAnswers config events w (Err watch.NoSuchConnection)) (WatchesNone (length steps + 1))
        (λ events none. (refl, inl none)) h.1),
  )
  none_watched before after (fault.Unwatched watch.CutTooLong) h = (
    h.0,
    inr (played (λ events. WatchAnswers config events w (Err watch.CutTooLong)) (WatchesNone (length steps + 1))
        (λ events none. (refl, inr none)) h.1),
  )
  none_watched before after (fault.Unwatched watch.NoMemory) h = h
  none_watched before after fault.Write h = some_watched h
