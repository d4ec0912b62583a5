-- What a recorder is told: the events of a session, each as soon as it has happened.
--
-- A round is one event, or two where the program is held after its time. Where driving ends a connection, that is an event. A slice in which
-- no memory was left is none: it made fewer moves than it was given.
--
-- A recorder may say which events it was told, in order; where it does not say so, nothing is claimed of them.
use Rattle.std.specs.Prelude.{Bool, true, false, List, [], ◌∷◌, ◌++◌, Option, None, option_map}
use Rattle.session.specs.declared.event.Event.{Event}
use Rattle.session.specs.declared.event.Event.TheVariants.{Connect, Recv, Turn, Slice, Hold, Sent, DropConnection}
use Rattle.transport.specs.Files.{KnownReads}
use Rattle.transport.specs.Rounds.{Round, Did, Ran, moves_granted}
use Rattle.transport.specs.declared.recorder.EventRef.{EventRef}
use Rattle.transport.specs.declared.recorder.EventRef.TheVariants as lent

-- the events that a recorder was told so far, where they are known
abbrev pub KnownEvents : Type 0
KnownEvents = Option (List Event)

-- what is known of reads that were answered, and of events that were told
pub record Known : Type 0 where
  pub reads : KnownReads
  pub told : KnownEvents

abbrev pub known : KnownReads → KnownEvents → Known
known past events = record { reads = past; told = events }

-- the same, where nobody is told
abbrev pub untold : KnownReads → Known
untold past = known past None

-- the event that is lent
abbrev pub event_of : EventRef → Event
event_of lent.Connect = Connect
event_of (lent.Recv piece) = Recv piece.now
event_of (lent.Turn file) = Turn (option_map (λ text. text.now) file)
event_of (lent.Slice count) = Slice count
event_of lent.Hold = Hold
event_of (lent.Sent count) = Sent count
event_of lent.DropConnection = DropConnection

-- ---- over a wire

-- the events of a hold, if there is one
abbrev pub holds : Bool → List Event
holds true = Hold ∷ []
holds false = []

-- the events of a round
abbrev pub events_in : Round → List Event
events_in (Did e) = e ∷ []
events_in (Ran held) = Slice moves_granted ∷ holds held

-- the events of rounds
abbrev pub events_of : List Round → List Event
events_of [] = []
events_of (r ∷ rounds) = events_in r ++ events_of rounds
