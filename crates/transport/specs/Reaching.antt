-- What driving and serving lead to.
--
-- A round is an event, or two; an iteration is a connection, its rounds and its end, or a slice. Where no memory was left in a slice, that
-- slice was cut. So what a session represents after it was driven or served is led to from what it represented before, by what
-- happened (`Reached` of `session`): all that holds of whatever is reached holds of what this loop makes of a session.
--
-- What a recorder was told leads there too, unless no memory was left; and slices that follow each other may be told as one of all their moves
-- (`Joining` of `session_laws`). So what is recorded, played again, queues the same bytes on each connection.
use Rattle.std.specs.Prelude.{◌≡◌, ◌⊎◌, ℕ, List}
use Rattle.session.specs.declared.event.Event.{Event}
use Rattle.session.specs.Effects.{after_all}
use Rattle.session.specs.Kept.{Kept, Stands}
use Rattle.session.specs.Reached.{Happened, led_to}
use Rattle.session.specs.Sessions.{Session, histories}
use Rattle.wires.specs.Doors.{Doorway}
use Rattle.wires.specs.Wires.{Line}
use Rattle.transport.specs.Drives.{DrivenTold}
use Rattle.transport.specs.Serving.{ServedTold}
use Rattle.transport.specs.Told.{Known}
use Rattle.transport.specs.Files.{Records}
use Rattle.transport.specs.declared.end.DriveEnd.{DriveEnd}
use Rattle.transport.specs.declared.end.DriveEnd.TheVariants.{NoMemory}

-- it represents what something leads to from there
abbrev pub IsLedTo : Session → Kept → Type 0
IsLedTo s new = (happened : List Happened) × Stands new (led_to happened s)

abbrev pub DrivingLeads : Type 0
DrivingLeads = (before after : Known) (old new : Line) (turns : ℕ) (s : Session) (kept : Kept) (end : DriveEnd)
    → DrivenTold before after old new turns s kept end → IsLedTo s kept

abbrev pub ServingLeads : Type 0
ServingLeads = (before after : Known) (old new : Doorway) (turns : ℕ) (s : Session) (kept : Kept) (end : DriveEnd)
    → ServedTold before after old new turns s kept end → IsLedTo s kept

-- ---- what is told

-- the events that were told lead from a session to what is represented then, unless no memory was left
abbrev pub TellsWhatHappened : Known → Known → Session → Kept → DriveEnd → Type 0
TellsWhatHappened before after s kept end = (events : List Event) × Records before.told after.told events
    × ((end ≡ NoMemory) ⊎ Stands kept (after_all histories events s))

abbrev pub DrivingTells : Type 0
DrivingTells = (before after : Known) (old new : Line) (turns : ℕ) (s : Session) (kept : Kept) (end : DriveEnd)
    → DrivenTold before after old new turns s kept end → TellsWhatHappened before after s kept end

abbrev pub ServingTells : Type 0
ServingTells = (before after : Known) (old new : Doorway) (turns : ℕ) (s : Session) (kept : Kept) (end : DriveEnd)
    → ServedTold before after old new turns s kept end → TellsWhatHappened before after s kept end
