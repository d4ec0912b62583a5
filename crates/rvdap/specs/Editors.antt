-- The editors that the program serves: one over a wire that is there, or of those whose wires a door accepts the first or all.
use Rattle.std.specs.Prelude.{◌≡◌, ℕ, Bool, true, false, List, [], ◌∷◌, Option, Some, None}
use Rattle.session.specs.declared.event.Event.TheVariants.{Connect}
use Rattle.session.specs.Kept.{Kept, Stands}
use Rattle.session.specs.Sessions.{Session, Effect}
use Rattle.transport.specs.declared.end.DriveEnd.{DriveEnd}
use Rattle.transport.specs.Drives.{DrivenTold}
use Rattle.transport.specs.Files.{Records}
use Rattle.transport.specs.Serving.{ServedTold}
use Rattle.transport.specs.Told.{Known, KnownEvents, known}
use Rattle.wires.specs.Doors.{Doorway, IsEmpty, Opened}
use Rattle.wires.specs.Wires.{Line, one_more}
use Rattle.commands.specs.declared.exit_reason.ExitReason.{ExitReason}
use Rattle.commands.specs.declared.exit_reason.ExitReason.TheVariants.{Success, ReadOrWriteFault}
use Rattle.rvdap.specs.declared.editors.Editors.{Editors}
use Rattle.rvdap.specs.declared.editors.Editors.TheVariants.{One, All}
use Rattle.rvdap.specs.ExitReasons.{exit_reason_of}

-- which editors are served, by the address that is listened on, if one is, and whether one editor is asked for
abbrev pub editors_of : {A : Type 0} → Option A → Bool → Option Editors
editors_of None once = None
editors_of (Some address) true = Some One
editors_of (Some address) false = Some All

-- how many turns the program grants
abbrev pub turns_granted : ℕ
turns_granted = 18446744073709551615

-- An editor is connected, and driven over its wire; the program ends as that does, and by what closed the connection. The recorder is told
-- that it connects, and then what happens over the wire.
pub record IsServed (before after : Known) (old new : Line) (s : Session) (kept : Kept) (ending : ExitReason) : Type 0 where
  pub end : DriveEnd
  pub told : KnownEvents
  pub connects : Records before.told told (Connect ∷ [])
  pub driven : DrivenTold (known before.reads told) after old new turns_granted (Effect s Connect) kept end
  pub is_ending : ending ≡ exit_reason_of end kept.now.fault

-- ---- the first connection that is accepted, and no other

-- how waiting for a connection ended
pub data First : Type 0 where
  -- the door accepts no connection any more
  DoorClosed : First
  -- the call of the door failed
  DoorFailed : First
  -- a connection over a wire, which was seen as the first of these when it was accepted and as the second at its end
  Connection : Line → Line → First

-- the wires that were accepted
abbrev pub lines_of : First → List Line
lines_of (Connection old new) = old ∷ []
lines_of _ = []

-- how many calls of the door failed, after that many did before
abbrev pub failed_at : First → ℕ → ℕ
failed_at DoorFailed count = one_more count
failed_at _ count = count

-- what is done by how waiting ended, where the door has these wires left to accept: an editor is served if its wire was accepted, and
-- else no file is read
abbrev pub IsFirst : Known → Known → First → Option (List Line) → Session → Kept → ExitReason → Type 0
IsFirst before after DoorClosed wires s kept ending = IsEmpty wires × Stands kept s × (ending ≡ Success) × (after ≡ before)
IsFirst before after DoorFailed wires s kept ending = Stands kept s × (ending ≡ ReadOrWriteFault) × (after ≡ before)
IsFirst before after (Connection old new) wires s kept ending = IsServed before after old new s kept ending

pub record ServesFirst (before after : Known) (old new : Doorway) (s : Session) (kept : Kept) (ending : ExitReason) : Type 0 where
  pub first : First
  pub opened : Opened old new (lines_of first) (failed_at first old.faults) old.idle
  pub is_first : IsFirst before after first new.wires s kept ending

-- ---- all connections that are accepted

pub record ServesAll (before after : Known) (old new : Doorway) (s : Session) (kept : Kept) (ending : ExitReason) : Type 0 where
  pub end : DriveEnd
  pub served : ServedTold before after old new turns_granted s kept end
  pub is_ending : ending ≡ exit_reason_of end None

-- the first one or all, as is asked for
abbrev pub Serves : Editors → Known → Known → Doorway → Doorway → Session → Kept → ExitReason → Type 0
Serves One before after old new s kept ending = ServesFirst before after old new s kept ending
Serves All before after old new s kept ending = ServesAll before after old new s kept ending
