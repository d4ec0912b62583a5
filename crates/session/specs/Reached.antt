-- What calls lead to, those among them that found no memory.
--
-- An event that found no memory did not happen. A slice that found none happened as far as it reports: some of its beats
-- were made, and what the last of them has to tell may be owed. The next slice or turn tells that first; where the
-- connection ends before, a stop that is owed is made untold. So whatever was called, what happened is a list: of events,
-- each as a whole, and of slices that were cut. A slice may be cut after each number of its beats here; after which of
-- them memory may run out, `BreaksOff` of `Effects` says.
use Rattle.std.specs.Prelude.{ℕ, List, [], ◌∷◌}
use Rattle.session.specs.declared.event.Event.{Event}
use Rattle.session.specs.Effects.{beats}
use Rattle.session.specs.Sessions.{Beginning, Effect, Session, histories, start}

-- what happened: an event; or a slice, of this many moves, cut after this many beats
pub data Happened : Type 0 where
  Whole : Event → Happened
  Cut : ℕ → ℕ → Happened

-- it is an event, and this is so of it
abbrev pub OfEvent : (Event → Type 0) → Happened → Type 0
OfEvent P (Whole e) = P e
OfEvent P (Cut n count) = ⊥

-- what it leaves of a session
abbrev pub leaves : Session → Happened → Session
leaves s (Whole e) = Effect s e
leaves s (Cut n count) = (beats histories n count s).state

-- what a list of these leaves, one after the other
abbrev pub led_to : List Happened → Session → Session
led_to [] s = s
led_to (x ∷ happened) s = led_to happened (leaves s x)

-- what is reached, from what a session begins with
abbrev pub Reached : Beginning → List Happened → Session
Reached from happened = led_to happened (start from)
