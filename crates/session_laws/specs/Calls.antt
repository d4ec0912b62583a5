-- What calls of a session lead to.
--
-- A session represents one with all of its past. Whatever that one was reached by, a call adds to what happened: its event; or,
-- where a slice found no memory, the beats that it made, after which the next one may lack memory; or nothing, where
-- another event found none. So all that a session represents is reached, whatever is called and wherever memory runs out.
use Rattle.std.specs.Prelude.{◌≡◌, ℕ, nat_lt, List, [], ◌∷◌, ◌++◌, Option, Some, None, Result, Ok, Err}
use Rattle.session.specs.Effects.{MayLack, beats, moves_asked, ran_out}
use Rattle.session.specs.Kept.{Happens, Kept, Stands}
use Rattle.session.specs.Reached.{Happened, Whole, Cut, Reached, led_to}
use Rattle.session.specs.Sessions.{Beginning, Session, histories}
use Rattle.session.specs.declared.event.Applied.{Applied}
use Rattle.session.specs.declared.event.Event.{Event}
use Rattle.session.specs.declared.event.EventError.{EventError}
use Rattle.session.specs.declared.event.EventError.TheVariants.{NoMemory}

-- the slice broke off after this many moves, and this of it happened
pub record IsCut (s : Session) (n moved : ℕ) (more : List Happened) : Type 0 where
  pub count : ℕ
  pub is : more ≡ Cut n count ∷ []
  pub goes_on : (beats histories n count s).ending ≡ None
  pub moves : (beats histories n count s).moved ≡ moved
  pub lacks : MayLack (histories.see (beats histories n count s).state) (nat_lt (beats histories n count s).moved n)

-- what an event that was done adds
abbrev pub AddsDone : Session → Event → Option ℕ → List Happened → Type 0
AddsDone s e None more = more ≡ Whole e ∷ []
AddsDone s e (Some moved) more = IsCut s (moves_asked e) moved more

-- what a call adds, by its answer; one that is refused happened, and did nothing
abbrev pub Adds : Session → Event → Result Applied EventError → List Happened → Type 0
Adds s e (Ok x) more = AddsDone s e (ran_out x) more
Adds s e (Err NoMemory) more = more ≡ []
Adds s e (Err other) more = more ≡ Whole e ∷ []

-- what represented a session represents what this leads to, after the call
pub record Leads (s : Session) (e : Event) (result : Result Applied EventError) (new : Kept) : Type 0 where
  pub more : List Happened
  pub adds : Adds s e result more
  pub stands : Stands new (led_to more s)

abbrev pub CallsLead : Type 0
CallsLead = (s : Session) (old new : Kept) (e : Event) (result : Result Applied EventError) → Stands old s → Happens old e result new
    → Leads s e result new

-- What something leads to from what was reached is reached by both, one after the other.
abbrev pub LeadsOn : Type 0
LeadsOn = (from : Beginning) (happened more : List Happened)
    → led_to more (Reached from happened) ≡ Reached from (happened ++ more)
