-- The refusals, in one table.
--
-- A request is refused for its own number, or since a later `cancel` named it; then for its name, its arguments or the
-- connection's phase; then for the state that the machine is in; and at last for what it asks. They apply in this
-- order, which is that of the rows. The response says which one applied (`ErrorResponse`): `body.error.id` is the
-- refusal's number, and `message` its name. Of the names the standard has `cancelled` alone (`Response.message`); the
-- others are this adapter's. One refusal has a text for people too, which says what is wrong with a program; for the
-- others that is the name (`ErrorResponse.body.error.format`).
use Rattle.std.specs.Prelude.{◌≡◌, ℕ, List, [], ◌∷◌, Bool, true, false, Option, Some, None, codes, refl, if◌then◌else◌}
use Rattle.std.specs.Prelude.{nat_eq}
use Rattle.protocol.specs.declared.refusal.Refusal.{Refusal}
use Rattle.protocol.specs.declared.refusal.Refusal.TheVariants.{RepeatedSequence, Cancelled, UnknownCommand}
use Rattle.protocol.specs.declared.refusal.Refusal.TheVariants.{BadArguments, WrongPhase, NoMachine, Ended, NoThread}
use Rattle.protocol.specs.declared.refusal.Refusal.TheVariants.{NotStopped, UnknownReference, StaleReference}
use Rattle.protocol.specs.declared.refusal.Refusal.TheVariants.{BadMemoryReference, TooMuch, OutsideMemory}
use Rattle.protocol.specs.declared.refusal.Refusal.TheVariants.{UnknownName, NotWritable, BadExpression, BadValue}
use Rattle.protocol.specs.declared.refusal.Refusal.TheVariants.{AssemblyFailed, ReferencesExhausted, RequestGone}
use Rattle.protocol.specs.declared.refusal.Refusal.TheVariants.{FileUnreadable, NoHistory}

-- a refusal's number, its name, and whether a text of its own comes with it
pub record Row : Type 0 where
  pub id : ℕ
  pub name : List ℕ
  pub has_text : Bool

abbrev pub named : ℕ → List ℕ → Row
named id name = record { id = id; name = name; has_text = false }

abbrev pub with_text : ℕ → List ℕ → Row
with_text id name = record { id = id; name = name; has_text = true }

-- the table
abbrev pub row : Refusal → Row
row RepeatedSequence = named 6 (codes "repeatedSequence")
row Cancelled = named 5 (codes "cancelled")
row UnknownCommand = named 1 (codes "unknownCommand")
row BadArguments = named 2 (codes "badArguments")
row WrongPhase = named 3 (codes "wrongPhase")
row NoMachine = named 22 (codes "noMachine")
row Ended = named 18 (codes "ended")
row NoThread = named 7 (codes "noThread")
row NotStopped = named 4 (codes "notStopped")
row UnknownReference = named 9 (codes "unknownReference")
row StaleReference = named 8 (codes "staleReference")
row BadMemoryReference = named 13 (codes "badMemoryReference")
row TooMuch = named 15 (codes "tooMuch")
row OutsideMemory = named 14 (codes "outsideMemory")
row UnknownName = named 10 (codes "unknownName")
row NotWritable = named 12 (codes "notWritable")
row BadExpression = named 16 (codes "badExpression")
row BadValue = named 11 (codes "badValue")
row AssemblyFailed = with_text 17 (codes "assemblyFailed")
row ReferencesExhausted = named 19 (codes "referencesExhausted")
row RequestGone = named 20 (codes "requestGone")
row FileUnreadable = named 21 (codes "fileUnreadable")
row NoHistory = named 23 (codes "noHistory")

-- the refusals, in the order in which they apply
abbrev pub refusals : List Refusal
refusals =
    RepeatedSequence
    ∷ Cancelled
    ∷ UnknownCommand
    ∷ BadArguments
    ∷ WrongPhase
    ∷ NoMachine
    ∷ Ended
    ∷ NoThread
    ∷ NotStopped
    ∷ UnknownReference
    ∷ StaleReference
    ∷ BadMemoryReference
    ∷ TooMuch
    ∷ OutsideMemory
    ∷ UnknownName
    ∷ NotWritable
    ∷ BadExpression
    ∷ BadValue
    ∷ AssemblyFailed
    ∷ ReferencesExhausted
    ∷ RequestGone
    ∷ FileUnreadable
    ∷ NoHistory
    ∷ []

-- what `body.error.id` says
abbrev pub id_of : Refusal → ℕ
id_of refusal = (row refusal).id

-- what `message` says
abbrev pub name_of : Refusal → List ℕ
name_of refusal = (row refusal).name

-- whether the refusal has a text of its own
abbrev pub has_text : Refusal → Bool
has_text refusal = (row refusal).has_text

-- the first of these refusals that has that number
abbrev pub numbered_among : ℕ → List Refusal → Option Refusal
numbered_among id [] = None
numbered_among id (refusal ∷ rest) = if nat_eq (id_of refusal) id then Some refusal else numbered_among id rest

-- the refusal of that number
abbrev pub refusal_of : ℕ → Option Refusal
refusal_of id = numbered_among id refusals

-- The number of a refusal is that of no other.
pub the_refusal_of_its_number : (refusal : Refusal) → refusal_of (id_of refusal) ≡ Some refusal
the_refusal_of_its_number RepeatedSequence = refl
the_refusal_of_its_number Cancelled = refl
the_refusal_of_its_number UnknownCommand = refl
the_refusal_of_its_number BadArguments = refl
the_refusal_of_its_number WrongPhase = refl
the_refusal_of_its_number NoMachine = refl
the_refusal_of_its_number Ended = refl
the_refusal_of_its_number NoThread = refl
the_refusal_of_its_number NotStopped = refl
the_refusal_of_its_number UnknownReference = refl
the_refusal_of_its_number StaleReference = refl
the_refusal_of_its_number BadMemoryReference = refl
the_refusal_of_its_number TooMuch = refl
the_refusal_of_its_number OutsideMemory = refl
the_refusal_of_its_number UnknownName = refl
the_refusal_of_its_number NotWritable = refl
the_refusal_of_its_number BadExpression = refl
the_refusal_of_its_number BadValue = refl
the_refusal_of_its_number AssemblyFailed = refl
the_refusal_of_its_number ReferencesExhausted = refl
the_refusal_of_its_number RequestGone = refl
the_refusal_of_its_number FileUnreadable = refl
the_refusal_of_its_number NoHistory = refl
