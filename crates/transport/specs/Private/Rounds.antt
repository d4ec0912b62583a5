-- For private clauses alone, beside `Rounds`.
use Rattle.std.specs.Prelude.{◌≡◌, ℕ, List, []}
use Rattle.std.specs.Prelude.{Option, Result, Ok, Err}
use Rattle.transport.specs.declared.end.DriveEnd.{DriveEnd}
use Rattle.transport.specs.declared.end.DriveEnd.TheVariants.{NoMemory}
use Rattle.session.specs.declared.event.Event.TheVariants.{Recv, DropConnection}
use Rattle.session.specs.Kept.{Kept, Stands}
use Rattle.session.specs.Sessions.{Session, Effect}
use Rattle.transport.specs.Files.{FileRead}
use Rattle.transport.specs.Rounds.{read_for, wanted, reads}

-- the reads that were made to find what an answer wants, by what was found; none where no memory was left for it
abbrev pub reads_made : {E : Type 0} → Option (List ℕ) → Result (Option (List ℕ)) E → List FileRead
reads_made wanted (Ok file) = read_for wanted file
reads_made wanted (Err error) = []

-- What a piece leaves: the session takes it, or no memory was left for it and the connection has ended.
abbrev pub Took : Result ℕ DriveEnd → List ℕ → Session → Kept → Type 0
Took (Ok next) piece s new = Stands new (Effect s (Recv piece))
Took (Err end) piece s new = (end ≡ NoMemory) × Stands new (Effect s DropConnection)
