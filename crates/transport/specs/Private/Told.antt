-- For private clauses alone, beside `Told`.
use Rattle.std.specs.Prelude.{ℕ, List, [], ◌∷◌, Result, Ok, Err}
use Rattle.session.specs.declared.event.Event.{Event}
use Rattle.session.specs.declared.event.Event.TheVariants.{Recv, DropConnection}
use Rattle.session.specs.declared.event.EventError.{EventError}
use Rattle.session.specs.declared.event.EventError.TheVariants.{NoMemory}
use Rattle.transport.specs.declared.end.DriveEnd.{DriveEnd}

-- what is told of an event, by its answer: nothing where no memory was left
abbrev pub told_by : {X : Type 0} → Event → Result X EventError → List Event
told_by e (Ok x) = e ∷ []
told_by e (Err NoMemory) = []
told_by e (Err other) = e ∷ []

-- what is told of a piece: that it came, or that no memory was left for it, and the connection ended
abbrev pub told_of_piece : List ℕ → Result ℕ DriveEnd → List Event
told_of_piece piece (Ok since) = Recv piece ∷ []
told_of_piece piece (Err end) = DropConnection ∷ []
