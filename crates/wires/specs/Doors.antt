-- What a door does: an editor comes in over a wire of its own, nobody is there, or a call fails.
--
-- A door may say which wires it has left to give, as they are seen; where it does not say so, nothing is claimed of them. It
-- counts the calls that failed, the looks that found nobody, and the waits for an editor, as a wire does.
use Rattle.std.specs.Prelude.{◌≡◌, ℕ, List, [], ◌∷◌, ◌++◌, Option, Some, None, Result, Ok, Err, ⊤}
use Rattle.wires.specs.Wires.{Line, one_more}
use Rattle.wires.specs.declared.door.Came.{Came}
use Rattle.wires.specs.declared.door.Came.TheVariants.{Wire, Nothing, End}
use Rattle.wires.specs.declared.door.DoorFault.{DoorFault}

-- a door, as it is seen: the wires that it has left to give, where they are known, how many calls failed, how many looks found
-- nobody, and how many waits for an editor there were
pub record Doorway : Type 0 where
  pub wires : Option (List Line)
  pub faults : ℕ
  pub idle : ℕ
  pub waits : ℕ

-- known wires begin with these, and lose them
abbrev pub Loses : Option (List Line) → Option (List Line) → List Line → Type 0
Loses None new given = ⊤
Loses (Some lines) None given = ⊥
Loses (Some lines) (Some rest) given = lines ≡ given ++ rest

-- no known wire is left
abbrev pub IsEmpty : Option (List Line) → Type 0
IsEmpty None = ⊤
IsEmpty (Some lines) = lines ≡ []

-- Wires were given, and the counts are these.
pub record Opened (old new : Doorway) (lines : List Line) (failed idled : ℕ) : Type 0 where
  pub given : Loses old.wires new.wires lines
  pub faults : new.faults ≡ failed
  pub idle : new.idle ≡ idled

-- A look for an editor: one comes over a wire, or nobody is there and this is counted, or nobody will come any more.
abbrev pub Knocks : {W : Type 0} → (W → Line) → Doorway → Doorway → Result (Came W) DoorFault → Type 0
Knocks line old new (Ok (Wire wire)) = Opened old new (line wire ∷ []) old.faults old.idle
Knocks line old new (Ok Nothing) = Opened old new [] old.faults (one_more old.idle)
Knocks line old new (Ok End) = Opened old new [] old.faults old.idle × IsEmpty new.wires
Knocks line old new (Err fault) = Opened old new [] (one_more old.faults) old.idle

-- A wait for an editor: one comes over a wire, or nobody will come any more.
abbrev pub Admits : {W : Type 0} → (W → Line) → Doorway → Doorway → Result (Option W) DoorFault → Type 0
Admits line old new (Ok (Some wire)) = Opened old new (line wire ∷ []) old.faults old.idle
Admits line old new (Ok None) = Opened old new [] old.faults old.idle × IsEmpty new.wires
Admits line old new (Err fault) = Opened old new [] (one_more old.faults) old.idle
