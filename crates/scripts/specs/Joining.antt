-- Slices that follow each other, and have the moves of one.
--
-- A program that runs is given slice after slice while nobody says anything. So the line of a slice waits until another
-- event comes, and a slice that follows is added to it, as long as 32 bits hold their sum.
use Rattle.std.specs.Prelude.{◌≡◌, ◌⊎◌, ℕ, ◌+◌, ◌^◌, nat_lt, if◌then◌else◌, List, [], ◌∷◌, ◌++◌, Option, Some, None, refl}
use Rattle.scripts.specs.declared.step.Step.{Step}
use Rattle.scripts.specs.declared.step.Step.TheVariants.{Connect, Slice}

-- the slice of the moves that wait
abbrev pub slice_of : Option ℕ → List Step
slice_of None = []
slice_of (Some moves) = Slice moves ∷ []

-- the events that are to be written when one comes, by the moves that wait
abbrev pub due : Step → Option ℕ → List Step
due (Slice moves) None = []
due (Slice moves) (Some before) = if nat_lt (before + moves) (2 ^ 32) then [] else Slice before ∷ []
due other waiting = slice_of waiting ++ other ∷ []

-- the moves that wait after it
abbrev pub waits : Step → Option ℕ → Option ℕ
waits (Slice moves) None = Some moves
waits (Slice moves) (Some before) = if nat_lt (before + moves) (2 ^ 32) then Some (before + moves) else Some moves
waits other waiting = None

-- the events that were to be written while these came, and the moves that wait then
abbrev pub written_of : Option ℕ → List Step → List Step
written_of waiting [] = []
written_of waiting (step ∷ steps) = due step waiting ++ written_of (waits step waiting) steps

abbrev pub waiting_of : Option ℕ → List Step → Option ℕ
waiting_of waiting [] = waiting
waiting_of waiting (step ∷ steps) = waiting_of (waits step waiting) steps

-- events, with slices that follow each other added up
abbrev pub joined : List Step → List Step
joined steps = written_of None steps ++ slice_of (waiting_of None steps)

-- These are the same events, but that slices that follow each other may be one of all their moves.
abbrev pub AreJoined : List Step → List Step → Type 0
AreJoined [] lines = lines ≡ []
AreJoined (step ∷ steps) [] = ⊥
AreJoined (step ∷ steps) (line ∷ lines) = ((line ≡ step) × AreJoined steps lines)
    ⊎ ((a : ℕ) × (b : ℕ) × (step ≡ Slice a) × (line ≡ Slice (a + b)) × AreJoined steps (Slice b ∷ lines))

-- ---- examples

three_slices : joined (Slice 1 ∷ Slice 2 ∷ Connect ∷ Slice 3 ∷ []) ≡ Slice 3 ∷ Connect ∷ Slice 3 ∷ []
three_slices = refl

too_many_moves : joined (Slice 4294967295 ∷ Slice 1 ∷ []) ≡ Slice 4294967295 ∷ Slice 1 ∷ []
too_many_moves = refl
