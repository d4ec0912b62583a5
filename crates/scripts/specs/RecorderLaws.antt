-- What holds of every recorder. Each of these statements is the contract of a function of the module `laws`.
use Rattle.std.specs.Prelude.{◌≡◌, ℕ, ◌+◌, ◌<◌, ◌^◌, true, List, [], ◌∷◌, ◌++◌, take, Option, Some, None, Ok}
use Rattle.std.specs.List.{list_all}
use Rattle.std.specs.Io.KnownBytes.{Appends}
use Rattle.scripts.specs.Copies.{KnownCopies, path_of}
use Rattle.scripts.specs.Joining.{AreJoined, joined, waiting_of, written_of}
use Rattle.scripts.specs.Telling.{Finishes, Script, Tells, TellsTurn}
use Rattle.scripts.specs.declared.progress.Progress.{Progress}
use Rattle.scripts.specs.Laws.{IsInRange, all_for}
use Rattle.scripts.specs.Recordings.{recorded_of}
use Rattle.scripts.specs.Scripts.{script_of}
use Rattle.scripts.specs.Writing.{has_line, text_of}
use Rattle.scripts.specs.declared.step.Step.{Step}
use Rattle.scripts.specs.declared.step.Step.TheVariants.{Turn}

-- events as a program has them
abbrev pub AreInRange : List Step → Type 0
AreInRange [] = Unit {0}
AreInRange (step ∷ steps) = IsInRange step × AreInRange steps

-- What a script got of the events that were told, beyond what it held before: the lines of the joined events, but of the
-- slice that waits; or the recording has ended, and it got the first of these lines, the last of them perhaps in part.
abbrev pub IsRecorded : List Step → Option Progress → Script → Script → Type 0
IsRecorded steps (Some p) before now = (p.waiting ≡ waiting_of None steps) × (list_all has_line (written_of None steps) ≡ true)
    × Appends before now (text_of (written_of None steps))
IsRecorded steps None before now = (first : List Step) × (more : List Step) × (written_of None steps ≡ first ++ more)
    × (list_all has_line first ≡ true) × (count : ℕ) × Appends before now (take count (text_of first))

-- Before anything is told, it is so.
abbrev pub NothingIsRecorded : Type 0
NothingIsRecorded = (before : Script) → IsRecorded [] (Some (record { copies = 0; waiting = None })) before before

-- Whatever is told, it stays so.
abbrev pub TellingRecords : Type 0
TellingRecords = (steps : List Step) (step : Step) (p q : Option Progress) (before old new : Script)
    → IsRecorded steps p before old → Tells step p q old new → IsRecorded (steps ++ step ∷ []) q before new

-- the path of the next copy, while the recording has not ended
abbrev pub next_path : Option Progress → List ℕ
next_path (Some p) = path_of (p.copies + 1)
next_path None = []

-- It stays so when a turn that was given a text is told: the turn then has the copy's path.
abbrev pub TurnsAreRecorded : Type 0
TurnsAreRecorded = (steps : List Step) (text : List ℕ) (p q : Option Progress) (before old new : Script)
    (copies copies' : KnownCopies) → IsRecorded steps p before old → TellsTurn text p q old new copies copies'
    → IsRecorded (steps ++ Turn (Some (next_path p)) ∷ []) q before new

-- A turn with the path of a copy is in its range, and has a line.
abbrev pub PathsHaveLines : Type 0
PathsHaveLines = (number : ℕ) → number < 2 ^ 32
    → IsInRange (Turn (Some (path_of number))) × (has_line (Turn (Some (path_of number))) ≡ true)

-- The joined events are the events, but that slices that follow each other may be one of all their moves.
abbrev pub JoinedAreTheSame : Type 0
JoinedAreTheSame = (steps : List Step) → AreJoined steps (joined steps)

-- What is recorded in a script that was empty reads as the first of the joined events, wherever the script is cut.
abbrev pub RecordingsAreRead : Type 0
RecordingsAreRead = (steps : List Step) (p : Option Progress) (text : List ℕ) (count : ℕ) → AreInRange steps
    → IsRecorded steps p (Some []) (Some text)
    → (kept : List Step) × (more : List Step) × (joined steps ≡ kept ++ more)
    × (recorded_of (take count text) ≡ Ok (kept, None))

-- Once its end is written, the script is one of the joined events, and watches all for the connection.
abbrev pub EndsMakeScripts : Type 0
EndsMakeScripts = (steps : List Step) (p : Option Progress) (text whole : List ℕ) (connection : ℕ) → AreInRange steps
    → connection < 2 ^ 32 → IsRecorded steps p (Some []) (Some text)
    → Finishes connection true p (Some text) (Some whole)
    → script_of whole ≡ Ok (joined steps, all_for connection)
