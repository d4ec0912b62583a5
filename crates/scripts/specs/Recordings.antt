-- What a recording says: a script that was written line by line while things happened, and may end anywhere.
--
-- A line says something once a line feed ends it, and a carriage return before that is dropped. What comes after the last
-- line feed was cut, and says nothing: `slice 12` may be a part of `slice 123`. Lines count from 1. Each is an event, but
-- that the last may say what is watched: the recording is then a whole script. The first line that is not so is reported.
use Rattle.std.specs.Prelude.{◌≡◌, ℕ, ◌+◌, ◌==◌, Bool, true, false, List, [], ◌∷◌, length, Option, Some, None}
use Rattle.std.specs.Prelude.{Result, Ok, Err, codes, refl}
use Rattle.std.specs.List.{slice_split}
use Rattle.std.specs.Str.Lines.{strip_carriage_return}
use Rattle.scripts.specs.Lines.{step_of, watch_of}
use Rattle.scripts.specs.Scripts.{before}
use Rattle.scripts.specs.declared.fault.ScriptFault.{ScriptFault}
use Rattle.scripts.specs.declared.fault.ScriptFault.TheVariants.{Line, Write, NoMemory}
use Rattle.scripts.specs.declared.recorded.Recorded.{Recorded}
use Rattle.scripts.specs.declared.step.Step.{Step}
use Rattle.scripts.specs.declared.step.Step.TheVariants.{Connect}
use Rattle.scripts.specs.declared.watch.Cut.TheVariants.{All}
use Rattle.scripts.specs.declared.watch.Watch.{Watch}

-- the lines that a line feed ends, of the parts between line feeds: the last part is ended by none
abbrev pub whole_of_parts : List (List ℕ) → List (List ℕ)
whole_of_parts [] = []
whole_of_parts (cut ∷ []) = []
whole_of_parts (line ∷ next ∷ more) = strip_carriage_return line ∷ whole_of_parts (next ∷ more)

abbrev pub whole_lines : List ℕ → List (List ℕ)
whole_lines text = whole_of_parts (slice_split (λ b. b == 10) text)

-- a line that is no event: the last may say what is watched
abbrev pub or_last : ℕ → Option Watch → Bool → Result (List Step × Option Watch) ℕ
or_last number (Some watch) true = Ok ([], Some watch)
or_last number (Some watch) false = Err number
or_last number None is_last = Err number

-- a line that is an event, before what is read after it
abbrev pub step_or : Option Step → Result (List Step × Option Watch) ℕ → Result (List Step × Option Watch) ℕ
    → Result (List Step × Option Watch) ℕ
step_or (Some step) rest otherwise = before step rest
step_or None rest otherwise = otherwise

-- lines from a number on: the events, and what is watched if that is said, or the number of the first wrong line
abbrev pub recorded : ℕ → List (List ℕ) → Result (List Step × Option Watch) ℕ
recorded number [] = Ok ([], None)
recorded number (line ∷ more) =
    step_or (step_of line) (recorded (number + 1) more) (or_last number (watch_of line) (length more == 0))

-- the events of a recording and what it watches, if it says so, or the number of its first wrong line
unfoldable pub recorded_of : List ℕ → Result (List Step × Option Watch) ℕ
recorded_of text = recorded 1 (whole_lines text)

-- what is answered: what is recorded, or the first wrong line; or no memory was left
abbrev pub Holds : Result Recorded ScriptFault → Result (List Step × Option Watch) ℕ → Type 0
Holds (Ok all) read = read ≡ Ok (all.steps.items, all.watch)
Holds (Err (Line number)) read = read ≡ Err number
Holds (Err Write) read = ⊥
Holds (Err NoMemory) read = Unit {0}

-- ---- examples

a_whole_script : recorded_of (codes "connect\nwatch 1 all\n")
    ≡ Ok (Connect ∷ [], Some (record { connection = 1; cut = All }))
unfolding recorded_of
a_whole_script = refl

a_cut_line : recorded_of (codes "connect\nslice 12") ≡ Ok (Connect ∷ [], None)
unfolding recorded_of
a_cut_line = refl

a_wrong_line : recorded_of (codes "connect\nslice\nconnect\n") ≡ Err 2
unfolding recorded_of
a_wrong_line = refl

watched_too_early : recorded_of (codes "watch 1 all\nconnect\n") ≡ Err 1
unfolding recorded_of
watched_too_early = refl
