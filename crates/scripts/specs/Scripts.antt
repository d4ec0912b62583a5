-- What a script says, and its first wrong line.
--
-- Its lines end at line feeds, and a carriage return before a line feed is dropped; the last line may lack its line feed.
-- Lines count from 1. Each line but the last is an event, and the last says what is watched, so a script has at least one
-- line. The first line that is not so is reported: of a script with no line the first.
use Rattle.std.specs.Prelude.{◌≡◌, ℕ, ◌+◌, List, [], ◌∷◌, Option, Some, None, Result, Ok, Err, codes, refl}
use Rattle.std.specs.Str.Lines.{lines}
use Rattle.scripts.specs.Lines.{step_of, watch_of}
use Rattle.scripts.specs.declared.fault.ScriptFault.{ScriptFault}
use Rattle.scripts.specs.declared.fault.ScriptFault.TheVariants.{Line, Write, NoMemory}
use Rattle.scripts.specs.declared.script.Script.{Script}
use Rattle.scripts.specs.declared.step.Step.{Step}
use Rattle.scripts.specs.declared.step.Step.TheVariants.{Connect}
use Rattle.scripts.specs.declared.watch.Cut.TheVariants.{All}
use Rattle.scripts.specs.declared.watch.Watch.{Watch}

-- the last line
abbrev pub last : ℕ → Option Watch → Result (List Step × Watch) ℕ
last number (Some watch) = Ok ([], watch)
last number None = Err number

-- an event before others
abbrev pub before : {A : Type 0} → Step → Result (List Step × A) ℕ → Result (List Step × A) ℕ
before step (Ok rest) = Ok (step ∷ rest.0, rest.1)
before step (Err number) = Err number

-- a line before others
abbrev pub line_then : ℕ → Option Step → Result (List Step × Watch) ℕ → Result (List Step × Watch) ℕ
line_then number (Some step) rest = before step rest
line_then number None rest = Err number

-- lines from a number on: the events and what is watched, or the number of the first wrong line
abbrev pub read : ℕ → List (List ℕ) → Result (List Step × Watch) ℕ
read number [] = Err number
read number (line ∷ []) = last number (watch_of line)
read number (line ∷ next ∷ more) = line_then number (step_of line) (read (number + 1) (next ∷ more))

-- the events of a script and what it watches, or the number of its first wrong line
unfoldable pub script_of : List ℕ → Result (List Step × Watch) ℕ
script_of text = read 1 (lines text)

-- what is answered: the script, or its first wrong line; or no memory was left
abbrev pub Reads : Result Script ScriptFault → Result (List Step × Watch) ℕ → Type 0
Reads (Ok script) read = read ≡ Ok (script.steps.items, script.watch)
Reads (Err (Line number)) read = read ≡ Err number
Reads (Err Write) read = ⊥
Reads (Err NoMemory) read = Unit {0}

-- ---- examples

two_lines : script_of (codes "connect\r\nwatch 1 all\n") ≡ Ok (Connect ∷ [], record { connection = 1; cut = All })
unfolding script_of
two_lines = refl

nothing_is_wrong_at_once : script_of [] ≡ Err 1
unfolding script_of
nothing_is_wrong_at_once = refl

no_blank_lines : script_of (codes "connect\n\nwatch 1 all") ≡ Err 2
unfolding script_of
no_blank_lines = refl

something_is_watched : script_of (codes "connect\nconnect\n") ≡ Err 2
unfolding script_of
something_is_watched = refl
