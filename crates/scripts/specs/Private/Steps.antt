-- How the code goes over the lines.
use Rattle.std.specs.Prelude.{◌≡◌, ℕ, ◌+◌, ◌==◌, List, [], ◌∷◌, ◌++◌, take, drop, Option, Some, None, Result, Ok, Err}
use Rattle.std.specs.List.{position}
use Rattle.std.specs.Str.Lines.{strip_carriage_return}
use Rattle.scripts.specs.declared.fault.ScriptFault.{ScriptFault}
use Rattle.scripts.specs.declared.fault.ScriptFault.TheVariants.{Line, Write, NoMemory}
use Rattle.scripts.specs.declared.step.Step.{Step}

-- the first line of a text without its end, by where the first line feed is: the whole text where there is none
abbrev pub line_before : List ℕ → Option ℕ → List ℕ
line_before text None = text
line_before text (Some end) = strip_carriage_return (take end text)

-- what comes after it
abbrev pub rest_after : List ℕ → Option ℕ → List ℕ
rest_after text None = []
rest_after text (Some end) = drop (end + 1) text

abbrev pub first_line : List ℕ → List ℕ
first_line text = line_before text (position (λ b. b == 10) text)

abbrev pub rest_of_lines : List ℕ → List ℕ
rest_of_lines text = rest_after text (position (λ b. b == 10) text)

-- events that were read, before what is read after them
abbrev pub following : {A : Type 0} → List Step → Result (List Step × A) ℕ → Result (List Step × A) ℕ
following steps (Ok rest) = Ok (steps ++ rest.0, rest.1)
following steps (Err number) = Err number

-- one event more
abbrev pub Adds : List Step → Option Step → List Step → Type 0
Adds old (Some step) new = new ≡ old ++ step ∷ []
Adds old None new = ⊥

-- a line that is no event
abbrev pub Refuses : ScriptFault → ℕ → Option Step → Type 0
Refuses (Line line) number step = (line ≡ number) × (step ≡ None)
Refuses Write number step = ⊥
Refuses NoMemory number step = Unit {0}
