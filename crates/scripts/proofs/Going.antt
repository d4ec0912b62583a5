-- The lines that were read, and those that are left.
use Rattle.scripts.proofs.Common.{[], Adds, ap, append_assoc, arith, Err, false, first_line, following, last, length, line_then, lines, List, nat_tests, None, Ok, Option, read, Reads, refl, Refuses, rest_of_lines, Result, Some, Step, step_of, subst, sym, true, Watch, watch_of, ℕ, ◌++◌, ◌+◌, ◌<◌, ◌==◌, ◌∙◌, ◌∷◌, ◌≡◌}
use Rattle.scripts.proofs.Dividing.{last_line, more_lines}
use Rattle.scripts.specs.Scripts.{script_of}
use Rattle.scripts.specs.declared.fault.ScriptFault.{ScriptFault}
use Rattle.scripts.specs.declared.fault.ScriptFault.TheVariants.{Line, Write, NoMemory}
use Rattle.scripts.specs.declared.script.Script.{Script}

-- what a text says
abbrev Said : Type 0
Said = Result (List Step × Watch) ℕ

nothing_read : (said : Said) → said ≡ following [] said
nothing_read (Ok rest) = refl
nothing_read (Err number) = refl

pub start : (text : List ℕ) → script_of text ≡ following [] (read 1 (lines text))
unfolding script_of
start text = nothing_read (read 1 (lines text))

added : (steps new : List Step) (step : Option Step) (number : ℕ) (rest : Said) → Adds steps step new
    → following steps (line_then number step rest) ≡ following new rest
added steps new None number rest h = absurd h
added steps new (Some step) number (Err line) h = refl
added steps new (Some step) number (Ok rest) h =
    ap (λ (l : List Step). Ok (l, rest.1)) (sym (append_assoc steps (step ∷ []) rest.0) ∙ ap (λ (l : List Step). l ++ rest.0) (sym h))

pub one_more : (text rest : List ℕ) (steps new : List Step) (number : ℕ) → script_of text ≡ following steps (read number (lines rest))
    → 0 < length (rest_of_lines rest) → Adds steps (step_of (first_line rest)) new
    → script_of text ≡ following new (read (number + 1) (lines (rest_of_lines rest)))
one_more text rest steps new number left some h =
    left ∙ ap (following steps) (more_lines number rest some)
    ∙ added steps new (step_of (first_line rest)) number (read (number + 1) (lines (rest_of_lines rest))) h

refused_by : (script : Said) (steps : List Step) (step : Option Step) (number : ℕ) (rest : Said) (fault : ScriptFault)
    → script ≡ following steps (line_then number step rest) → Refuses fault number step → Reads (Err fault) script
refused_by script steps (Some step) number rest (Line line) h r = let none : Some step ≡ None = r.1 in cc
refused_by script steps None number rest (Line line) h r = h ∙ ap Err (sym r.0)
refused_by script steps step number rest Write h r = absurd r
refused_by script steps step number rest NoMemory h r = tt

pub refused : (text rest : List ℕ) (steps : List Step) (number : ℕ) (fault : ScriptFault)
    → script_of text ≡ following steps (read number (lines rest))
    → 0 < length (rest_of_lines rest) → Refuses fault number (step_of (first_line rest)) → Reads (Err fault) (script_of text)
refused text rest steps number fault left some h =
    refused_by (script_of text) steps (step_of (first_line rest)) number (read (number + 1) (lines (rest_of_lines rest))) fault
    (left ∙ ap (following steps) (more_lines number rest some)) h

nothing : (bytes : List ℕ) → length bytes ≡ 0 → bytes ≡ []
nothing [] h = refl
nothing (b ∷ bytes) h = absurd (omega arith)

pub ended : (text rest : List ℕ) (steps : List Step) (number : ℕ) (result : Result Script ScriptFault)
    → script_of text ≡ following steps (read number (lines rest))
    → length (rest_of_lines rest) ≡ 0 → Reads result (following steps (last number (watch_of (first_line rest))))
    → Reads result (script_of text)
ended text rest steps number result left none h =
    let P : Said → Type 0 = λ said. Reads result said in
    subst P (sym (left ∙ ap (following steps) (last_line number rest (nothing (rest_of_lines rest) none)))) h

pub empty : (count : ℕ) → true ≡ (count == 0) → count ≡ 0
empty count h = grind (arith, nat_tests)

pub filled : (count : ℕ) → false ≡ (count == 0) → 0 < count
filled count h = grind (arith, nat_tests)
