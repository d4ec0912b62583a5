-- The whole lines that were read, and those that are left.
use Rattle.scripts.proofs.Common.{[], Adds, ap, append-nil, append_assoc, arith, Bool, drop, Err, false, following, Holds, is_none, is_some, length, length-drop, List, nat_lt, nat_tests, None, not, Ok, Option, or_last, position, position_or_len, recorded, refl, Refuses, Result, slice_split, Some, Step, step_of, step_or, strip_carriage_return, subst, sym, take, true, Watch, watch_of, whole_lines, whole_of_parts, ℕ, ◌++◌, ◌+◌, ◌<◌, ◌==◌, ◌∙◌, ◌∷◌, ◌≡◌}
use Rattle.scripts.proofs.Dividing.{feed, parts_at, parts_none, some_part}
use Rattle.scripts.specs.Recordings.{recorded_of}
use Rattle.scripts.specs.declared.fault.ScriptFault.{ScriptFault}
use Rattle.scripts.specs.declared.fault.ScriptFault.TheVariants.{Line}
use Rattle.scripts.specs.declared.recorded.Recorded.{Recorded}

-- what a recording says
abbrev Said : Type 0
Said = Result (List Step × Option Watch) ℕ

-- ---- whole lines

whole_first : (line : List ℕ) (parts : List (List ℕ)) (first : List ℕ) (more : List (List ℕ)) → parts ≡ first ∷ more
    → whole_of_parts (line ∷ parts) ≡ strip_carriage_return line ∷ whole_of_parts parts
whole_first line parts first more e = rw e refl

-- a part, and those of the text after it
pub whole_next : (line rest : List ℕ)
    → whole_of_parts (line ∷ slice_split feed rest) ≡ strip_carriage_return line ∷ whole_lines rest
whole_next line rest = let part = some_part rest in whole_first line (slice_split feed rest) part.0 part.1 part.2

-- a text with a line feed
pub a_line : (text : List ℕ) (end : ℕ) → position feed text ≡ Some end
    → whole_lines text ≡ strip_carriage_return (take end text) ∷ whole_lines (drop (end + 1) text)
a_line text end found = ap whole_of_parts (parts_at text end found) ∙ whole_next (take end text) (drop (end + 1) text)

-- one without
pub no_line : (text : List ℕ) → position feed text ≡ None → whole_lines text ≡ []
no_line text found = ap whole_of_parts (parts_none text found)

counted_by : (text : List ℕ) (at : Option ℕ) → position feed text ≡ at → is_none at ≡ (length (whole_lines text) == 0)
counted_by text None found = rw (no_line text found) refl
counted_by text (Some end) found =
    rw (a_line text end found) (some (strip_carriage_return (take end text)) (whole_lines (drop (end + 1) text))) where
      some : (line : List ℕ) (lines : List (List ℕ)) → false ≡ (length (line ∷ lines) == 0)
      some line lines = grind (arith, nat_tests)

pub counted : (text : List ℕ) → is_none (position feed text) ≡ (length (whole_lines text) == 0)
counted text = counted_by text (position feed text) refl

-- ---- what was read, and what is left

nothing_read : (said : Said) → said ≡ following [] said
nothing_read (Ok rest) = refl
nothing_read (Err number) = refl

pub start : (text : List ℕ) → recorded_of text ≡ following [] (recorded 1 (whole_lines text))
unfolding recorded_of
start text = nothing_read (recorded 1 (whole_lines text))

added : (steps new : List Step) (step : Option Step) (rest otherwise : Said) → Adds steps step new
    → following steps (step_or step rest otherwise) ≡ following new rest
added steps new None rest otherwise h = absurd h
added steps new (Some step) (Err line) otherwise h = refl
added steps new (Some step) (Ok rest) otherwise h =
    ap (λ (l : List Step). Ok (l, rest.1)) (sym (append_assoc steps (step ∷ []) rest.0) ∙ ap (λ (l : List Step). l ++ rest.0) (sym h))

-- what is left, from a line on
left_of : (text rest : List ℕ) (steps : List Step) (number end : ℕ)
    → recorded_of text ≡ following steps (recorded number (whole_lines rest))
    → position feed rest ≡ Some end
    → recorded_of text ≡ following steps (recorded number (strip_carriage_return (take end rest) ∷ whole_lines (drop (end + 1) rest)))
left_of text rest steps number end left found =
    left ∙ ap (λ (l : List (List ℕ)). following steps (recorded number l)) (a_line rest end found)

pub one_more : (text rest : List ℕ) (steps new : List Step) (number end : ℕ)
    → recorded_of text ≡ following steps (recorded number (whole_lines rest)) → position feed rest ≡ Some end
    → Adds steps (step_of (strip_carriage_return (take end rest))) new
    → recorded_of text ≡ following new (recorded (number + 1) (whole_lines (drop (end + 1) rest)))
one_more text rest steps new number end left found h =
    let line = strip_carriage_return (take end rest) in
    let after = whole_lines (drop (end + 1) rest) in
    left_of text rest steps number end left found
    ∙ added steps new (step_of line) (recorded (number + 1) after) (or_last number (watch_of line) (length after == 0)) h

no_step : (steps : List Step) (step : Option Step) (rest otherwise : Said) → step ≡ None
    → following steps (step_or step rest otherwise) ≡ following steps otherwise
no_step steps step rest otherwise h = rw h refl

pub ended : (text rest : List ℕ) (steps : List Step) (number end line : ℕ) (result : Result Recorded ScriptFault)
    → recorded_of text ≡ following steps (recorded number (whole_lines rest)) → position feed rest ≡ Some end
    → Refuses (Line line) number (step_of (strip_carriage_return (take end rest)))
    → Holds result (following steps (or_last number (watch_of (strip_carriage_return (take end rest)))
    (length (whole_lines (drop (end + 1) rest)) == 0)))
    → Holds result (recorded_of text)
ended text rest steps number end line result left found none h =
    let P : Said → Type 0 = λ said. Holds result said in
    let after = whole_lines (drop (end + 1) rest) in
    let here = strip_carriage_return (take end rest) in
    subst P (sym (left_of text rest steps number end left found
    ∙ no_step steps (step_of here) (recorded (number + 1) after) (or_last number (watch_of here) (length after == 0)) none.1)) h

-- nothing is left
pub whole : (text rest : List ℕ) (steps : List Step) (number : ℕ) → recorded_of text ≡ following steps (recorded number (whole_lines rest))
    → position feed rest ≡ None → recorded_of text ≡ Ok (steps, None)
whole text rest steps number left found =
    left ∙ ap (λ (l : List (List ℕ)). following steps (recorded number l)) (no_line rest found)
    ∙ ap (λ (l : List Step). Ok (l, None)) (append-nil steps)

-- whether there is none, by whether there is some
pub none_of : (at : Option ℕ) (t : Bool) → is_some at ≡ not t → t ≡ is_none at
none_of None true h = refl
none_of None false h = h
none_of (Some end) true h = h
none_of (Some end) false h = refl

-- what comes after a line is shorter
pub less : (text : List ℕ) (end : ℕ) → position feed text ≡ Some end → length (drop (end + 1) text) < length text
less text end h =
    let P : Bool → Type 0 = λ t. nat_lt (position_or_len feed text) (length text) ≡ t → length (drop (end + 1) text) < length text in
    let go : P (nat_lt (position_or_len feed text) (length text)) = elim (nat_lt (position_or_len feed text) (length text)) as P [
      | true ↦ λ t.
          let found : Some (position_or_len feed text) ≡ Some end = rw t at h in
          let e : position_or_len feed text ≡ end = cc in
          let within : position_or_len feed text < length text = grind (arith, nat_tests) in
          let size = length-drop (end + 1) text in
          omega (arith, e, within, size)
      | false ↦ λ t. let found : None ≡ Some end = rw t at h in cc
    ] in go refl
