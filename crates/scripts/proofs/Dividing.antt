-- A text, its first line and the lines after it.
use Rattle.scripts.proofs.Common.{[], ap, arith, Bool, drop, false, first_line, last, length, line_before, line_then, lines, lines_of_parts, List, nat_lt, nat_tests, None, onto_first, Option, position, position_or_len, read, refl, rest_after, rest_of_lines, slice_split, Some, step_of, strip_carriage_return, sym, take, true, watch_of, ℕ, ◌+◌, ◌-◌, ◌<◌, ◌==◌, ◌∙◌, ◌∷◌, ◌≡◌, ◌≤◌}
use Rattle.std.proofs.lemmas.List.{length-drop}
use Rattle.std.proofs.lemmas.List.Splits.{slice_split_first, slice_split-cons_yes, slice_split-cons_no}

abbrev pub feed : ℕ → Bool
feed b = b == 10

-- ---- parts between line feeds

-- where the first line feed is, the first part ends
pub parts_at : (text : List ℕ) (at : ℕ) → position feed text ≡ Some at
    → slice_split feed text ≡ take at text ∷ slice_split feed (drop (at + 1) text)
parts_at text at h =
    let P : Bool → Type 0 = λ t. nat_lt (position_or_len feed text) (length text) ≡ t
    → slice_split feed text ≡ take at text ∷ slice_split feed (drop (at + 1) text) in
    let go : P (nat_lt (position_or_len feed text) (length text)) = elim (nat_lt (position_or_len feed text) (length text)) as P [
      | true ↦ λ t.
          let found : Some (position_or_len feed text) ≡ Some at = rw t at h in
          let e : position_or_len feed text ≡ at = cc in
          let within : position_or_len feed text < length text = grind (arith, nat_tests) in
          rw e at (slice_split_first feed text 0 within)
      | false ↦ λ t. let found : None ≡ Some at = rw t at h in cc
    ] in go refl

-- where there is none, there is one part
one_part : (text : List ℕ) → length text ≤ position_or_len feed text → slice_split feed text ≡ text ∷ []
one_part [] h = refl
one_part (b ∷ text) h =
    let P : Bool → Type 0 = λ t. feed b ≡ t → slice_split feed (b ∷ text) ≡ (b ∷ text) ∷ [] in
    let go : P (feed b) = elim (feed b) as P [
      | true ↦ λ t. let none : length (b ∷ text) ≤ 0 = rw t at h in absurd (omega arith)
      | false ↦ λ t.
          let more : length (b ∷ text) ≤ 1 + position_or_len feed text = rw t at h in
          slice_split-cons_no feed b text t ∙ ap (onto_first b) (one_part text (omega arith))
    ] in go refl

pub parts_none : (text : List ℕ) → position feed text ≡ None → slice_split feed text ≡ text ∷ []
parts_none text h =
    let P : Bool → Type 0 = λ t. nat_lt (position_or_len feed text) (length text) ≡ t → slice_split feed text ≡ text ∷ [] in
    let go : P (nat_lt (position_or_len feed text) (length text)) = elim (nat_lt (position_or_len feed text) (length text)) as P [
      | true ↦ λ t. let found : Some (position_or_len feed text) ≡ None = rw t at h in cc
      | false ↦ λ t. one_part text (grind (arith, nat_tests))
    ] in go refl

-- there is a part
pub some_part : (text : List ℕ) → (first : List ℕ) × (more : List (List ℕ)) × (slice_split feed text ≡ first ∷ more)
some_part [] = ([], [], refl)
some_part (b ∷ text) =
    let rest = some_part text in
    let P : Bool → Type 0 = λ t. feed b ≡ t → (first : List ℕ) × (more : List (List ℕ)) × (slice_split feed (b ∷ text) ≡ first ∷ more) in
    let go : P (feed b) = elim (feed b) as P [
      | true ↦ λ t. ([], slice_split feed text, slice_split-cons_yes feed b text t)
      | false ↦ λ t. (b ∷ rest.0, rest.1, slice_split-cons_no feed b text t ∙ ap (onto_first b) rest.2)
    ] in go refl

-- ---- lines

-- a part that is not empty has a line
begun : (b : ℕ) (first : List ℕ) (more : List (List ℕ))
    → (line : List ℕ) × (others : List (List ℕ)) × (lines_of_parts ((b ∷ first) ∷ more) ≡ line ∷ others)
begun b first [] = let t : (length (b ∷ first) == 0) ≡ false = grind (arith, nat_tests) in (b ∷ first, [], rw t refl)
begun b first (part ∷ more) = (strip_carriage_return (b ∷ first), lines_of_parts (part ∷ more), refl)

-- bytes have a line
pub some_line : (text : List ℕ) → 0 < length text → (first : List ℕ) × (more : List (List ℕ)) × (lines text ≡ first ∷ more)
some_line [] h = absurd (omega arith)
some_line (b ∷ text) h =
    let rest = some_part text in
    let line = begun b rest.0 rest.1 in
    let P : Bool → Type 0 = λ t. feed b ≡ t → (first : List ℕ) × (more : List (List ℕ)) × (lines (b ∷ text) ≡ first ∷ more) in
    let go : P (feed b) = elim (feed b) as P [
      | true ↦ λ t. (
        strip_carriage_return [],
        lines_of_parts (rest.0 ∷ rest.1),
        ap lines_of_parts
            (slice_split-cons_yes feed b text t ∙ ap (λ (p : List (List ℕ)). [] ∷ p) rest.2),
      )
      | false ↦ λ t. (line.0, line.1, ap lines_of_parts (slice_split-cons_no feed b text t ∙ ap (onto_first b) rest.2) ∙ line.2)
    ] in go refl

-- the only part
only : (number : ℕ) (text : List ℕ) → read number (lines_of_parts (text ∷ [])) ≡ last number (watch_of text)
only number [] = refl
only number (b ∷ text) = let t : (length (b ∷ text) == 0) ≡ false = grind (arith, nat_tests) in rw t refl

last_by : (number : ℕ) (text : List ℕ) (at : Option ℕ) → position feed text ≡ at → rest_after text at ≡ []
    → read number (lines text) ≡ last number (watch_of (line_before text at))
last_by number text None h e = ap (λ (p : List (List ℕ)). read number (lines_of_parts p)) (parts_none text h) ∙ only number text
last_by number text (Some at) h e =
    ap (λ (p : List (List ℕ)). read number (lines_of_parts p))
    (parts_at text at h ∙ ap (λ (r : List ℕ). take at text ∷ slice_split feed r) e)

pub last_line : (number : ℕ) (text : List ℕ) → rest_of_lines text ≡ [] → read number (lines text) ≡ last number (watch_of (first_line text))
last_line number text h = last_by number text (position feed text) refl h

pub read_more : (number : ℕ) (line : List ℕ) (rest : List (List ℕ)) (next : List ℕ) (more : List (List ℕ)) → rest ≡ next ∷ more
    → read number (line ∷ rest) ≡ line_then number (step_of line) (read (number + 1) rest)
read_more number line rest next more e = rw e refl

more_by : (number : ℕ) (text : List ℕ) (at : Option ℕ) → position feed text ≡ at → 0 < length (rest_after text at)
    → read number (lines text) ≡ line_then number (step_of (line_before text at)) (read (number + 1) (lines (rest_after text at)))
more_by number text None h some = absurd (omega arith)
more_by number text (Some at) h some =
    let rest = drop (at + 1) text in
    let part = some_part rest in
    let line = some_line rest some in
    let parted : lines text ≡ strip_carriage_return (take at text) ∷ lines rest =
    ap lines_of_parts (parts_at text at h ∙ ap (λ (p : List (List ℕ)). take at text ∷ p) part.2)
    ∙ ap (λ (l : List (List ℕ)). strip_carriage_return (take at text) ∷ l) (sym (ap lines_of_parts part.2)) in
    ap (read number) parted ∙ read_more number (strip_carriage_return (take at text)) (lines rest) line.0 line.1 line.2

-- a line before others
pub more_lines : (number : ℕ) (text : List ℕ) → 0 < length (rest_of_lines text)
    → read number (lines text) ≡ line_then number (step_of (first_line text)) (read (number + 1) (lines (rest_of_lines text)))
more_lines number text h = more_by number text (position feed text) refl h

shorter_by : (text : List ℕ) (at : Option ℕ) → 0 < length (rest_after text at) → length (rest_after text at) < length text
shorter_by text None h = absurd (omega arith)
shorter_by text (Some at) h = let size : length (drop (at + 1) text) ≡ length text - (at + 1) = length-drop (at + 1) text in omega arith

-- what comes after a line is shorter
pub shorter : (text : List ℕ) → 0 < length (rest_of_lines text) → length (rest_of_lines text) < length text
shorter text h = shorter_by text (position feed text) h
