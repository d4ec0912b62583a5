-- Rows that rise: how they are made, and what a search of them finds.
use Rattle.image.proofs.Common.{[], All, ap, arith, Bool, covers, end_of, false, first_address, get_or, inl, inr, length, line_in, List, list_any, nat_le, nat_lt, nat_tests, None, not, refl, Row, RowsRise, Some, start_of, suc, true, words_in, zero, ℕ, ◌%◌, ◌++◌, ◌+◌, ◌<◌, ◌==◌, ◌∙◌, ◌∷◌, ◌≡◌, ◌≢◌, ◌≤◌}
use Rattle.std.specs.List.{find}
use Rattle.std.proofs.lemmas.Bool.{cases_lt}
use Rattle.std.proofs.Math.Nat.{eq-or-lt_of_le}
use Rattle.std.proofs.lemmas.List.Elements.{All-append}
use Rattle.std.proofs.lemmas.List.Folds.{list_any_none, list_any_at}
use Rattle.std.proofs.lemmas.List.Kept.{AllPairs-cons}
use Rattle.std.proofs.lemmas.List.Quantifiers.{all_pairs_push}
use Rattle.image.proofs.Finding.{FoundAt, found_at, all_fail, first_at, none_found}

-- No rows rise.
pub rows_rise-nil : (end : ℕ) → RowsRise [] end
rows_rise-nil end = record {
  words = λ k d h. absurd (omega arith);
  aligned = λ k d h. absurd (omega arith);
  from_first = λ k d h. absurd (omega arith);
  to_end = λ k d h. absurd (omega arith);
  lines = λ i j d l h. absurd (omega arith);
  places = λ i j d l h. absurd (omega arith);
}

all_single : (P : Row → Type 0) (row : Row) → P row → All P (row ∷ [])
all_single P row holds zero d h = holds
all_single P row holds (suc k) d h = absurd (omega arith)

-- Rows that rise up to the start of a row of a later line rise with that row after them, up to its end.
pub rows_rise-push : (rows : List Row) (row : Row) (end : ℕ) → RowsRise rows end → end ≤ start_of row
    → All (λ before. line_in before < line_in row) rows → first_address ≤ start_of row → start_of row % 4 ≡ 0 → 1 ≤ words_in row
    → RowsRise (rows ++ row ∷ []) (end_of row)
rows_rise-push rows row end rise after later first aligned words = record {
  words = All-append (λ each. 1 ≤ words_in each) rows (row ∷ []) rise.words (all_single (λ each. 1 ≤ words_in each) row words);
  aligned =
      All-append (λ each. start_of each % 4 ≡ 0) rows (row ∷ []) rise.aligned (all_single (λ each. start_of each % 4 ≡ 0) row aligned);
  from_first =
      All-append (λ each. first_address ≤ start_of each) rows (row ∷ []) rise.from_first
      (all_single (λ each. first_address ≤ start_of each) row first);
  to_end =
      All-append (λ each. end_of each ≤ end_of row) rows (row ∷ []) (λ k d h. let e = rise.to_end k d h in omega arith)
      (all_single (λ each. end_of each ≤ end_of row) row (omega arith));
  lines = all_pairs_push (λ each next. line_in each < line_in next) rows row rise.lines later;
  places =
      all_pairs_push (λ each next. end_of each ≤ start_of next) rows row rise.places (λ k d h. let e = rise.to_end k d h in omega arith);
}

all_cons : (P : Row → Type 0) (row : Row) (rows : List Row) → P row → All P rows → All P (row ∷ rows)
all_cons P row rows holds rest zero d h = holds
all_cons P row rows holds rest (suc k) d h = rest k d (omega arith)

-- Rows that rise, with a row of an earlier line before them that ends where they start or before that, rise.
pub rows_rise-cons : (row : Row) (rows : List Row) (end : ℕ) → RowsRise rows end → All (λ later. line_in row < line_in later) rows
    → All (λ later. end_of row ≤ start_of later) rows → first_address ≤ start_of row → start_of row % 4 ≡ 0 → 1 ≤ words_in row
    → end_of row ≤ end → RowsRise (row ∷ rows) end
rows_rise-cons row rows end rise lines places first aligned words within = record {
  words = all_cons (λ each. 1 ≤ words_in each) row rows words rise.words;
  aligned = all_cons (λ each. start_of each % 4 ≡ 0) row rows aligned rise.aligned;
  from_first = all_cons (λ each. first_address ≤ start_of each) row rows first rise.from_first;
  to_end = all_cons (λ each. end_of each ≤ end) row rows within rise.to_end;
  lines = AllPairs-cons (λ each next. line_in each < line_in next) row rows lines rise.lines;
  places = AllPairs-cons (λ each next. end_of each ≤ start_of next) row rows places rise.places;
}

-- the ends rise, as the lines do
pub ends_rise : (rows : List Row) (end : ℕ) (d : Row) → RowsRise rows end → (i j : ℕ) → i ≤ j → j < length rows
    → end_of (get_or rows i d) ≤ end_of (get_or rows j d)
ends_rise rows end d rise i j h within =
    let cases = eq-or-lt_of_le {n = i} {m = j} h in
    elim cases as (λ c. end_of (get_or rows i d) ≤ end_of (get_or rows j d)) [
      | inl same ↦ rw same (omega arith)
      | inr less ↦ let e = rise.places i j d less within in omega arith
    ]

pub lines_rise : (rows : List Row) (end : ℕ) (d : Row) → RowsRise rows end → (i j : ℕ) → i ≤ j → j < length rows
    → line_in (get_or rows i d) ≤ line_in (get_or rows j d)
lines_rise rows end d rise i j h within =
    let cases = eq-or-lt_of_le {n = i} {m = j} h in
    elim cases as (λ c. line_in (get_or rows i d) ≤ line_in (get_or rows j d)) [
      | inl same ↦ rw same (omega arith)
      | inr less ↦ let e = rise.lines i j d less within in omega arith
    ]

pub ends_tested : (rows : List Row) (end address : ℕ) (d : Row) → RowsRise rows end → (i j : ℕ) → i ≤ j → j < length rows
    → nat_le (end_of (get_or rows j d)) address ≡ true → nat_le (end_of (get_or rows i d)) address ≡ true
ends_tested rows end address d rise i j h within test =
    let e = ends_rise rows end d rise i j h within in
    let t : end_of (get_or rows j d) ≤ address = grind (arith, nat_tests) in
    grind (arith, nat_tests)

pub lines_tested : (rows : List Row) (end line : ℕ) (d : Row) → RowsRise rows end → (i j : ℕ) → i ≤ j → j < length rows
    → nat_lt (line_in (get_or rows j d)) line ≡ true → nat_lt (line_in (get_or rows i d)) line ≡ true
lines_tested rows end line d rise i j h within test =
    let e = lines_rise rows end d rise i j h within in
    let t : line_in (get_or rows j d) < line = grind (arith, nat_tests) in
    grind (arith, nat_tests)

pub lt_not_le : (a b : ℕ) → nat_lt a b ≡ not (nat_le b a)
lt_not_le a b = grind (arith, nat_tests)

pub le_not_lt : (a b : ℕ) → nat_le a b ≡ not (nat_lt b a)
le_not_lt a b = grind (arith, nat_tests)

lt_false : (a b : ℕ) → nat_lt a b ≡ false → b ≤ a
lt_false a b e = grind (arith, nat_tests)

lt_true : (a b : ℕ) → nat_lt a b ≡ true → a < b
lt_true a b e = grind (arith, nat_tests)

le_false : (a b : ℕ) → nat_le a b ≡ false → b < a
le_false a b e = grind (arith, nat_tests)

le_true : (a b : ℕ) → nat_le a b ≡ true → a ≤ b
le_true a b e = grind (arith, nat_tests)

covers_inside : (a : ℕ) (row : Row) → start_of row ≤ a → a < end_of row → covers a row ≡ true
covers_inside a row h l = grind (arith, nat_tests)

covers_below : (a : ℕ) (row : Row) → a < start_of row → covers a row ≡ false
covers_below a row h = grind (arith, nat_tests)

covers_past_end : (a : ℕ) (row : Row) → end_of row ≤ a → covers a row ≡ false
covers_past_end a row h = grind (arith, nat_tests)

-- An address that is no less than the start of the first row that ends after it lies in that row.
pub covered : (rows : List Row) (end a : ℕ) (row : Row) → RowsRise rows end → find (λ row. nat_lt a (end_of row)) rows ≡ Some row
    → start_of row ≤ a → find (covers a) rows ≡ Some row
covered rows end a row rise found h =
    let f = found_at (λ row. nat_lt a (end_of row)) rows row found in
    let here : get_or rows f.index row ≡ row = f.there row in
    let inside : covers a row ≡ true = covers_inside a row h (lt_true a (end_of row) f.passes) in
    first_at (covers a) rows f.index row f.within (rw here inside)
    (λ j l. covers_past_end a (get_or rows j row) (lt_false a (end_of (get_or rows j row)) (f.before j row l))) ∙ ap Some here

-- One that is less lies in no row.
pub uncovered : (rows : List Row) (end a : ℕ) (row : Row) → RowsRise rows end → find (λ row. nat_lt a (end_of row)) rows ≡ Some row
    → a < start_of row → find (covers a) rows ≡ None
uncovered rows end a row rise found h =
    let f = found_at (λ row. nat_lt a (end_of row)) rows row found in
    none_found (covers a) rows (λ j d within.
    let cases = cases_lt j f.index in
    elim cases as (λ c. covers a (get_or rows j d) ≡ false) [
      | inl less ↦ covers_past_end a (get_or rows j d) (lt_false a (end_of (get_or rows j d)) (f.before j d less))
      | inr more ↦ elim (eq-or-lt_of_le {n = f.index} {m = j} more) as (λ c. covers a (get_or rows j d) ≡ false) [
        | inl same ↦ rw (← same, f.there d) (covers_below a row h)
        | inr greater ↦
            let e = rise.places f.index j d greater within in
            let here : end_of row ≤ start_of (get_or rows j d) = (rw (f.there d) at e) in
            covers_below a (get_or rows j d) (omega arith)
      ]
    ])

-- An address after which no row ends lies in no row.
pub past_all : (rows : List Row) (a : ℕ) → find (λ row. nat_lt a (end_of row)) rows ≡ None → find (covers a) rows ≡ None
past_all rows a found =
    none_found (covers a) rows
    (λ j d within. covers_past_end a (get_or rows j d)
    (lt_false a (end_of (get_or rows j d)) (all_fail (λ row. nat_lt a (end_of row)) rows found j d within)))

eq_self : (a b : ℕ) → a ≡ b → (a == b) ≡ true
eq_self a b e = grind (arith, nat_tests)

eq_other : (a b : ℕ) → a ≢ b → (a == b) ≡ false
eq_other a b e = grind (arith, nat_tests)

eq_false : (a b : ℕ) → (a == b) ≡ false → a ≢ b
eq_false a b e = grind (arith, nat_tests)

-- Where the first row of a line or a later one is of that line, it is the line's row.
pub line_there : (rows : List Row) (line : ℕ) (row : Row) → find (λ row. nat_le line (line_in row)) rows ≡ Some row → line_in row ≡ line
    → find (λ row. line_in row == line) rows ≡ Some row
line_there rows line row found same =
    let f = found_at (λ row. nat_le line (line_in row)) rows row found in
    let here : get_or rows f.index row ≡ row = f.there row in
    let passes : (line_in row == line) ≡ true = eq_self (line_in row) line same in
    first_at (λ row. line_in row == line) rows f.index row f.within (rw here passes)
    (λ j l. let below = le_false line (line_in (get_or rows j row)) (f.before j row l) in
    eq_other (line_in (get_or rows j row)) line (omega arith)) ∙ ap Some here

-- Where it is of a later line, no row is of that line.
pub line_not_there : (rows : List Row) (end line : ℕ) (row : Row) → RowsRise rows end
    → find (λ row. nat_le line (line_in row)) rows ≡ Some row → line_in row ≢ line → find (λ row. line_in row == line) rows ≡ None
line_not_there rows end line row rise found other =
    let f = found_at (λ row. nat_le line (line_in row)) rows row found in
    let above : line ≤ line_in row = le_true line (line_in row) f.passes in
    none_found (λ row. line_in row == line) rows (λ j d within.
    let cases = cases_lt j f.index in
    elim cases as (λ c. (line_in (get_or rows j d) == line) ≡ false) [
      | inl less ↦ let below =
          le_false line (line_in (get_or rows j d)) (f.before j d less) in eq_other (line_in (get_or rows j d)) line (omega arith)
      | inr more ↦
          let e = lines_rise rows end d rise f.index j more within in
          let here : line_in row ≤ line_in (get_or rows j d) = (rw (f.there d) at e) in
          let strict : line < line_in row = omega arith in
          eq_other (line_in (get_or rows j d)) line (omega arith)
    ])

-- Where no row is of that line or a later one, none is of that line.
pub line_past_all : (rows : List Row) (line : ℕ) → find (λ row. nat_le line (line_in row)) rows ≡ None
    → find (λ row. line_in row == line) rows ≡ None
line_past_all rows line found =
    none_found (λ row. line_in row == line) rows
    (λ j d within. let below = le_false line (line_in (get_or rows j d))
    (all_fail (λ row. nat_le line (line_in row)) rows found j d within) in eq_other (line_in (get_or rows j d)) line (omega arith))

starts_elsewhere : (rows : List Row) (end a : ℕ) (row : Row) → RowsRise rows end → FoundAt (λ row. nat_lt a (end_of row)) rows row
    → (j : ℕ) (d : Row) → j < length rows → start_of row ≢ a → (start_of (get_or rows j d) == a) ≡ false
starts_elsewhere rows end a row rise f j d within other =
    let cases = cases_lt j f.index in
    elim cases as (λ c. (start_of (get_or rows j d) == a) ≡ false) [
      | inl less ↦
          let before = lt_false a (end_of (get_or rows j d)) (f.before j d less) in
          let words = rise.words j d within in
          eq_other (start_of (get_or rows j d)) a (omega arith)
      | inr more ↦ elim (eq-or-lt_of_le {n = f.index} {m = j} more) as (λ c. (start_of (get_or rows j d) == a) ≡ false) [
        | inl same ↦ rw (← same, f.there d) (eq_other (start_of row) a other)
        | inr greater ↦
            let e = rise.places f.index j d greater within in
            let here : end_of row ≤ start_of (get_or rows j d) = (rw (f.there d) at e) in
            let inside : a < end_of row = lt_true a (end_of row) f.passes in
            eq_other (start_of (get_or rows j d)) a (omega arith)
      ]
    ]

-- An address starts a row exactly where it starts the first row that ends after it.
pub starts_there : (rows : List Row) (end a : ℕ) (row : Row) → RowsRise rows end → find (λ row. nat_lt a (end_of row)) rows ≡ Some row
    → list_any (λ row. start_of row == a) rows ≡ (start_of row == a)
starts_there rows end a row rise found =
    let f = found_at (λ row. nat_lt a (end_of row)) rows row found in
    let here : get_or rows f.index row ≡ row = f.there row in
    let P : Bool → Type 0 = λ t. (start_of row == a) ≡ t → list_any (λ row. start_of row == a) rows ≡ t in
    let go : P (start_of row == a) = elim (start_of row == a) as P [
      | true ↦ λ t. list_any_at (λ row. start_of row == a) rows f.index row f.within (rw here t)
      | false ↦ λ t. list_any_none (λ row. start_of row == a) rows
          (λ j d within. starts_elsewhere rows end a row rise f j d within (eq_false (start_of row) a t))
    ] in
    go refl

-- Where no row ends after an address, it starts none.
pub starts_nowhere : (rows : List Row) (end a : ℕ) → RowsRise rows end → find (λ row. nat_lt a (end_of row)) rows ≡ None
    → list_any (λ row. start_of row == a) rows ≡ false
starts_nowhere rows end a rise found = list_any_none (λ row. start_of row == a) rows (λ j d within.
    let before = lt_false a (end_of (get_or rows j d)) (all_fail (λ row. nat_lt a (end_of row)) rows found j d within) in
    let words = rise.words j d within in
    eq_other (start_of (get_or rows j d)) a (omega arith))

-- Rows that rise from a line and an address on: made from the last row to the first.
pub record RowsRiseFrom (line address : ℕ) (rows : List Row) (end : ℕ) : Type 0 where
  pub rise : RowsRise rows end
  pub lines : All (λ row. line ≤ line_in row) rows
  pub places : All (λ row. address ≤ start_of row) rows

pub rows_rise_from-nil : (line address end : ℕ) → RowsRiseFrom line address [] end
rows_rise_from-nil line address end = record {
  rise = rows_rise-nil end;
  lines = λ k d h. absurd (omega arith);
  places = λ k d h. absurd (omega arith);
}

pub rows_rise_from-cons : (line address : ℕ) (row : Row) (rows : List Row) (end : ℕ) → first_address ≤ address → line ≤ line_in row
    → address ≤ start_of row → start_of row % 4 ≡ 0 → 1 ≤ words_in row → end_of row ≤ end
    → RowsRiseFrom (line_in row + 1) (end_of row) rows end → RowsRiseFrom line address (row ∷ rows) end
rows_rise_from-cons line address row rows end first later after aligned words within rest = record {
  rise =
      rows_rise-cons row rows end rest.rise (λ k d h. let e = rest.lines k d h in omega arith) rest.places
      (omega arith) aligned words within;
  lines = all_cons (λ each. line ≤ line_in each) row rows later (λ k d h. let e = rest.lines k d h in omega arith);
  places = all_cons (λ each. address ≤ start_of each) row rows after (λ k d h. let e = rest.places k d h in omega arith);
}
