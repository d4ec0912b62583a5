-- The rows of a program rise.
use Rattle.assembler.proofs.Common.{[], ap, arith, AsmError, AsmErrorKind, Bool, defines_twice, end_of, end_of_line, Err, error_at, false, first_address, is_aligned, IsLayout, kept, Label, labels_at, Line, line_then, LineError, lines, List, misplaced, nat_tests, None, Ok, Option, Place, place, place_error, places, read, read_by, read_lines, refl, Result, Row, row_of, rows_in, RowsRise, says_nothing, size_at, size_of, Some, Source, Statement, subst, true, whole_error, words_at, words_of, ℕ, ◌%◌, ◌*◌, ◌++◌, ◌+◌, ◌∷◌, ◌≡◌, ◌≤◌}
use Rattle.std.specs.Prelude.{◌==◌}
use Rattle.image.specs.Lines.{end_of as row_end}
use Rattle.image.proofs.Rows.{rows_rise_from-cons, rows_rise_from-nil, RowsRiseFrom}
use Rattle.statements.specs.declared.statement.Statement.TheVariants as say
use Rattle.assembler.specs.Program.{read_text}
use Rattle.assembler.proofs.Filling.{end_of_le}

-- ---- the lines' numbers rise

abbrev pub NumbersFrom : ℕ → List Source → Type 0
NumbersFrom number [] = Unit {0}
NumbersFrom number (source ∷ others) = (number ≤ source.number) × NumbersFrom (source.number + 1) others

numbers_from_less : (number less : ℕ) (program : List Source) → less ≤ number → NumbersFrom number program → NumbersFrom less program
numbers_from_less number less [] h n = tt
numbers_from_less number less (source ∷ others) h (le, rest) = (omega (arith, le), rest)

numbers_kept : (number : ℕ) (line : Line) (others program : List Source) → NumbersFrom (number + 1) others
    → kept number line others ≡ program → NumbersFrom number program
numbers_kept number line others program n e =
    let P : Bool → Type 0 = λ t. says_nothing line ≡ t → NumbersFrom number (kept number line others) in
    let go : P (says_nothing line) = elim (says_nothing line) as P [
      | true ↦ λ t. rw t (numbers_from_less (number + 1) number others (omega arith) n)
      | false ↦ λ t. rw t (let le : number ≤ number = omega arith in (le, n))
    ] in subst (NumbersFrom number) e (go refl)

numbers_then : (number : ℕ) (line : Result Line LineError) (rest : Result (List Source) AsmError) (program : List Source)
    → line_then number line rest ≡ Ok program → ((others : List Source) → rest ≡ Ok others → NumbersFrom (number + 1) others)
    → NumbersFrom number program
numbers_then number (Err error) rest program h f = cc
numbers_then number (Ok line) (Err error) program h f = cc
numbers_then number (Ok line) (Ok others) program h f =
    let e : kept number line others ≡ program = cc in numbers_kept number line others program (f others refl) e

numbers_read : (number : ℕ) (texts : List (List ℕ)) (program : List Source) → read_lines number texts ≡ Ok program
    → NumbersFrom number program
numbers_read number [] program h = let e : [] ≡ program = cc in subst (NumbersFrom number) e tt
numbers_read number (text ∷ texts) program h =
    numbers_then number (read text) (read_lines (number + 1) texts) program h (λ others e. numbers_read (number + 1) texts others e)

numbers_by : (wrong : Option AsmError) (text : List ℕ) (program : List Source) → read_by wrong text ≡ Ok program → NumbersFrom 1 program
numbers_by (Some error) text program h = cc
numbers_by None text program h = numbers_read 1 (lines text) program h

pub numbers : (text : List ℕ) (program : List Source) → read_text text ≡ Ok program → NumbersFrom 1 program
unfolding read_text
numbers text program h = numbers_by (whole_error text) text program h

-- ---- the rows

-- a statement that has code is its words
size_words : (statement : Statement) (address : ℕ) → (words_of statement == 0) ≡ false → size_of statement address ≡ 4 * words_of statement
size_words (say.Data width items) address h = cc
size_words (say.Space count) address h = cc
size_words (say.Align power) address h = cc
size_words say.Nothing address h = cc
size_words _ address h = refl

size_words_at : (statement : Option Statement) (address : ℕ) → (words_at statement == 0) ≡ false
    → size_at statement address ≡ 4 * words_at statement
size_words_at None address h = cc
size_words_at (Some statement) address h = size_words statement address h

-- nothing is wrong with a line, nor with the others
pub parted : (line : ℕ) (wrong : Option AsmErrorKind) (later : Option AsmError) → error_at line wrong later ≡ None
    → (wrong ≡ None) × (later ≡ None)
parted line None later h = (refl, h)
parted line (Some kind) later h = cc

-- a line that has to stand at a multiple of 4 does
pub multiple : (limit : ℕ) (before : List Label) (p : Place) → misplaced limit before p ≡ None → is_aligned p.source.line ≡ true
    → p.address % 4 ≡ 0
multiple limit before p h aligned =
    let P : Bool → Bool → Type 0 = λ twice whole. defines_twice p.address before p.source.line.labels ≡ twice → (p.address % 4 == 0) ≡ whole
    → p.address % 4 ≡ 0 in
    let go : P (defines_twice p.address before p.source.line.labels) (p.address % 4 == 0) = elim
    (defines_twice p.address before p.source.line.labels) as (λ twice. P twice (p.address % 4 == 0)) [
      | true ↦ λ t v. let e = (rw t at h) in cc
      | false ↦ elim (p.address % 4 == 0) as (λ whole. P false whole) [
        | true ↦ λ t v. grind (arith, nat_tests)
        | false ↦ λ t v. let e = (rw (t, aligned, v) at h) in cc
      ]
    ] in go refl refl

rise_from_more : (line less address lower : ℕ) (rows : List Row) (end : ℕ) → less ≤ line → lower ≤ address
    → RowsRiseFrom line address rows end → RowsRiseFrom less lower rows end
rise_from_more line less address lower rows end h l r = record {
  rise = r.rise;
  lines = λ k d w. let e = r.lines k d w in omega (arith, e);
  places = λ k d w. let e = r.places k d w in omega (arith, e);
}

rise_from : (limit number address : ℕ) (before : List Label) (program : List Source) → NumbersFrom number program → first_address ≤ address
    → place_error limit before (places address program) ≡ None
    → RowsRiseFrom number address (rows_in (places address program)) (end_of address program)
rise_from limit number address before [] n first h = rows_rise_from-nil number address address
rise_from limit number address before (source ∷ others) (le, n) first h =
    let right = parted source.number (misplaced limit before (place address source))
    (place_error limit (before ++ labels_at (place address source)) (places (end_of_line source address) others)) h in
    let words = words_at source.line.statement in
    let from : first_address ≤ end_of_line source address = omega arith in
    let rest = rise_from limit (source.number + 1) (end_of_line source address)
    (before ++ labels_at (place address source)) others n from right.1 in
    let end = end_of (end_of_line source address) others in
    let P : Bool → Type 0 = λ t. (words == 0) ≡ t
    → RowsRiseFrom number address (row_of source.number address words ++ rows_in (places (end_of_line source address) others)) end in
    let go : P (words == 0) = elim (words == 0) as P [
      | true ↦ λ t. rw t (rise_from_more (source.number + 1) number (end_of_line source address) address
          (rows_in (places (end_of_line source address) others)) end (omega (arith, le)) (omega arith) rest)
      | false ↦ λ t.
          let size : size_at source.line.statement address ≡ 4 * words = size_words_at source.line.statement address t in
          let last = end_of_le (end_of_line source address) others in
          let same : end_of_line source address ≡ row_end (source.number, address, words) = ap (λ s. address + s) size in
          let some : 1 ≤ words = grind (arith, nat_tests) in
          let aligned : is_aligned source.line ≡ true = rw t refl in
          let here : address ≤ address = omega arith in
          let on : RowsRiseFrom (source.number + 1) (row_end (source.number, address, words))
          (rows_in (places (end_of_line source address) others)) end = subst
          (λ a. RowsRiseFrom (source.number + 1) a (rows_in (places (end_of_line source address) others)) end) same rest in
          rw t (rows_rise_from-cons number address (source.number, address, words)
          (rows_in (places (end_of_line source address) others)) end first le here
          (multiple limit before (place address source) right.0 aligned) some (omega (arith, last, same)) on)
    ] in go refl

pub rows_rise : (text : List ℕ) (limit : ℕ) (program : List Source) (labels : List Label) (rows : List Row) (end : ℕ)
    → read_text text ≡ Ok program → IsLayout limit program labels rows end → RowsRise rows end
rows_rise text limit program labels rows end h l =
    let r = rise_from limit 1 first_address [] program (numbers text program h) (omega arith) l.fits in
    rw (l.rows_are, l.end_is) r.rise
