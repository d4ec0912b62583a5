-- The numbers of a line table have 32 bits.
use Rattle.assembler.proofs.Common.{[], All, arith, AsmError, AssembledIsNarrow, at, Bool, cond, content_error, end_of_line, eqb, Err, error_by, false, first_address, first_of, image_by, is_utf8, IsNarrowRow, Label, labels_at, labels_in, length, Line, line_at, line_then, LineError, lines, lines_of_parts, List, ltb, memory_end, misplaced, nat_tests, None, Ok, onto_first, Option, place, place_error, placed, places, read, read_by, read_lines, refl, Result, row_of, rows_at, rows_in, says_nothing, slice_split, Some, Source, text_limit, true, words_at, ℕ, ◌++◌, ◌+◌, ◌<◌, ◌^◌, ◌∷◌, ◌≡◌, ◌≤◌}
use Rattle.std.proofs.lemmas.List.Elements.{All-nil, All-cons, All-append, All-head, All-tail}
use Rattle.assembler.specs.Assembled.{assembled}
use Rattle.assembler.specs.Program.{read_text, whole_error}
use Rattle.std.specs.Str.Lossy.{utf8_valid_len}
use Rattle.assembler.specs.declared.error.AsmErrorKind.TheVariants as k
use Rattle.assembler.proofs.Loadable.{ends}
use Rattle.assembler.proofs.Ranges.{either}
use Rattle.assembler.proofs.Rising.{parted}

-- ---- how many lines a text has

abbrev Few : ℕ → List (List ℕ) → Type 0
Few n list = length list ≤ n

onto_few : (n x : ℕ) (parts : List (List ℕ)) → 1 ≤ n → Few n parts → Few n (onto_first x parts)
onto_few n x [] some h = some
onto_few n x (part ∷ parts) some h = h

parts_few : (bytes : List ℕ) → Few (length bytes + 1) (slice_split (λ b. eqb b 10) bytes)
parts_few [] = omega arith
parts_few (x ∷ bytes) =
    let rest = parts_few bytes in
    either (Few (length (x ∷ bytes) + 1)) (eqb x 10) _ _ (omega (arith, rest))
    (onto_few (length (x ∷ bytes) + 1) x (slice_split (λ b. eqb b 10) bytes) (omega arith) (omega (arith, rest)))

lines_few : (parts : List (List ℕ)) → length (lines_of_parts parts) ≤ length parts
lines_few [] = omega arith
lines_few (x ∷ []) = either (Few 1) (eqb (length x) 0) _ _ (omega arith) (omega arith)
lines_few (x ∷ y ∷ more) = let rest = lines_few (y ∷ more) in omega (arith, rest)

-- ---- the numbers of lines

abbrev AllBelow : ℕ → List Source → Type 0
AllBelow n list = All (λ (s : Source). s.number < n) list

abbrev Reads : ℕ → Result (List Source) AsmError → Type 0
Reads n (Ok program) = AllBelow n program
Reads n (Err error) = Unit {0}

then_below : (n number : ℕ) (line : Result Line LineError) (others : Result (List Source) AsmError) → number < n → Reads n others
    → Reads n (line_then number line others)
then_below n number (Err error) others low h = tt
then_below n number (Ok line) (Err error) low h = tt
then_below n number (Ok line) (Ok others) low h =
    either (AllBelow n) (says_nothing line) others _ h
    (All-cons (λ (s : Source). s.number < n) (record { number = number; line = line }) others low h)

lines_below : (n number : ℕ) (list : List (List ℕ)) → number + length list ≤ n → Reads n (read_lines number list)
lines_below n number [] h = All-nil (λ (s : Source). s.number < n)
lines_below n number (line ∷ others) h =
    then_below n number (read line) (read_lines (number + 1) others) (omega (arith, h))
    (lines_below n (number + 1) others (omega (arith, h)))

-- ---- rows

row_narrow : (number address words : ℕ) → number < 2 ^ 32 → address < 2 ^ 32 → All IsNarrowRow (row_of number address words)
row_narrow number address words n a =
    either (All IsNarrowRow) (eqb words 0) [] _ (All-nil IsNarrowRow)
    (All-cons IsNarrowRow (number, address, words) [] (n, a) (All-nil IsNarrowRow))

rows_narrow : (limit : ℕ) (before : List Label) (address : ℕ) (program : List Source) → limit < 2 ^ 32 → address ≤ limit
    → AllBelow (2 ^ 32) program → place_error limit before (places address program) ≡ None
    → All IsNarrowRow (rows_in (places address program))
rows_narrow limit before address [] few from low h = All-nil IsNarrowRow
rows_narrow limit before address (source ∷ others) few from low h =
    let right = parted source.number (misplaced limit before (place address source))
    (place_error limit (before ++ labels_at (place address source)) (places (end_of_line source address) others)) h in
    All-append IsNarrowRow (rows_at (place address source)) (rows_in (places (end_of_line source address) others))
    (row_narrow source.number address (words_at source.line.statement) (All-head (λ (s : Source). s.number < 2 ^ 32) source others low)
    (omega (arith, from, few)))
    (rows_narrow limit (before ++ labels_at (place address source)) (end_of_line source address) others few
    (ends limit before (place address source) right.0) (All-tail (λ (s : Source). s.number < 2 ^ 32) source others low) right.1)

no_error : (first later : Option AsmError) → first_of first later ≡ None → first ≡ None
no_error None later h = refl
no_error (Some e) later h = cc

table_narrow : (size : ℕ) (result : Result (List Source) AsmError) → Reads (2 ^ 32) result → error_by size result ≡ None
    → All IsNarrowRow (image_by result).lines.rows
table_narrow size (Err error) low h = absurd (let no : Some error ≡ None = h in cc)
table_narrow size (Ok program) low h =
    let limit : memory_end size < 2 ^ 32 = omega arith in
    let start : first_address ≤ memory_end size = omega arith in
    rows_narrow (memory_end size) [] first_address program limit start low
    (no_error _ (content_error (labels_in (placed program)) (placed program)) h)

few_bytes : (text : List ℕ) → whole_error text ≡ None → length text ≤ text_limit
unfolding whole_error
few_bytes text h = by (ltb text_limit (length text)) refl h where
  by : (long : Bool) → ltb text_limit (length text) ≡ long
      → cond long (Some (at 0 k.TooLarge)) (cond (is_utf8 text) None (Some (at (line_at text (utf8_valid_len text)) k.NotUtf8))) ≡ None
      → length text ≤ text_limit
  by true e none = cc
  by false e none = grind (arith, nat_tests)

read_below : (wrong : Option AsmError) (text : List ℕ) → (wrong ≡ None → length text ≤ text_limit) → Reads (2 ^ 32) (read_by wrong text)
read_below (Some error) text h = tt
read_below None text h =
    let few = h refl in let parts = parts_few text in let kept = lines_few (slice_split (λ b. eqb b 10) text) in
    lines_below (2 ^ 32) 1 (lines text) (omega (arith, parts, kept, few))

text_below : (text : List ℕ) → Reads (2 ^ 32) (read_text text)
unfolding read_text
text_below text = read_below (whole_error text) text (few_bytes text)

pub assembled_is_narrow : AssembledIsNarrow
unfolding assembled
assembled_is_narrow text size h = table_narrow size (read_text text) (text_below text) h
