-- The first error is the one that the assembler reports.
use Rattle.diagnostics.proofs.Common.{[], ap, AsmError, AsmErrorKind, content_at, content_error, content_errors, end_of_line, Err, error_at, error_by, error_if, error_in, error_of, errors_by, errors_in, errors_read, first_address, first_in, first_of, FirstIsReported, Label, labels_at, labels_in, Line, line_then, LineError, lines, lines_of, List, listed, located_among, memory_limit, misplaced, next_address, None, Ok, Option, or_next, Place, place, place_error, place_errors, placed, places, read, read_by, read_lines, reading_errors, refl, Result, Some, Source, sym, unread, value_in, whole_error, with_labels, wrong_in, ℕ, ◌++◌, ◌+◌, ◌∙◌, ◌∷◌, ◌≡◌}
use Rattle.assembler.specs.Program.{read_text}
use Rattle.diagnostics.specs.Errors.{errors_of}
use Rattle.diagnostics.proofs.Finding.{next_so}

-- ---- reading

first_read : (number : ℕ) (line : Result Line LineError) (rest : List AsmError) (others : Result (List Source) AsmError)
    → first_in rest ≡ error_in others → first_in (listed (unread number line) ++ rest) ≡ error_in (line_then number line others)
first_read number (Err error) rest others h = refl
first_read number (Ok line) rest (Ok others) h = h
first_read number (Ok line) rest (Err error) h = h

first_reading : (number : ℕ) (texts : List (List ℕ)) → first_in (reading_errors number texts) ≡ error_in (read_lines number texts)
first_reading number [] = refl
first_reading number (text ∷ texts) =
    first_read number (read text) (reading_errors (number + 1) texts) (read_lines (number + 1) texts) (first_reading (number + 1) texts)

-- ---- places and contents

first_step : (number : ℕ) (kind : Option AsmErrorKind) (rest : List AsmError) (later : Option AsmError)
    → (kind ≡ None → first_in rest ≡ later) → first_in (listed (error_if number kind) ++ rest) ≡ error_at number kind later
first_step number None rest later h = h refl
first_step number (Some kind) rest later h = refl

pub first_place : (limit : ℕ) (before : List Label) (address : ℕ) (program : List Source)
    → first_in (place_errors limit before (Some address) program) ≡ place_error limit before (places address program)
first_place limit before address [] = refl
first_place limit before address (source ∷ others) =
    first_step source.number (misplaced limit before (place address source))
    (place_errors limit (with_labels before address source.line.labels) (next_address limit (Some address) source) others)
    (place_error limit (before ++ labels_at (place address source)) (places (end_of_line source address) others))
    (λ none. next_so (λ l o. first_in (place_errors limit l o others)) limit before address source none
    ∙ first_place limit (before ++ labels_at (place address source)) (end_of_line source address) others)

first_content : (labels : List Label) (list : List Place) → first_in (content_errors labels list) ≡ content_error labels list
first_content labels [] = refl
first_content labels (p ∷ others) =
    first_step p.source.number (wrong_in (content_at labels p.address p.source.line.statement)) (content_errors labels others)
    (content_error labels others) (λ none. first_content labels others)

-- ---- the first pass with an error

first_or : (found next : List AsmError) → first_in (or_next found next) ≡ first_of (first_in found) (first_in next)
first_or [] next = refl
first_or (error ∷ errors) next = refl

first_lines : (texts : List (List ℕ)) (program : Result (List Source) AsmError) → program ≡ read_lines 1 texts
    → first_in (errors_read texts (value_in program)) ≡ error_by 1048576 program
first_lines texts (Err error) h = first_reading 1 texts ∙ ap error_in (sym h)
first_lines texts (Ok program) h =
    let contents = content_errors (labels_in (placed program)) (placed program) in
    first_or (place_errors memory_limit [] (Some first_address) program) contents
    ∙ ap (λ o. first_of o (first_in contents)) (first_place memory_limit [] first_address program)
    ∙ ap (first_of (place_error memory_limit [] (placed program))) (first_content (labels_in (placed program)) (placed program))

first_by : (whole : Option AsmError) (text : List ℕ) → first_in (errors_by whole text) ≡ error_by 1048576 (read_by whole text)
first_by (Some error) text = refl
first_by None text = first_lines (lines text) (read_lines 1 (lines text)) refl

pub reported : FirstIsReported
unfolding errors_of read_text
reported text = first_by (whole_error text) text

-- ---- a text with which nothing is wrong

pub no_first : (errors : List AsmError) → first_in errors ≡ None → errors ≡ []
no_first [] h = refl
no_first (error ∷ errors) h = cc

pub none_told : (text : List ℕ) → error_of text 1048576 ≡ None → [] ≡ errors_in text
none_told text h =
    ap (λ (l : List AsmError). located_among (lines_of text) l) (sym (no_first (errors_of text) (reported text ∙ h)))
