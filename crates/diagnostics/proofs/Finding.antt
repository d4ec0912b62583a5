-- What the passes find in lines that were read.
use Rattle.diagnostics.proofs.Common.{[], all_read, ap, append-nil, append_assoc, arith, AsmError, AsmErrorKind, Bool, content_errors, content_steps, defines_twice, end_of_line, Err, error_if, error_in, false, first_address, if◌then◌else◌, is_aligned, is_some, kept, Label, labels_after, labels_at, labels_in, length, Line, line_then, LineError, List, listed, memory_limit, misplaced, misplaced_at, misplaced_so, nat_le, next_address, None, not, Ok, Option, or_next, place, place_errors, placed, places, program_errors, read, read_lines, refl, Result, said, said_lines, says_nothing, Some, Source, stands, sym, true, unwrap_or, value_in, with_labels, wrong_content, ℕ, ◌&&◌, ◌++◌, ◌+◌, ◌<◌, ◌==◌, ◌∙◌, ◌∷◌, ◌≡◌}
use Rattle.std.proofs.Common.{◌%◌}
use Rattle.assembler.specs.declared.error.AsmErrorKind.TheVariants as k
use Rattle.diagnostics.proofs.Naming.{with_labels_new}
use Rattle.diagnostics.proofs.Wrong.{wrong_so}

-- ---- reading

kept_before : (number : ℕ) (line : Line) (others : List Source) → kept number line others ≡ kept number line [] ++ others
kept_before number line others =
    let P : Bool → Type 0 = λ t. says_nothing line ≡ t → kept number line others ≡ kept number line [] ++ others in
    let go : P (says_nothing line) = elim (says_nothing line) as P [
      | true ↦ λ t. rw t refl
      | false ↦ λ t. rw t refl
    ] in go refl

one_read : (number : ℕ) (line : Result Line LineError) (all : Bool) (rest : List Source) (others : Result (List Source) AsmError)
    → (if all then Some rest else None) ≡ value_in others
    → (if is_some (value_in line) && all then Some (said number line ++ rest) else None) ≡ value_in (line_then number line others)
one_read number (Err error) all rest others h = refl
one_read number (Ok line) true rest (Ok others) h =
    let e : rest ≡ others = cc in
    ap Some (ap (λ (l : List Source). kept number line [] ++ l) e ∙ sym (kept_before number line others))
one_read number (Ok line) true rest (Err error) h = cc
one_read number (Ok line) false rest (Ok others) h = cc
one_read number (Ok line) false rest (Err error) h = refl

-- lines that can all be read say what the assembler reads
pub read_so : (number : ℕ) (texts : List (List ℕ))
    → (if all_read texts then Some (said_lines number texts) else None) ≡ value_in (read_lines number texts)
read_so number [] = refl
read_so number (text ∷ texts) =
    one_read number (read text) (all_read texts) (said_lines (number + 1) texts) (read_lines (number + 1) texts)
    (read_so (number + 1) texts)

-- ---- one line at its place

same_kind : (d m f : Bool) (end : ℕ)
    → (if d then Some k.TwiceDefined else error_in (if m then Err k.OutOfRange else if f then Ok end else Err k.TooLarge))
    ≡ (if d then Some k.TwiceDefined else if m then Some k.OutOfRange else if f then None else Some k.TooLarge)
same_kind true m f end = refl
same_kind false true f end = refl
same_kind false false true end = refl
same_kind false false false end = refl

-- what is wrong with a line, by whether it defines a label again
pub misplaced_same : (limit : ℕ) (before : List Label) (address : Option ℕ) (source : Source)
    → misplaced_so limit (defines_twice (unwrap_or address 0) before source.line.labels) address source
    ≡ misplaced_at limit before address source
misplaced_same limit before None source = refl
misplaced_same limit before (Some address) source =
    same_kind (defines_twice address before source.line.labels) (is_aligned source.line && not (address % 4 == 0))
    (nat_le (end_of_line source address) limit) (end_of_line source address)

fits : (d m f : Bool) (end : ℕ)
    → (if d then Some k.TwiceDefined else if m then Some k.OutOfRange else if f then None else Some k.TooLarge) ≡ None
    → (d ≡ false) × ((if m then Err k.OutOfRange else if f then Ok end else Err k.TooLarge) ≡ Ok end)
fits true m f end h = cc
fits false true f end h = cc
fits false false true end h = (refl, refl)
fits false false false end h = cc

-- a line with which nothing is wrong defines no label again, and its address is right
pub fits_so : (limit : ℕ) (before : List Label) (address : ℕ) (source : Source) → misplaced limit before (place address source) ≡ None
    → (defines_twice address before source.line.labels ≡ false) × (stands limit (place address source) ≡ Ok (end_of_line source address))
fits_so limit before address source h =
    fits (defines_twice address before source.line.labels) (is_aligned source.line && not (address % 4 == 0))
    (nat_le (end_of_line source address) limit) (end_of_line source address) h

-- what is known after such a line
pub next_so : {X : Type 0} (F : List Label → Option ℕ → X) (limit : ℕ) (before : List Label) (address : ℕ) (source : Source)
    → misplaced limit before (place address source) ≡ None
    → F (with_labels before address source.line.labels) (next_address limit (Some address) source)
    ≡ F (before ++ labels_at (place address source)) (Some (end_of_line source address))
next_so F limit before address source h =
    let f = fits_so limit before address source h in
    ap (λ (l : List Label). F l (next_address limit (Some address) source)) (with_labels_new address before source.line.labels f.0)
    ∙ ap (λ (o : Option ℕ). F (before ++ labels_at (place address source)) o) (ap value_in f.1)

nothing_at : (number : ℕ) (kind : Option AsmErrorKind) (rest : List AsmError) → listed (error_if number kind) ++ rest ≡ []
    → (kind ≡ None) × (rest ≡ [])
nothing_at number None rest h = (refl, h)
nothing_at number (Some kind) rest h = cc

-- where the first of some lines is not wrong at its place, and none of the others is
nothing_first : (limit : ℕ) (before : List Label) (address : ℕ) (source : Source) (others : List Source)
    → place_errors limit before (Some address) (source ∷ others) ≡ [] → (misplaced limit before (place address source) ≡ None)
    × (place_errors limit (before ++ labels_at (place address source)) (Some (end_of_line source address)) others ≡ [])
nothing_first limit before address source others h =
    let n = nothing_at source.number (misplaced limit before (place address source))
    (place_errors limit (with_labels before address source.line.labels) (next_address limit (Some address) source) others) h in
    (n.0, sym (next_so (λ l o. place_errors limit l o others) limit before address source n.0) ∙ n.1)

-- ---- lines with which nothing is wrong at their places

-- their labels are those that the assembler has
pub labels_so : (limit : ℕ) (before : List Label) (address : ℕ) (program : List Source)
    → place_errors limit before (Some address) program ≡ []
    → labels_after limit before (Some address) program ≡ before ++ labels_in (places address program)
labels_so limit before address [] h = sym (append-nil before)
labels_so limit before address (source ∷ others) h =
    let n = nothing_first limit before address source others h in
    next_so (λ l o. labels_after limit l o others) limit before address source n.0
    ∙ labels_so limit (before ++ labels_at (place address source)) (end_of_line source address) others n.1
    ∙ append_assoc before (labels_at (place address source)) (labels_in (places (end_of_line source address) others))

-- and what is wrong with their statements is what it finds
pub contents_so : (limit : ℕ) (before labels : List Label) (address : ℕ) (program : List Source)
    → place_errors limit before (Some address) program ≡ []
    → content_steps limit labels (Some address) program ≡ content_errors labels (places address program)
contents_so limit before labels address [] h = refl
contents_so limit before labels address (source ∷ others) h =
    let n = nothing_first limit before address source others h in
    let found = listed (error_if source.number (wrong_content labels address source.line.statement)) in
    ap (λ (o : Option ℕ). found ++ content_steps limit labels o others) (ap value_in (fits_so limit before address source n.0).1)
    ∙ ap (λ (l : List AsmError). found ++ l)
    (contents_so limit (before ++ labels_at (place address source)) labels (end_of_line source address) others n.1)
    ∙ ap (λ w. listed (error_if source.number w) ++ content_errors labels (places (end_of_line source address) others))
    (wrong_so labels address source.line.statement)

-- ---- all lines

-- the errors of a pass that has one
pub first_pass : (program : List Source) (found : List AsmError) → 0 < length found
    → found ≡ place_errors memory_limit [] (Some first_address) program → found ≡ program_errors program
first_pass program found some same =
    let next = content_errors (labels_in (placed program)) (placed program) in
    or_found found next some ∙ ap (λ (l : List AsmError). or_next l next) same
  where
    or_found : (found next : List AsmError) → 0 < length found → found ≡ or_next found next
    or_found [] next h = absurd (omega (arith, h))
    or_found (error ∷ errors) next h = refl

-- those of the contents, where no line is wrong at its place
pub next_pass : (program : List Source) (labels : List Label) (found : List AsmError) → found ≡ []
    → found ≡ place_errors memory_limit [] (Some first_address) program
    → labels ≡ labels_after memory_limit [] (Some first_address) program
    → content_steps memory_limit labels (Some first_address) program ≡ program_errors program
next_pass program labels found none errors same =
    let right : place_errors memory_limit [] (Some first_address) program ≡ [] = sym errors ∙ none in
    let all : labels ≡ labels_in (placed program) = same ∙ labels_so memory_limit [] first_address program right in
    contents_so memory_limit [] labels first_address program right
    ∙ ap (λ (l : List Label). content_errors l (placed program)) all
    ∙ ap (λ (l : List AsmError). or_next l (content_errors (labels_in (placed program)) (placed program))) (sym right)
