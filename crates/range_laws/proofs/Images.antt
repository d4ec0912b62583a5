-- The image of a text is in range.
use Rattle.range_laws.proofs.Common.{[], All, All-append, All-cons, All-head, All-nil, All-replicate, All-tail, All-take, AreBytes, arith, Bool, cond, Err, false, IfOk, IfSome, ImageInRange, Instr, IsByte, IsWord, List, lit<, map, None, Ok, Option, refl, replicate, Result, Some, true, word_bytes, ℕ, ◌++◌, ◌<◌, ◌^◌, ◌∷◌, ◌≡◌}
use Rattle.std.specs.Str.{bytes_eq}
use Rattle.image.specs.Lines.{Label, Row, place_of}
use Rattle.rv32i.specs.Words.{word_of}
use Rattle.rv32i.specs.declared.instr.Instr.TheVariants as i
use Rattle.statements.specs.Operations.{lower_part, upper_part}
use Rattle.statements.specs.Spelling.{named}
use Rattle.statements.specs.declared.items.Item.{Item}
use Rattle.statements.specs.declared.items.Width.{Width}
use Rattle.statements.specs.declared.statement.Statement.{Statement}
use Rattle.statements.specs.declared.statement.Statement.TheVariants as say
use Rattle.assembler.specs.Assembled.{IsNarrowRow, assembled, code_bytes, image_by, image_of, part_of, parts_of}
use Rattle.assembler.specs.Contents.{Coded, Contained, and_then, call, coded_branch, coded_jump, content_at, content_error, content_of, distance_of, item_bytes, items_bytes, load_address, lower, one, plain, store_lower, upper, value_of, with_more}
use Rattle.assembler.specs.Errors.{first_of}
use Rattle.assembler.specs.Placed.{error_by, memory_end, placed}
use Rattle.assembler.specs.Places.{Place, bytes_in, first_start, labels_at, labels_in, misplaced, or_first, padding, place, place_error, rows_in, start}
use Rattle.assembler.specs.Program.{read_text}
use Rattle.assembler.specs.declared.error.AsmError.{AsmError}
use Rattle.assembler.specs.declared.error.AsmErrorKind.{AsmErrorKind}
use Rattle.assembler.proofs.Loadable.{ends}
use Rattle.assembler.proofs.Narrow.{assembled_is_narrow}
use Rattle.assembler.proofs.Rising.{parted}
use Rattle.range_laws.specs.Images.{AssembledIsInRange}
use Rattle.range_laws.proofs.Words.{word_in_range}

-- ---- bytes

code_in_range : (list : List Instr) → AreBytes (code_bytes list)
code_in_range [] = All-nil IsByte
code_in_range (instruction ∷ others) =
    All-append IsByte (word_bytes (word_of instruction)) (code_bytes others) (word_in_range (word_of instruction)) (code_in_range others)

zeros_in_range : (count : ℕ) → AreBytes (replicate count 0)
zeros_in_range count = All-replicate IsByte count 0 (lit< tt)

then_in_range : (value : Result ℕ AsmErrorKind) (next : ℕ → Result (List ℕ) AsmErrorKind) → ((n : ℕ) → IfOk (next n) AreBytes)
    → IfOk (and_then value next) AreBytes
then_in_range (Ok n) next h = h n
then_in_range (Err kind) next h = tt

more_in_range : (bytes : List ℕ) (more : Result (List ℕ) AsmErrorKind) → AreBytes bytes → IfOk more AreBytes
    → IfOk (with_more bytes more) AreBytes
more_in_range bytes (Ok more) h k = All-append IsByte bytes more h k
more_in_range bytes (Err kind) h k = tt

items_in_range : (labels : List Label) (width : Width) (items : List Item) → IfOk (items_bytes labels width items) AreBytes
items_in_range labels width [] = All-nil IsByte
items_in_range labels width (item ∷ items) =
    then_in_range (value_of labels item) (λ n. with_more (item_bytes width n) (items_bytes labels width items))
    (λ n. more_in_range (item_bytes width n) (items_bytes labels width items)
    (All-take IsByte (bytes_in width) (word_bytes n) (word_in_range n)) (items_in_range labels width items))

abbrev PartInRange : Contained → Type 0
PartInRange c = AreBytes (part_of c)

one_in_range : (coded : Coded) → PartInRange (one coded)
one_in_range (Ok instruction) = code_in_range (instruction ∷ [])
one_in_range (Err kind) = All-nil IsByte

load_in_range : (rd : ℕ) (far : Result ℕ AsmErrorKind) → PartInRange (load_address rd far)
load_in_range rd (Ok far) = code_in_range (i.Auipc rd (upper_part far) ∷ i.Addi rd rd (lower_part far) ∷ [])
load_in_range rd (Err kind) = All-nil IsByte

call_in_range : (far : Result ℕ AsmErrorKind) → PartInRange (call far)
call_in_range (Ok far) = code_in_range (i.Auipc 1 (upper_part far) ∷ i.Jalr 1 1 (lower_part far) ∷ [])
call_in_range (Err kind) = All-nil IsByte

plain_in_range : (bytes : Result (List ℕ) AsmErrorKind) → IfOk bytes AreBytes → PartInRange (plain bytes)
plain_in_range (Ok bytes) h = h
plain_in_range (Err kind) h = All-nil IsByte

part_in_range : (labels : List Label) (address : ℕ) (statement : Statement) → PartInRange (content_of labels address statement)
part_in_range labels address (say.One instruction) = code_in_range (instruction ∷ [])
part_in_range labels address (say.Two first second) = code_in_range (first ∷ second ∷ [])
part_in_range labels address (say.Jump rd target) = one_in_range (coded_jump labels address rd target)
part_in_range labels address (say.Branch condition rs1 rs2 target) = one_in_range (coded_branch labels address condition rs1 rs2 target)
part_in_range labels address (say.Upper rd label) = one_in_range (upper labels rd label)
part_in_range labels address (say.Lower operation rd rs1 label) = one_in_range (lower labels operation rd rs1 label)
part_in_range labels address (say.StoreLower operation rs1 rs2 label) = one_in_range (store_lower labels operation rs1 rs2 label)
part_in_range labels address (say.LoadAddress rd label) = load_in_range rd (distance_of labels address label)
part_in_range labels address (say.Call label) = call_in_range (distance_of labels address label)
part_in_range labels address (say.Data width items) = plain_in_range (items_bytes labels width items) (items_in_range labels width items)
part_in_range labels address (say.Space count) = zeros_in_range count
part_in_range labels address (say.Align power) = zeros_in_range (padding (2 ^ power) address)
part_in_range labels address say.Nothing = All-nil IsByte

part_at_in_range : (labels : List Label) (address : ℕ) (statement : Option Statement) → PartInRange (content_at labels address statement)
part_at_in_range labels address None = All-nil IsByte
part_at_in_range labels address (Some statement) = part_in_range labels address statement

parts_in_range : (labels : List Label) (list : List Place) → AreBytes (parts_of labels list)
parts_in_range labels [] = All-nil IsByte
parts_in_range labels (place ∷ others) =
    All-append IsByte (part_of (content_at labels place.address place.source.line.statement)) (parts_of labels others)
    (part_at_in_range labels place.address place.source.line.statement) (parts_in_range labels others)

-- ---- the entry

abbrev IsPlaced : Label → Type 0
IsPlaced label = IsWord (place_of label)

names_placed : (address : ℕ) (names : List (List ℕ)) → IsWord address → All IsPlaced (map (λ name. (name, address)) names)
names_placed address [] w = All-nil IsPlaced
names_placed address (name ∷ names) w = All-cons IsPlaced (name, address) (map (λ n. (n, address)) names) w (names_placed address names w)

labels_placed : (limit : ℕ) (before : List Label) (list : List Place) → limit < 2 ^ 32 → place_error limit before list ≡ None
    → All IsPlaced (labels_in list)
labels_placed limit before [] few h = All-nil IsPlaced
labels_placed limit before (place ∷ others) few h =
    let right = parted place.source.number (misplaced limit before place) (place_error limit (before ++ labels_at place) others) h in
    let last = ends limit before place right.0 in
    All-append IsPlaced (labels_at place) (labels_in others)
    (names_placed place.address place.source.line.labels (omega (arith, last, few)))
    (labels_placed limit (before ++ labels_at place) others few right.1)

named_placed : (labels : List Label) (text : List ℕ) → All IsPlaced labels → IfSome (named labels text) IsWord
named_placed [] text h = tt
named_placed ((name, address) ∷ labels) text h =
    by (bytes_eq text name) (named_placed labels text (All-tail IsPlaced (name, address) labels h)) where
      by : (b : Bool) → IfSome (named labels text) IsWord → IfSome (cond b (Some address) (named labels text)) IsWord
      by true rest = All-head IsPlaced (name, address) labels h
      by false rest = rest

first_placed : (rows : List Row) → All IsNarrowRow rows → IfSome (first_start rows) IsWord
first_placed [] h = tt
first_placed (row ∷ rows) h = (All-head IsNarrowRow row rows h).1

entry_word : (label code : Option ℕ) → IfSome label IsWord → IfSome code IsWord → IsWord (or_first (first_of label code))
entry_word (Some address) code h k = h
entry_word None (Some address) h k = k
entry_word None None h k = lit< tt

-- ---- the image

no_error : (first later : Option AsmError) → first_of first later ≡ None → first ≡ None
no_error None later h = refl
no_error (Some e) later h = cc

placed_in_range : (limit : ℕ) (list : List Place) → limit < 2 ^ 32 → place_error limit [] list ≡ None → All IsNarrowRow (rows_in list)
    → ImageInRange (image_of list)
placed_in_range limit list few fine rows =
    let labels = labels_placed limit [] list few fine in
    record {
      entry =
          entry_word (named (labels_in list) start) (first_start (rows_in list)) (named_placed (labels_in list) start labels)
          (first_placed (rows_in list) rows);
      bytes = parts_in_range (labels_in list) list;
    }

pub assembled_is_in_range : AssembledIsInRange
unfolding assembled
assembled_is_in_range text size h =
    (elim (read_text text) as
    (λ result. All IsNarrowRow (image_by result).lines.rows → error_by size result ≡ None → ImageInRange (image_by result)) [
      | Ok program ↦ λ rows none.
          let limit : memory_end size < 2 ^ 32 = omega arith in
          let fine = no_error (place_error (memory_end size) [] (placed program))
          (content_error (labels_in (placed program)) (placed program)) none in
          placed_in_range (memory_end size) (placed program) limit fine rows
      | Err error ↦ λ rows none. absurd (let no : Some error ≡ None = none in cc)
    ]) (assembled_is_narrow text size h) h
