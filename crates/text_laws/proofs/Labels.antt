-- The names of labels are plain, and no longer than the text that they stand in.
use Rattle.text_laws.proofs.Common.{[], All, All-append, All-cons, All-nil, AllByRecursion, and_parts, arith, Bool, cond, Err, false, IfOk, is_utf8, IsPlain, IsPlainByte, length, length-take, List, list_all, ltb-false, map, nat_tests, None, Ok, onto_first, Option, position, refl, Result, slice_index, slice_split, Some, suc, take, true, ℕ, ◌+◌, ◌-◌, ◌==◌, ◌∷◌, ◌≡◌, ◌≤◌}
use Rattle.std.proofs.Common.{IfSome}
use Rattle.std.specs.Prelude.{nat_lt}
use Rattle.std.specs.Str.Lossy.{utf8_valid_len}
use Rattle.std.specs.Str.Lines.{lines, lines_of_parts, strip_carriage_return}
use Rattle.byte_strings.specs.Blanks.{is_blank, trimmed, without_leading_blanks}
use Rattle.image.specs.Lines.{Label}
use Rattle.image.specs.Memory.{first_address}
use Rattle.statements.specs.Reading.{content_by, label_before, labels_of, labels_with, line_of, read, rest_of, statement_in, without_comment}
use Rattle.byte_strings.specs.Fields.{fields, parted_at}
use Rattle.statements.specs.Spelling.{begins_name, is_name, is_name_byte}
use Rattle.statements.specs.declared.error.LineError.{LineError}
use Rattle.statements.specs.declared.line.Line.{Line}
use Rattle.statements.specs.declared.statement.Statement.{Statement}
use Rattle.assembler.specs.Assembled.{assembled, image_by}
use Rattle.assembler.specs.Errors.{at}
use Rattle.assembler.specs.Placed.{error_by}
use Rattle.assembler.specs.Places.{end_of_line, labels_at, labels_in, place, places}
use Rattle.assembler.specs.Program.{kept, line_at, line_then, read_by, read_lines, read_text, says_nothing, source, whole_error}
use Rattle.assembler.specs.declared.error.AsmError.{AsmError}
use Rattle.assembler.specs.declared.error.AsmErrorKind.TheVariants as k
use Rattle.text_laws.specs.Labels.{IsNameWithin, LabelsAreTexts, ProgramsAreShort}
use Rattle.text_laws.proofs.Plain.{passed_plain, plain_byte, plain_utf8}
use Rattle.text_laws.proofs.Tokens.{either}

-- ---- names

name_byte_plain : (b : ℕ) → is_name_byte b ≡ true → IsPlainByte b
name_byte_plain b h = plain_byte b (grind (arith, nat_tests, h))

-- a name begins with a byte that others may have, too
begins_as_name : (b : ℕ) → begins_name b ≡ true → is_name_byte b ≡ true
begins_as_name b h = grind (arith, nat_tests, h)

name_within : (most : ℕ) (name : List ℕ) → is_name name ≡ true → length name ≤ most → IsNameWithin most name
name_within most [] h le = absurd cc
name_within most (b ∷ bytes) h le =
    let both = and_parts (begins_name b) (list_all is_name_byte bytes) h in
    let plain : IsPlain (b ∷ bytes) = All-cons IsPlainByte b bytes (name_byte_plain b (begins_as_name b both.0))
    (passed_plain is_name_byte name_byte_plain bytes both.1) in
    (plain, (plain_utf8 (b ∷ bytes) plain, le))

-- ---- the parts of a text

-- each has at most this many bytes
abbrev AreWithin : ℕ → List (List ℕ) → Type 0
AreWithin most parts = AllByRecursion (λ part. length part ≤ most) parts

wider : (few most : ℕ) (parts : List (List ℕ)) → few ≤ most → AreWithin few parts → AreWithin most parts
wider few most [] le h = tt
wider few most (part ∷ parts) le h = (omega (arith, h.0), wider few most parts le h.1)

onto_within : (most x : ℕ) (parts : List (List ℕ)) → AreWithin most parts → AreWithin (suc most) (onto_first x parts)
onto_within most x [] h = (omega arith, tt)
onto_within most x (part ∷ parts) h = (omega (arith, h.0), wider most (suc most) parts (omega arith) h.1)

split_within : (p : ℕ → Bool) (text : List ℕ) → AreWithin (length text) (slice_split p text)
split_within p [] = (omega arith, tt)
split_within p (x ∷ xs) =
    let rest = split_within p xs in
    either (AreWithin (suc (length xs))) (p x) ([] ∷ slice_split p xs) (onto_first x (slice_split p xs))
    (omega arith, wider (length xs) (suc (length xs)) (slice_split p xs) (omega arith) rest)
    (onto_within (length xs) x (slice_split p xs) rest)

strip_within : (most : ℕ) (line : List ℕ) → length line ≤ most → length (strip_carriage_return line) ≤ most
strip_within most line le =
    either (λ (l : List ℕ). length l ≤ most) (slice_index line (length line - 1) == 13) (take (length line - 1) line) line
    (omega (arith, length-take (length line - 1) line)) le

lines_within : (most : ℕ) (parts : List (List ℕ)) → AreWithin most parts → AreWithin most (lines_of_parts parts)
lines_within most [] h = tt
lines_within most (part ∷ []) h = either (AreWithin most) (length part == 0) [] (part ∷ []) tt h
lines_within most (part ∷ next ∷ parts) h = (strip_within most part h.0, lines_within most (next ∷ parts) h.1)

leading_within : (text : List ℕ) → length (without_leading_blanks text) ≤ length text
leading_within [] = omega arith
leading_within (b ∷ text) =
    either (λ (l : List ℕ). length l ≤ suc (length text)) (is_blank b) (without_leading_blanks text) (b ∷ text) (omega (arith, leading_within text)) (omega arith)

comment_within : (line : List ℕ) → length (without_comment line) ≤ length line
comment_within line = by (position (λ b. b == 35) line) where
  by : (found : Option ℕ) → length (content_by line (parted_at line found)) ≤ length line
  by None = omega arith
  by (Some i) = omega (arith, length-take i line)

-- ---- labels

abbrev AreNames : ℕ → List (List ℕ) → Type 0
AreNames most names = AllByRecursion (IsNameWithin most) names

label_within : (most : ℕ) (field : List ℕ) → length field ≤ most → IfSome (label_before field) (IsNameWithin most)
label_within most field le = by (is_name (without_leading_blanks field)) refl where
  by : (b : Bool) → is_name (without_leading_blanks field) ≡ b
      → IfSome (cond b (Some (without_leading_blanks field)) None) (IsNameWithin most)
  by true h = name_within most (without_leading_blanks field) h (omega (arith, leading_within field))
  by false h = tt

with_names : (most : ℕ) (label : Option (List ℕ)) (others : List (List ℕ)) → IfSome label (IsNameWithin most) → AreNames most others
    → AreNames most (labels_with label others)
with_names most None others h hs = tt
with_names most (Some label) others h hs = (h, hs)

labels_within : (most : ℕ) (parts : List (List ℕ)) → AreWithin most parts → AreNames most (labels_of parts)
labels_within most [] h = tt
labels_within most (field ∷ []) h = tt
labels_within most (field ∷ next ∷ parts) h =
    with_names most (label_before field) (labels_of (next ∷ parts)) (label_within most field h.0) (labels_within most (next ∷ parts) h.1)

line_within : (most : ℕ) (labels : List (List ℕ)) (statement : Result (Option Statement) LineError) → AreNames most labels
    → IfOk (line_of labels statement) (λ line. AreNames most line.labels)
line_within most labels (Ok statement) h = h
line_within most labels (Err error) h = tt

read_within : (most : ℕ) (line : List ℕ) → length line ≤ most → IfOk (read line) (λ line. AreNames most line.labels)
unfolding read
read_within most line le =
    let content = without_comment line in
    line_within most (labels_of (fields 58 content)) (statement_in (trimmed (rest_of (fields 58 content))))
    (labels_within most (fields 58 content)
    (wider (length content) most (fields 58 content) (omega (arith, comment_within line)) (split_within (λ b. b == 58) content)))

-- ---- programs

abbrev TypeOf : {A : Type 0} → A → Type 0
TypeOf {A = A} a = A

-- a line with its number
abbrev Source : Type 0
Source = TypeOf (source 0 (record { labels = []; statement = None }))

abbrev HaveNames : ℕ → List Source → Type 0
HaveNames most program = AllByRecursion (λ source. AreNames most source.line.labels) program

kept_within : (most number : ℕ) (line : Line) (others : List Source) → AreNames most line.labels → HaveNames most others
    → HaveNames most (kept number line others)
kept_within most number line others h hs =
    either (HaveNames most) (says_nothing line) others (source number line ∷ others) hs (h, hs)

then_within : (most number : ℕ) (line : Result Line LineError) (others : Result (List Source) AsmError)
    → IfOk line (λ l. AreNames most l.labels) → IfOk others (HaveNames most) → IfOk (line_then number line others) (HaveNames most)
then_within most number (Ok line) (Ok others) h hs = kept_within most number line others h hs
then_within most number (Ok line) (Err error) h hs = tt
then_within most number (Err error) others h hs = tt

program_within : (most number : ℕ) (list : List (List ℕ)) → AreWithin most list → IfOk (read_lines number list) (HaveNames most)
program_within most number [] h = tt
program_within most number (line ∷ others) h =
    then_within most number (read line) (read_lines (number + 1) others) (read_within most line h.0)
    (program_within most (number + 1) others h.1)

text_within : (text : List ℕ) → IfOk (read_text text) (HaveNames (length text))
unfolding read_text
text_within text = by (whole_error text) where
  by : (error : Option AsmError) → IfOk (read_by error text) (HaveNames (length text))
  by (Some error) = tt
  by None =
      program_within (length text) 1 (lines text)
      (lines_within (length text) (slice_split (λ b. b == 10) text) (split_within (λ b. b == 10) text))

-- ---- the image

abbrev IsNamed : ℕ → Label → Type 0
IsNamed most label = IsNameWithin most label.0

names_placed : (most address : ℕ) (names : List (List ℕ)) → AreNames most names → All (IsNamed most) (map (λ name. (name, address)) names)
names_placed most address [] h = All-nil (IsNamed most)
names_placed most address (name ∷ names) h =
    All-cons (IsNamed most) (name, address) (map (λ n. (n, address)) names) h.0 (names_placed most address names h.1)

labels_placed : (most address : ℕ) (program : List Source) → HaveNames most program
    → All (IsNamed most) (labels_in (places address program))
labels_placed most address [] h = All-nil (IsNamed most)
labels_placed most address (source ∷ others) h =
    All-append (IsNamed most) (labels_at (place address source)) (labels_in (places (end_of_line source address) others))
    (names_placed most address source.line.labels h.0) (labels_placed most (end_of_line source address) others h.1)

image_within : (most : ℕ) (program : Result (List Source) AsmError) → IfOk program (HaveNames most)
    → All (IsNamed most) (image_by program).lines.labels
image_within most (Ok program) h = labels_placed most first_address program h
image_within most (Err error) h = All-nil (IsNamed most)

pub labels_are_texts : LabelsAreTexts
unfolding assembled
labels_are_texts text = image_within (length text) (read_text text) (text_within text)

-- ---- the size of a text

pub programs_are_short : ProgramsAreShort
unfolding read_text whole_error
programs_are_short text size h = by (nat_lt 1048576 (length text)) refl h where
  by : (b : Bool) → nat_lt 1048576 (length text) ≡ b
      → error_by size (read_by (cond b (Some (at 0 k.TooLarge))
      (cond (is_utf8 text) None (Some (at (line_at text (utf8_valid_len text)) k.NotUtf8)))) text) ≡ None
      → length text ≤ 1048576
  by true long wrong = absurd cc
  by false short right = ltb-false 1048576 (length text) short
