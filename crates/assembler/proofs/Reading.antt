-- Lines that are read one by one.
use Rattle.assembler.proofs.Common.{[], after, ap, append-nil, append_assoc, arith, AsmError, at, Bool, Err, error_in, false, false_from_ne_true, IfSome, is_utf8, IsUtf8, kept, length, Line, line_at, line_then, LineError, lines, List, nat_lt, nat_tests, Ok, read, read_by, read_lines, refl, Result, says_nothing, Some, Source, sym, text_limit, true, ℕ, ◌++◌, ◌+◌, ◌<◌, ◌==◌, ◌∙◌, ◌∷◌, ◌≡◌, ◌≤◌}
use Rattle.byte_strings.proofs.Divided.{fields_none, fields_some, shape}
use Rattle.byte_strings.specs.Fields.{parted}
use Rattle.std.specs.Str.Lines.{strip_carriage_return}
use Rattle.std.specs.Prelude.{Option, None}
use Rattle.std.specs.Str.Lossy.{utf8_valid_len}
use Rattle.std.proofs.lemmas.Str.{IsUtf8-from_is_utf8, is_utf8-from_IsUtf8}
use Rattle.assembler.specs.Program.{read_text, whole_error}
use Rattle.assembler.specs.declared.error.AsmErrorKind.TheVariants as k
use Rattle.assembler.specs.Private.Steps.{said}

kept_before : (number : ℕ) (line : Line) (others : List Source) → kept number line others ≡ kept number line [] ++ others
kept_before number line others =
    let P : Bool → Type 0 = λ t. says_nothing line ≡ t → kept number line others ≡ kept number line [] ++ others in
    let go : P (says_nothing line) = elim (says_nothing line) as P [
      | true ↦ λ t. rw t refl
      | false ↦ λ t. rw t refl
    ] in go refl

-- lines, one more, and the rest
one_more : (number : ℕ) (line : Result Line LineError) (before now : List Source) (rest : Result (List Source) AsmError)
    → after before (said number line) ≡ Ok now → after before (line_then number line rest) ≡ after now rest
one_more number (Err error) before now rest h = cc
one_more number (Ok line) before now (Err error) h = refl
one_more number (Ok line) before now (Ok others) h =
    let same : before ++ kept number line [] ≡ now = cc in
    ap (λ (l : List Source). Ok (before ++ l)) (kept_before number line others)
    ∙ ap Ok (sym (append_assoc before (kept number line []) others)) ∙ ap (λ (l : List Source). Ok (l ++ others)) same

pub line_more : (all : Result (List Source) AsmError) (texts others : List (List ℕ)) (number : ℕ) (text : List ℕ) (before now : List Source)
    → all ≡ after before (read_lines number texts) → texts ≡ text ∷ others → after before (said number (read text)) ≡ Ok now
    → all ≡ after now (read_lines (number + 1) others)
line_more all texts others number text before now h here made =
    h ∙ ap (λ t. after before (read_lines number t)) here ∙ one_more number (read text) before now (read_lines (number + 1) others) made

pub lines_all : (all : Result (List Source) AsmError) (texts : List (List ℕ)) (number : ℕ) (before : List Source)
    → all ≡ after before (read_lines number texts) → texts ≡ [] → all ≡ Ok before
lines_all all texts number before h none = h ∙ ap (λ t. after before (read_lines number t)) none ∙ ap Ok (append-nil before)

-- ---- the lines of a text

pub first_of_lines : (text line after : List ℕ) → parted 10 text ≡ Some (line, after) → lines text ≡ strip_carriage_return line ∷ lines after
first_of_lines text line after h =
    let rest = shape 10 after in rw (fields_some 10 text line after h, rest.2) refl

pub no_line : (text : List ℕ) → true ≡ (length text == 0) → lines text ≡ []
no_line [] none = refl
no_line (byte ∷ text) none = absurd (grind (arith, nat_tests))

pub only_line : (text : List ℕ) → 0 < length text → parted 10 text ≡ None → lines text ≡ text ∷ lines []
only_line text some h = let test : (length text == 0) ≡ false = grind (arith, nat_tests) in rw (fields_none 10 text h, test) refl

-- ---- the text as a whole

pub too_long : (text : List ℕ) → 1048576 < length text → whole_error text ≡ Some (at 0 k.TooLarge)
unfolding whole_error
too_long text h = let t : nat_lt text_limit (length text) ≡ true = grind (arith, nat_tests) in rw t refl

nothing_whole : (text : List ℕ) → length text ≤ 1048576 → IsUtf8 text → whole_error text ≡ None
unfolding whole_error
nothing_whole text h u =
    let t : nat_lt text_limit (length text) ≡ false = grind (arith, nat_tests) in
    let valid : is_utf8 text ≡ true = is_utf8-from_IsUtf8 text u in
    rw t (rw valid refl)

pub a_text : (text : List ℕ) → length text ≤ 1048576 → IsUtf8 text → read_text text ≡ read_lines 1 (lines text)
unfolding read_text
a_text text h u = ap (λ wrong. read_by wrong text) (nothing_whole text h u)

pub no_text : (text : List ℕ) (line : ℕ) → length text ≤ 1048576 → (IsUtf8 text → ⊥) → line ≡ line_at text (utf8_valid_len text)
    → whole_error text ≡ Some (at line k.NotUtf8)
unfolding whole_error
no_text text line h u same =
    let t : nat_lt text_limit (length text) ≡ false = grind (arith, nat_tests) in
    let valid : is_utf8 text ≡ false = false_from_ne_true (is_utf8 text) (λ e. u (IsUtf8-from_is_utf8 text e)) in
    rw t (rw valid (rw same refl))

-- what is wrong with a text as a whole is its error
pub whole_first : (text : List ℕ) (error : AsmError) → whole_error text ≡ Some error → error_in (read_text text) ≡ Some error
unfolding read_text
whole_first text error h = ap (λ wrong. error_in (read_by wrong text)) h

-- it is what is reported
pub whole_reported : {A : Type 0} (found : Option AsmError) (error : AsmError) (result : Result A AsmError) → found ≡ Some error
    → result ≡ Err error → IfSome found (λ whole. result ≡ Err whole)
whole_reported found error result h e = rw h e

-- nothing is wrong as a whole with a text that is read line by line
pub whole_none : {A : Type 0} (text : List ℕ) (result : Result A AsmError) → length text ≤ 1048576 → IsUtf8 text
    → IfSome (whole_error text) (λ whole. result ≡ Err whole)
whole_none text result h u = rw (nothing_whole text h u) tt
