-- The lines of a header part, one after another.
use Rattle.framing.proofs.Common.{[], ap, append-nil, arith, drop, Err, Field, fields_in, FrameError, get_or, Header, length, length-drop, length_among, length_by, length_fields, length_within, lines_of, List, nat_tests, None, one_more, onto_first, Option, refl, Result, Some, suc, take, take-append-drop, take_more, with_length, ℕ, ◌++◌, ◌+◌, ◌-◌, ◌<◌, ◌∷◌, ◌≡◌, ◌≤◌}
use Rattle.framing.specs.declared.header.Lengths.{Lengths}
use Rattle.framing.specs.declared.header.Lengths.TheVariants.{No, More}
use Rattle.framing.proofs.Ends.{next_byte}

-- bytes put before the first line
abbrev pub onto_line : List ℕ → List (List ℕ) → List (List ℕ)
onto_line [] lines = lines
onto_line (c ∷ bytes) lines = onto_first c (onto_line bytes lines)

-- what is known of the length after more fields
abbrev pub with_fields : Lengths → List Field → Lengths
with_fields lengths [] = lengths
with_fields lengths (f ∷ fields) = with_fields (with_length lengths f) fields

-- the length that these lines give, after what is known already
abbrev pub length_with : ℕ → Lengths → Option (List Field) → Result ℕ FrameError
length_with limit lengths None = Err Header
length_with limit lengths (Some fields) = length_within limit (with_fields lengths fields)

abbrev pub length_of : ℕ → Lengths → List (List ℕ) → Result ℕ FrameError
length_of limit lengths lines = length_with limit lengths (fields_in lines)

-- how many bytes are left
abbrev pub size_left : Option (List ℕ) → ℕ
size_left None = 0
size_left (Some text) = suc (length text)

onto_next : (prefix : List ℕ) (c : ℕ) (lines : List (List ℕ)) → onto_line prefix (onto_first c lines) ≡ onto_line (prefix ++ c ∷ []) lines
onto_next [] c lines = refl
onto_next (b ∷ prefix) c lines = ap (onto_first b) (onto_next prefix c lines)

onto_some : (prefix line : List ℕ) (lines : List (List ℕ)) → onto_line prefix (line ∷ lines) ≡ (prefix ++ line) ∷ lines
onto_some [] line lines = refl
onto_some (b ∷ prefix) line lines = ap (onto_first b) (onto_some prefix line lines)

-- a byte that is not at the end of a line
no_end : (c d : ℕ) (text : List ℕ) → (c ≡ 13 → d ≡ 10 → ⊥) → lines_of (c ∷ d ∷ text) ≡ onto_first c (lines_of (d ∷ text))
no_end c d text none = grind (arith, nat_tests)

-- the search for the end of a line, one index on
pub line_more : (text : List ℕ) (i : ℕ) → 1 ≤ i → i < length text → (get_or text (i - 1) 0 ≡ 13 → get_or text i 0 ≡ 10 → ⊥)
    → lines_of text ≡ onto_line (take (i - 1) text) (lines_of (drop (i - 1) text))
    → lines_of text ≡ onto_line (take i text) (lines_of (drop i text))
line_more text i from room none h =
    grind (
      arith,
      no_end (get_or text (i - 1) 0) (get_or text i 0) (drop (i + 1) text) none,
      take_more text (i - 1) 0,
      onto_next (take (i - 1) text) (get_or text (i - 1) 0),
      next_byte text (i - 1) i,
      next_byte text i (i + 1),
    )

-- the end of a line is at i
pub line_here : (text : List ℕ) (i : ℕ) → 1 ≤ i → i < length text → get_or text (i - 1) 0 ≡ 13 → get_or text i 0 ≡ 10
    → lines_of text ≡ onto_line (take (i - 1) text) (lines_of (drop (i - 1) text))
    → lines_of text ≡ take (i - 1) text ∷ lines_of (drop (i + 1) text)
line_here text i from room cr lf h =
    grind (
      arith,
      next_byte text (i - 1) i,
      next_byte text i (i + 1),
      onto_some (take (i - 1) text) [] (lines_of (drop (i + 1) text)),
      append-nil (take (i - 1) text),
    )

-- the text has no end of a line
short_line : (rest : List ℕ) → length rest ≤ 1 → lines_of rest ≡ rest ∷ []
short_line rest h = grind arith

pub line_all : (text : List ℕ) (i : ℕ) → length text ≤ i → lines_of text ≡ onto_line (take (i - 1) text) (lines_of (drop (i - 1) text))
    → lines_of text ≡ text ∷ []
line_all text i all h =
    grind (
      arith,
      short_line (drop (i - 1) text),
      length-drop,
      onto_some (take (i - 1) text) (drop (i - 1) text) [],
      take-append-drop (i - 1) text,
    )

-- nothing is known before the first line
with_more : (fields : List Field) → with_fields More fields ≡ More
with_more [] = refl
with_more (f ∷ fields) = grind (arith, with_more fields)

length_next : (limit : ℕ) (first : Field) (fields : List Field)
    → length_within limit (with_fields (one_more No first) fields) ≡ length_among limit (first ∷ length_fields fields)
length_next limit first [] = refl
length_next limit first (f ∷ fields) = grind (arith, with_more fields, length_next limit first fields)

length_start : (limit : ℕ) (fields : List Field)
    → length_within limit (with_fields No fields) ≡ length_among limit (length_fields fields)
length_start limit [] = refl
length_start limit (f ∷ fields) = grind (arith, length_next limit f fields, length_start limit fields)

pub length_first : (limit : ℕ) (fields : Option (List Field)) → length_with limit No fields ≡ length_by limit fields
length_first limit None = refl
length_first limit (Some fields) = length_start limit fields
