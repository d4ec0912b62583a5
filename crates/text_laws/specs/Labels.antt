-- The labels of a text in assembly language.
--
-- A label is a name: a letter, `_` or `.`, and then letters, digits, `_`, `.` and `$`. So it is ASCII, a JSON text has
-- it as it is, and it has at most as many bytes as the text that it stands in.
use Rattle.std.specs.Prelude.{◌≡◌, ℕ, ◌≤◌, All, List, None, length}
use Rattle.assembler.specs.Assembled.{assembled}
use Rattle.assembler.specs.Placed.{error_of}
use Rattle.text_laws.specs.Texts.{IsPlain, IsTextWithin}

-- a name of at most this many bytes
abbrev pub IsNameWithin : ℕ → List ℕ → Type 0
IsNameWithin most name = IsPlain name × IsTextWithin most name

-- The names of the labels in the image of a text are so, in a text of that length.
abbrev pub LabelsAreTexts : Type 0
LabelsAreTexts = (text : List ℕ) → All (λ label. IsNameWithin (length text) label.0) (assembled text).lines.labels

-- A text with which nothing is wrong has at most 1,048,576 bytes.
abbrev pub ProgramsAreShort : Type 0
ProgramsAreShort = (text : List ℕ) (size : ℕ) → error_of text size ≡ None → length text ≤ 1048576
