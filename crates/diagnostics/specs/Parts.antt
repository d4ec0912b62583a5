-- The parts of a line that an error can be about, as Grammar and Reading of the crate statements divide it: each reaches
-- from where it begins up to the comment, so that what stands before it is the rest of the line's content.
use Rattle.std.specs.Prelude.{◌≡◌, ℕ, ◌+◌, ◌-◌, ◌^◌, ◌<◌, ◌≤◌, min, List, [], length, take, drop, position, Option, Some, None, codes, refl}
use Rattle.byte_strings.specs.Blanks.{is_blank, without_leading_blanks}
use Rattle.statements.specs.Reading.{rest_of, without_comment}
use Rattle.byte_strings.specs.Fields.{fields}

-- what comes after the labels of a text
abbrev pub after_labels : List ℕ → List ℕ
after_labels text = rest_of (fields 58 text)

-- the statement of a line
abbrev pub statement_of : List ℕ → List ℕ
statement_of line = without_leading_blanks (after_labels (without_comment line))

-- a text up to this index, or the whole
abbrev pub up_to : List ℕ → Option ℕ → List ℕ
up_to text None = text
up_to text (Some i) = take i text

-- a text from this index on, without the blanks before it
abbrev pub from : List ℕ → Option ℕ → List ℕ
from text None = []
from text (Some i) = without_leading_blanks (drop i text)

-- the mnemonic of a statement: what stands before its first blank
abbrev pub mnemonic_of : List ℕ → List ℕ
mnemonic_of statement = up_to statement (position is_blank statement)

-- the operands of a statement
abbrev pub operands_of : List ℕ → List ℕ
operands_of statement = from statement (position is_blank statement)

-- the column, counted in bytes from 1, at which a part of a line begins; beyond 32 bits it is the greatest number
abbrev pub column_of : List ℕ → List ℕ → ℕ
column_of line part = min (length (without_comment line) - length part + 1) (2 ^ 32 - 1)

-- a column of a line's content, or the one after it
abbrev pub IsWithin : List ℕ → ℕ → Type 0
IsWithin line column = (0 < column) × (column ≤ length (without_comment line) + 1)

statement_after_a_label : statement_of (codes "f: li a0, 5 # five") ≡ codes "li a0, 5 "
statement_after_a_label = refl

column_of_a_statement : column_of (codes "f: li a0, 5 # five") (codes "li a0, 5 ") ≡ 4
column_of_a_statement = refl
