-- What a line is made of, by rules.
--
-- A line, without its comment, is labels, and after them a statement or blanks. A label is a name after blanks, and its
-- colon follows it. A statement is a mnemonic or the name of a directive ("mnemonic" below means either: what it may be
-- is said in Mnemonics, here it is any name), and after one blank or more its operands, divided by commas, none of them
-- blank; it may have no operands. Blanks may stand before and after it.
use Rattle.std.specs.Prelude.{◌≡◌, ℕ, ◌<◌, true, List, [], ◌∷◌, ◌++◌, length, Option, Some, None, Result, Ok}
use Rattle.std.specs.List.{list_all}
use Rattle.statements.specs.Spelling.{is_name}
use Rattle.byte_strings.specs.Blanks.{is_blank, trimmed}
use Rattle.statements.specs.Operands.{are_operands}
use Rattle.statements.specs.Reading.{line_of, said_by, stating}
use Rattle.statements.specs.Mnemonics.{mnemonic_of}
use Rattle.statements.specs.declared.error.LineError.{LineError}
use Rattle.statements.specs.declared.line.Line.{Line}
use Rattle.statements.specs.declared.statement.Statement.{Statement}

-- a mnemonic, and the text of its operands without the blanks round it
abbrev pub Spoken : Type 0
Spoken = List ℕ × List ℕ

-- what a line is divided into
pub record Division : Type 0 where
  pub labels : List (List ℕ)
  pub spoken : Option Spoken

-- only blanks
abbrev pub AllBlank : List ℕ → Type 0
AllBlank text = list_all is_blank text ≡ true

-- a text begins with a label, and this is what comes after its colon
pub record BeginsWith (label text after : List ℕ) : Type 0 where
  pub before : List ℕ
  pub blank : AllBlank before
  pub name : is_name label ≡ true
  pub spelled : text ≡ before ++ label ++ 58 ∷ after

-- a text begins with these labels, and this is what comes after the last colon
abbrev pub Labelled : List (List ℕ) → List ℕ → List ℕ → Type 0
Labelled [] text rest = text ≡ rest
Labelled (label ∷ labels) text rest = (after : List ℕ) × (BeginsWith label text after × Labelled labels after rest)

-- a text is a statement
pub record IsStatement (mnemonic operands text : List ℕ) : Type 0 where
  pub before : List ℕ
  pub gap : List ℕ
  pub after : List ℕ
  pub blank_before : AllBlank before
  pub blank_gap : AllBlank gap
  pub blank_after : AllBlank after
  pub name : is_name mnemonic ≡ true
  pub apart : 0 < length operands → 0 < length gap
  pub bare : trimmed operands ≡ operands
  pub each : are_operands operands ≡ true
  pub spelled : text ≡ before ++ mnemonic ++ gap ++ operands ++ after

-- a text is a statement, or only blanks
abbrev pub IsSpoken : Option Spoken → List ℕ → Type 0
IsSpoken None text = AllBlank text
IsSpoken (Some (mnemonic, operands)) text = IsStatement mnemonic operands text

-- a text is divided in this way
pub record IsLine (text : List ℕ) (d : Division) : Type 0 where
  pub rest : List ℕ
  pub labelled : Labelled d.labels text rest
  pub spoken : IsSpoken d.spoken rest

-- what a line says that is divided in this way
abbrev pub says : Option Spoken → Result (Option Statement) LineError
says None = Ok None
says (Some (mnemonic, operands)) = stating (said_by (mnemonic_of mnemonic) operands)

-- the line that is divided in this way, or its error
abbrev pub means : Division → Result Line LineError
means d = line_of d.labels (says d.spoken)
