-- What is told of a text that does not assemble, in the form in which compilers tell errors (GNU Coding Standards,
-- "Formatting Error Messages"), of each of its errors:
--
--   FILE:LINE:COLUMN: error: KIND: WORDS
--   the line itself
--
-- A column counts bytes from 1. A text that is too long has no line to blame, so both numbers are left out; and so is the
-- line itself where the text is no UTF-8 or is too long. Which words are told is free: they are for people.
use Rattle.std.specs.Prelude.{⊤, ◌≡◌, ℕ, zero, suc, List, [], ◌∷◌, ◌++◌, Option, Some, None, codes, map}
use Rattle.std.specs.Fmt.{decimal}
use Rattle.std.specs.List.{All, flat_map}
use Rattle.assembler.specs.Errors.{kind_name}
use Rattle.assembler.specs.declared.error.AsmError.{AsmError}
use Rattle.assembler.specs.declared.error.AsmErrorKind.{AsmErrorKind}
use Rattle.assembler.specs.declared.error.AsmErrorKind.TheVariants as k
use Rattle.diagnostics.specs.Errors.{errors_in, Located}
use Rattle.diagnostics.specs.Parts.{IsWithin}

-- what it says, where nothing more is known
abbrev pub explanation : AsmErrorKind → List ℕ
explanation k.NotUtf8 = codes "a byte that is not UTF-8"
explanation k.Syntax = codes "not labels and then one statement"
explanation k.UnknownInstruction = codes "no such mnemonic or directive"
explanation k.BadOperand = codes "too few operands, too many, or of another form"
explanation k.OutOfRange = codes "a number does not fit its place, an instruction is not at a multiple of 4, or a target is too far"
explanation k.TwiceDefined = codes "an earlier label has this name"
explanation k.Undefined = codes "no line defines this label"
explanation k.TooLarge = codes "memory ends before this line"
explanation k.NoMemory = codes "no memory"

-- what is told of an error
pub record Finding : Type 0 where
  pub error : AsmError
  pub line : Option (List ℕ)
  pub column : ℕ
  pub words : List ℕ

-- the error that a finding is of
abbrev pub located : Finding → Located
located finding = (finding.error, finding.line)

-- a column is one of the line, if there is a line
abbrev pub column_is_in : Option (List ℕ) → ℕ → Type 0
column_is_in None column = ⊤
column_is_in (Some line) column = IsWithin line column

-- the column of a finding is one of its line
abbrev pub HasColumn : Finding → Type 0
HasColumn finding = column_is_in finding.line finding.column

-- findings of the errors of a text, each of one, in their order
pub record AreFindings (text : List ℕ) (findings : List Finding) : Type 0 where
  pub errors : map located findings ≡ errors_in text
  pub columns : All HasColumn findings

-- a number of a line or a column after a colon, where it has one
abbrev pub number_of : ℕ → List ℕ
number_of zero = []
number_of (suc n) = codes ":" ++ decimal (suc n)

-- a line, with a line feed, if there is one
abbrev pub shown : Option (List ℕ) → List ℕ
shown None = []
shown (Some line) = line ++ codes "\n"

-- where it is: the file, the line and the column
abbrev pub place : List ℕ → Finding → List ℕ
place file finding = file ++ number_of finding.error.line ++ number_of finding.column

-- what is wrong: the kind of error, and words
abbrev pub said : Finding → List ℕ
said finding = codes ": error: " ++ kind_name finding.error.kind ++ codes ": " ++ finding.words ++ codes "\n"

-- what is told of an error
abbrev pub told : List ℕ → Finding → List ℕ
told file finding = place file finding ++ said finding ++ shown finding.line

-- what is told of a text, if anything is wrong with it
abbrev pub diagnosis : List ℕ → List Finding → Option (List ℕ)
diagnosis file [] = None
diagnosis file (finding ∷ others) = Some (flat_map (told file) (finding ∷ others))
