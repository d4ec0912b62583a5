-- What is reported of a text that has no image: a line, counted from 1, and what is wrong with it.
-- That a text is too long is reported at line 0. Where no memory is left for its lines, that is
-- reported instead, at line 0 too.
use Rattle.std.specs.Prelude.{◌≡◌, ℕ, List, Option, Some, None, Result, Ok, Err, codes}
use Rattle.assembler.specs.declared.error.AsmError.{AsmError}
use Rattle.assembler.specs.declared.error.AsmErrorKind.{AsmErrorKind}
use Rattle.assembler.specs.declared.error.AsmErrorKind.TheVariants as k
use Rattle.statements.specs.declared.error.LineError.{LineError}
use Rattle.statements.specs.declared.error.LineError.TheVariants.{Syntax, UnknownInstruction, BadOperand, OutOfRange}
use Rattle.statements.specs.declared.error.LineError.TheVariants.{NoMemory}

-- the name of what is wrong with a line
abbrev pub kind_name : AsmErrorKind → List ℕ
kind_name k.NotUtf8 = codes "NotUtf8"
kind_name k.Syntax = codes "Syntax"
kind_name k.UnknownInstruction = codes "UnknownInstruction"
kind_name k.BadOperand = codes "BadOperand"
kind_name k.OutOfRange = codes "OutOfRange"
kind_name k.TwiceDefined = codes "TwiceDefined"
kind_name k.Undefined = codes "Undefined"
kind_name k.TooLarge = codes "TooLarge"
kind_name k.NoMemory = codes "NoMemory"

-- an error at a line
abbrev pub at : ℕ → AsmErrorKind → AsmError
at line kind = record { line = line; kind = kind }

-- that no memory was left, at line 0
abbrev pub no_memory : AsmError
no_memory = at 0 k.NoMemory

-- what is wrong with a line before any address is known
abbrev pub of_line : ℕ → LineError → AsmError
of_line line Syntax = at line k.Syntax
of_line line UnknownInstruction = at line k.UnknownInstruction
of_line line BadOperand = at line k.BadOperand
of_line line OutOfRange = at line k.OutOfRange
of_line line NoMemory = no_memory

-- the first, if any, and else the other
abbrev pub first_of : {A : Type 0} → Option A → Option A → Option A
first_of None other = other
first_of (Some a) other = Some a

-- the error of an answer, if it is one
abbrev pub error_in : {A E : Type 0} → Result A E → Option E
error_in (Ok a) = None
error_in (Err error) = Some error

-- by its kind: an error that is reported is the one found, or that no memory was left, at line 0
abbrev pub reported : AsmErrorKind → AsmError → Option AsmError → Type 0
reported k.NoMemory error found = error.line ≡ 0
reported k.NotUtf8 error found = found ≡ Some error
reported k.Syntax error found = found ≡ Some error
reported k.UnknownInstruction error found = found ≡ Some error
reported k.BadOperand error found = found ≡ Some error
reported k.OutOfRange error found = found ≡ Some error
reported k.TwiceDefined error found = found ≡ Some error
reported k.Undefined error found = found ≡ Some error
reported k.TooLarge error found = found ≡ Some error

-- An error that is reported is the one found, or says that no memory was left.
abbrev pub Reports : AsmError → Option AsmError → Type 0
Reports error found = reported error.kind error found
