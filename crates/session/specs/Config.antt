-- What a session is made of: how much memory a machine gets, and the program that is there from the beginning.
use Rattle.std.specs.Prelude.{◌≡◌, ℕ, false, List, Option, Some, None, Result, Ok, Err, ⊤}
use Rattle.assembler.specs.Program.{whole_error}
use Rattle.assembler.specs.Assembled.{assembled}
use Rattle.assembler.specs.Placed.{error_of}
use Rattle.assembler.specs.declared.error.AsmError.{AsmError}
use Rattle.debuggee.specs.Programs.{Program, just_loaded}
use Rattle.session.specs.declared.config.ConfigError.{ConfigError}
use Rattle.session.specs.declared.config.ConfigError.TheVariants.{BadMemorySize, BadLimit, Assembly, NoMemory}

-- it is loaded, and stands still at its entry: of the path of its file, and what that holds
abbrev pub given : List ℕ → List ℕ → ℕ → Program
given path text size = just_loaded (assembled text) path false size

-- the program, if one is given
abbrev pub first_program : Option (List ℕ × List ℕ) → ℕ → Option Program
first_program None size = None
first_program (Some program) size = Some (given program.0 program.1 size)

-- it has an image
abbrev pub HasImage : Option (List ℕ × List ℕ) → ℕ → Type 0
HasImage None size = ⊤
HasImage (Some program) size = error_of program.1 size ≡ None

-- what is wrong with it
abbrev pub HasError : Option (List ℕ × List ℕ) → ℕ → AsmError → Type 0
HasError None size error = ⊥
HasError (Some program) size error = error_of program.1 size ≡ Some error

-- one is given, and each of its lines has to be read: it is not too long, and it is UTF-8
abbrev pub IsWhole : Option (List ℕ × List ℕ) → Type 0
IsWhole None = ⊥
IsWhole (Some program) = whole_error program.1 ≡ None

-- A program is loaded exactly where its text has no error; else the error is what is wrong with it, or that no memory
-- was left.
abbrev pub LoadsOne : List ℕ → List ℕ → ℕ → Result Program ConfigError → Type 0
LoadsOne path text size (Ok p) = (error_of text size ≡ None) × (p ≡ given path text size)
LoadsOne path text size (Err (Assembly error)) = error_of text size ≡ Some error
LoadsOne path text size (Err NoMemory) = whole_error text ≡ None
LoadsOne path text size (Err BadMemorySize) = ⊥
LoadsOne path text size (Err BadLimit) = ⊥

-- whether the program is right that is given, if one is
abbrev pub Loads : Option (List ℕ × List ℕ) → ℕ → Result (Option Program) ConfigError → Type 0
Loads program size (Ok loaded) = HasImage program size × (loaded ≡ first_program program size)
Loads program size (Err (Assembly error)) = HasError program size error
Loads program size (Err NoMemory) = IsWhole program
Loads program size (Err BadMemorySize) = ⊥
Loads program size (Err BadLimit) = ⊥
