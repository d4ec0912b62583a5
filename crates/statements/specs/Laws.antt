-- What holds of every line.
use Rattle.std.specs.Prelude.{◌≡◌, ℕ, List, Option, Some, None, Err, MatchOption, ⊤}
use Rattle.rv32i.specs.Encoding.{Encodes}
use Rattle.rv32i.specs.Texts.{HasText}
use Rattle.rv32i.specs.declared.instr.Instr.{Instr}
use Rattle.statements.specs.Grammar.{Division, IsLine, Spoken, means}
use Rattle.statements.specs.Reading.{read, without_comment}
use Rattle.statements.specs.Texts.{stated_alone, statement_of}
use Rattle.statements.specs.Mnemonics.{mnemonic_of}
use Rattle.statements.specs.declared.error.LineError.{LineError}
use Rattle.statements.specs.declared.error.LineError.TheVariants.{Syntax, UnknownInstruction, BadOperand, OutOfRange}
use Rattle.statements.specs.declared.error.LineError.TheVariants.{NoMemory}

-- a line that the rules divide is read as what it is divided into says
abbrev pub LinesAreRead : Type 0
LinesAreRead = (line : List ℕ) (d : Division) → IsLine (without_comment line) d → read line ≡ means d

-- and no other is read as a line
abbrev pub OnlyLinesAreRead : Type 0
OnlyLinesAreRead = (line : List ℕ) → (read line ≡ Err Syntax → ⊥) →
    (d : Division) × (IsLine (without_comment line) d × (read line ≡ means d))

-- an error of operands
abbrev pub IsOfOperands : LineError → Type 0
IsOfOperands BadOperand = ⊤
IsOfOperands OutOfRange = ⊤
IsOfOperands Syntax = ⊥
IsOfOperands UnknownInstruction = ⊥
IsOfOperands NoMemory = ⊥

-- What can be wrong with what the rules divide: nothing where there is no statement; where the name is no mnemonic and
-- no directive's, just that; and else the operands.
abbrev pub IsErrorOf : Option Spoken → LineError → Type 0
IsErrorOf None error = ⊥
IsErrorOf (Some (mnemonic, operands)) error =
    MatchOption (mnemonic_of mnemonic) (error ≡ UnknownInstruction) (λ named. IsOfOperands error)

-- a line that the rules divide is not refused for its form
abbrev pub FormIsNoError : Type 0
FormIsNoError = (line : List ℕ) (d : Division) (error : LineError) → IsLine (without_comment line) d →
    read line ≡ Err error → IsErrorOf d.spoken error

-- the disassembly of an instruction at an address is read as its statement, without labels
abbrev pub TextsAreRead : Type 0
TextsAreRead = (i : Instr) (pc word : ℕ) (text : List ℕ) → HasText i pc text → Encodes i word →
    read text ≡ stated_alone (statement_of i pc word)
