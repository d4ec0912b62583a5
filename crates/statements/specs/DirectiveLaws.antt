-- Laws of directives: what each states of its operands.
--
-- Lines are as in OperandLaws. `.space` states a number of zero bytes, `.align` zero bytes up to a
-- multiple of a power of 2, and `.word`, `.half` and `.byte` state data, item after item.
use Rattle.std.specs.Prelude.{◌≡◌, ℕ, true, false, ◌⊎◌, List, [], ◌∷◌, ◌++◌, Some, Result, Err}
use Rattle.std.specs.Prelude.{codes}
use Rattle.statements.specs.Mnemonics.{mnemonic_of}
use Rattle.statements.specs.OperandLaws.{AreOperands, IsOperand, TakesNumbers, line_with, none}
use Rattle.statements.specs.Pseudo.{with_one}
use Rattle.statements.specs.Reading.{read}
use Rattle.statements.specs.Spelling.{is_name}
use Rattle.statements.specs.Texts.{stated_alone}
use Rattle.statements.specs.declared.error.LineError.{LineError}
use Rattle.statements.specs.declared.error.LineError.TheVariants.{BadOperand, OutOfRange}
use Rattle.statements.specs.declared.items.Item.{Item}
use Rattle.statements.specs.declared.items.Item.TheVariants.{Label, Number}
use Rattle.statements.specs.declared.items.Width.{Width}
use Rattle.statements.specs.declared.items.Width.TheVariants.{Byte, Half, Word}
use Rattle.statements.specs.declared.line.Line.{Line}
use Rattle.statements.specs.declared.mnemonics.Mnemonic.TheVariants.{Data}
use Rattle.statements.specs.declared.statement.Statement.TheVariants as say

-- a label, and nothing else, is taken and has no effect
pub record TakesLabels (name : List ℕ) : Type 0 where
  pub label : (text : List ℕ) → is_name text ≡ true →
      read (with_one name text) ≡ stated_alone say.Nothing
  pub other : (text : List ℕ) → IsOperand text → is_name text ≡ false →
      read (with_one name text) ≡ Err BadOperand

-- each directive with its operand, of data with one item
pub record DirectivesState : Type 0 where
  pub text_is : read (codes ".text") ≡ stated_alone say.Nothing
  pub data_is : read (codes ".data") ≡ stated_alone say.Nothing
  pub globl_is : TakesLabels (codes ".globl")
  pub global_is : TakesLabels (codes ".global")
  pub space_is : TakesNumbers 0 16777216 none (with_one (codes ".space")) (λ n. say.Space n)
  pub align_is : TakesNumbers 0 12 none (with_one (codes ".align")) (λ n. say.Align n)
  pub word_is : TakesNumbers 2147483648 4294967295 is_name (with_one (codes ".word"))
      (λ n. say.Data Word (Number n ∷ []))
  pub label_is : (text : List ℕ) → is_name text ≡ true →
      read (with_one (codes ".word") text) ≡ stated_alone (say.Data Word (Label text ∷ []))
  pub half_is : TakesNumbers 32768 65535 none (with_one (codes ".half"))
      (λ n. say.Data Half (Number n ∷ []))
  pub byte_is : TakesNumbers 128 255 none (with_one (codes ".byte"))
      (λ n. say.Data Byte (Number n ∷ []))

-- what a line of data is read as where each item has the form of one: as data, or as out of range
abbrev pub IsFormed : Width → Result Line LineError → Type 0
IsFormed width line =
    (line ≡ Err OutOfRange) ⊎ ((items : List Item) × (line ≡ stated_alone (say.Data width items)))

-- Data is its items one by one: for two lists of operands, each of one or more, the line with both
-- lists states the items of the line with the first, and then those of the line with the second. It
-- has a bad operand if either has; and else it is out of range if either is.
pub record DataIsItsItems : Type 0 where
  pub both : (name a b : List ℕ) (width : Width) (more others : List (List ℕ))
      (items next : List Item) →
      mnemonic_of name ≡ Some (Data width) → AreOperands (a ∷ more) → AreOperands (b ∷ others) →
      read (line_with name (a ∷ more)) ≡ stated_alone (say.Data width items) →
      read (line_with name (b ∷ others)) ≡ stated_alone (say.Data width next) →
      read (line_with name ((a ∷ more) ++ (b ∷ others))) ≡ stated_alone
      (say.Data width (items ++ next))
  pub bad : (name a b : List ℕ) (width : Width) (more others : List (List ℕ)) →
      mnemonic_of name ≡ Some (Data width) →
      AreOperands (a ∷ more) → AreOperands (b ∷ others) →
      (read (line_with name (a ∷ more)) ≡ Err BadOperand) ⊎
      (read (line_with name (b ∷ others)) ≡ Err BadOperand) →
      read (line_with name ((a ∷ more) ++ (b ∷ others))) ≡ Err BadOperand
  pub beyond : (name a b : List ℕ) (width : Width) (more others : List (List ℕ)) →
      mnemonic_of name ≡ Some (Data width) → AreOperands (a ∷ more) → AreOperands (b ∷ others) →
      IsFormed width (read (line_with name (a ∷ more))) →
      IsFormed width (read (line_with name (b ∷ others))) →
      (read (line_with name (a ∷ more)) ≡ Err OutOfRange) ⊎
      (read (line_with name (b ∷ others)) ≡ Err OutOfRange) →
      read (line_with name ((a ∷ more) ++ (b ∷ others))) ≡ Err OutOfRange
