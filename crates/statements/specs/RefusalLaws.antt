-- Laws of refusals: which operands are bad, whatever the other operands of the line are.
--
-- So a line with a bad operand is refused for it also where a number in the line is out of range.
-- What is refused where a number belongs is said in OperandLaws and in DirectiveLaws, beside the
-- numbers that are taken there.
use Rattle.std.specs.Prelude.{◌≡◌, ℕ, ◌<◌, Bool, true, false, ◌==◌, not, ◌||◌, if◌then◌else◌, ◌⊎◌}
use Rattle.std.specs.Prelude.{List, [], ◌∷◌, ◌++◌}
use Rattle.std.specs.Prelude.{length, zero, suc, Some, Err, codes}
use Rattle.std.specs.List.{list_all}
use Rattle.rv32i.specs.Names.{Names}
use Rattle.rv32i.specs.Texts.{set_text, with_three, with_two}
use Rattle.statements.specs.Grammar.{AllBlank}
use Rattle.statements.specs.Mnemonics.{mnemonic_of}
use Rattle.statements.specs.OperandLaws.{AreOperands, IsInner, IsOperand, high_of, in_brackets}
use Rattle.statements.specs.OperandLaws.{is_offset, is_unclosed, line_with}
use Rattle.statements.specs.OperandLaws.{low_of, takes_address}
use Rattle.statements.specs.Pseudo.{with_one}
use Rattle.statements.specs.Reading.{read}
use Rattle.statements.specs.Spelling.{is_name}
use Rattle.statements.specs.declared.error.LineError.TheVariants.{BadOperand}
use Rattle.statements.specs.declared.mnemonics.Mnemonic.{Mnemonic}
use Rattle.statements.specs.declared.mnemonics.Mnemonic.TheVariants.{Registers, Immediate, Shift}
use Rattle.statements.specs.declared.mnemonics.Mnemonic.TheVariants.{Load, Store, Branch}
use Rattle.statements.specs.declared.mnemonics.Mnemonic.TheVariants.{Swapped, AgainstZero}
use Rattle.statements.specs.declared.mnemonics.Mnemonic.TheVariants.{ZeroAgainst, OfRegister}
use Rattle.statements.specs.declared.mnemonics.Mnemonic.TheVariants.{WithZero, OfImmediate}
use Rattle.statements.specs.declared.mnemonics.Mnemonic.TheVariants.{LoadUpper, AddUpper}
use Rattle.statements.specs.declared.mnemonics.Mnemonic.TheVariants.{JumpAndLink}
use Rattle.statements.specs.declared.mnemonics.Mnemonic.TheVariants.{JumpAndLinkRegister, Jump}
use Rattle.statements.specs.declared.mnemonics.Mnemonic.TheVariants.{JumpRegister, LoadImmediate}
use Rattle.statements.specs.declared.mnemonics.Mnemonic.TheVariants.{LoadAddress, Call}
use Rattle.statements.specs.declared.mnemonics.Mnemonic.TheVariants.{Fixed, Fence, Data, Space}
use Rattle.statements.specs.declared.mnemonics.Mnemonic.TheVariants.{Align, Section, Global}
use Rattle.statements.specs.declared.operations.ImmediateOperation.{ImmediateOperation}

-- ---- how many operands

-- whether a mnemonic takes `n` operands
abbrev pub takes_count : Mnemonic → ℕ → Bool
takes_count (Registers op) n = n == 3
takes_count (Immediate op) n = n == 3
takes_count (Shift op) n = n == 3
takes_count (Load op) n = n == 2
takes_count (Store op) n = n == 2
takes_count (Branch condition) n = n == 3
takes_count (Swapped condition) n = n == 3
takes_count (AgainstZero condition) n = n == 2
takes_count (ZeroAgainst condition) n = n == 2
takes_count (OfRegister op) n = n == 2
takes_count (WithZero op) n = n == 2
takes_count (OfImmediate op) n = n == 2
takes_count LoadUpper n = n == 2
takes_count AddUpper n = n == 2
takes_count JumpAndLink n = (n == 1) || (n == 2)
takes_count JumpAndLinkRegister n = (n == 1) || ((n == 2) || (n == 3))
takes_count Jump n = n == 1
takes_count JumpRegister n = n == 1
takes_count LoadImmediate n = n == 2
takes_count LoadAddress n = n == 2
takes_count Call n = n == 1
takes_count (Fixed op) n = n == 0
takes_count Fence n = (n == 0) || (n == 2)
takes_count (Data width) n = not (n == 0)
takes_count Space n = n == 1
takes_count Align n = n == 1
takes_count Section n = n == 0
takes_count Global n = n == 1

-- operands of another number than the mnemonic takes are bad
abbrev pub NumberOfOperandsMatters : Type 0
NumberOfOperandsMatters = (name : List ℕ) (mnemonic : Mnemonic) (operands : List (List ℕ)) →
    mnemonic_of name ≡ Some mnemonic → AreOperands operands →
    takes_count mnemonic (length operands) ≡ false →
    read (line_with name operands) ≡ Err BadOperand

-- ---- registers

-- a text is no register's name
abbrev pub NoRegister : List ℕ → Type 0
NoRegister text = (r : ℕ) → Names text r → ⊥

-- among this many texts from the first on, one is no register's name
abbrev pub OneIsNoRegister : ℕ → List (List ℕ) → Type 0
OneIsNoRegister zero texts = ⊥
OneIsNoRegister (suc k) [] = ⊥
OneIsNoRegister (suc k) (text ∷ texts) = NoRegister text ⊎ OneIsNoRegister k texts

-- how many of its `n` operands a mnemonic wants to be registers: they come first
abbrev pub registers_of : Mnemonic → ℕ → ℕ
registers_of (Registers op) n = 3
registers_of (Immediate op) n = 2
registers_of (Shift op) n = 2
registers_of (Load op) n = 1
registers_of (Store op) n = 1
registers_of (Branch condition) n = 2
registers_of (Swapped condition) n = 2
registers_of (AgainstZero condition) n = 1
registers_of (ZeroAgainst condition) n = 1
registers_of (OfRegister op) n = 2
registers_of (WithZero op) n = 2
registers_of (OfImmediate op) n = 2
registers_of LoadUpper n = 1
registers_of AddUpper n = 1
registers_of JumpAndLink n = if n == 2 then 1 else 0
registers_of JumpAndLinkRegister n = if n == 3 then 2 else 1
registers_of JumpRegister n = 1
registers_of LoadImmediate n = 1
registers_of LoadAddress n = 1
registers_of other n = 0

-- what is no register is bad where one belongs: among the first operands, and in the brackets of an
-- address
pub record RegistersAreNeeded : Type 0 where
  pub first : (name : List ℕ) (mnemonic : Mnemonic) (operands : List (List ℕ)) →
      mnemonic_of name ≡ Some mnemonic →
      AreOperands operands → OneIsNoRegister (registers_of mnemonic (length operands)) operands →
      read (line_with name operands) ≡ Err BadOperand
  pub offset : (name register offset s : List ℕ) (mnemonic : Mnemonic) →
      mnemonic_of name ≡ Some mnemonic →
      takes_address mnemonic ≡ true → IsOperand register → IsOperand offset →
      is_offset offset ≡ true →
      IsInner s → NoRegister s →
      read (with_two name register (offset ++ in_brackets s)) ≡ Err BadOperand
  pub part : (name register x s : List ℕ) (mnemonic : Mnemonic) → mnemonic_of name ≡ Some mnemonic →
      takes_address mnemonic ≡ true → IsOperand register → IsInner x → is_unclosed x ≡ true →
      IsInner s →
      NoRegister s → read (with_two name register (low_of x ++ in_brackets s)) ≡ Err BadOperand

-- a text is blanks, and then something in brackets
abbrev pub IsInBrackets : List ℕ → Type 0
IsInBrackets text =
    (before : List ℕ) × ((inner : List ℕ) ×
    (AllBlank before × (text ≡ before ++ in_brackets inner)))

-- what is not in brackets is bad after `%lo` and `%hi`
pub record PartsAreInBrackets : Type 0 where
  pub low : (name d s text : List ℕ) (op : ImmediateOperation) →
      mnemonic_of name ≡ Some (Immediate op) → IsOperand d → IsOperand s →
      IsOperand (codes "%lo" ++ text) → (IsInBrackets text → ⊥) →
      read (with_three name d s (codes "%lo" ++ text)) ≡ Err BadOperand
  pub high : (d text : List ℕ) → IsOperand d → IsOperand (codes "%hi" ++ text) →
      (IsInBrackets text → ⊥) →
      read (with_two (codes "lui") d (codes "%hi" ++ text)) ≡ Err BadOperand

-- what lacks a bracket is bad where an address belongs: an opening one, or a closing one at its end
pub record BracketsAreNeeded : Type 0 where
  pub opening : (name register text : List ℕ) (mnemonic : Mnemonic) →
      mnemonic_of name ≡ Some mnemonic → takes_address mnemonic ≡ true → IsOperand register →
      IsOperand text → list_all (λ b. not (b == 40)) text ≡ true →
      read (with_two name register text) ≡ Err BadOperand
  pub closing : (name register before : List ℕ) (last : ℕ) (mnemonic : Mnemonic) →
      mnemonic_of name ≡ Some mnemonic → takes_address mnemonic ≡ true → IsOperand register →
      IsOperand (before ++ (last ∷ [])) → (last == 41) ≡ false →
      read (with_two name register (before ++ (last ∷ []))) ≡ Err BadOperand

-- ---- labels

-- what is no name is bad where a label belongs: in `la` and `call`, and after `%hi` and `%lo`
pub record NamesAreNeeded : Type 0 where
  pub la : (d x : List ℕ) → IsOperand d → IsOperand x → is_name x ≡ false →
      read (with_two (codes "la") d x) ≡ Err BadOperand
  pub call : (x : List ℕ) → IsOperand x → is_name x ≡ false →
      read (with_one (codes "call") x) ≡ Err BadOperand
  pub upper : (d x : List ℕ) → IsOperand d → IsInner x → is_name x ≡ false →
      read (with_two (codes "lui") d (high_of x)) ≡ Err BadOperand
  pub immediate : (name d s x : List ℕ) (op : ImmediateOperation) →
      mnemonic_of name ≡ Some (Immediate op) →
      IsOperand d → IsOperand s → IsInner x → is_name x ≡ false →
      read (with_three name d s (low_of x)) ≡ Err BadOperand
  pub part : (name register x s : List ℕ) (mnemonic : Mnemonic) → mnemonic_of name ≡ Some mnemonic →
      takes_address mnemonic ≡ true → IsOperand register → IsInner x → is_unclosed x ≡ true →
      IsInner s →
      is_name x ≡ false → read (with_two name register (low_of x ++ in_brackets s)) ≡ Err BadOperand

-- ---- sets of accesses

-- a text is no set: none of the fifteen that have an access, as the disassembly writes them
abbrev pub NoSet : List ℕ → Type 0
NoSet text = (n : ℕ) → 0 < n → n < 16 → text ≡ set_text n → ⊥

-- what is no set is bad in a fence
abbrev pub SetsAreNeeded : Type 0
SetsAreNeeded =
    (before after : List ℕ) → IsOperand before → IsOperand after → NoSet before ⊎ NoSet after →
    read (with_two (codes "fence") before after) ≡ Err BadOperand
