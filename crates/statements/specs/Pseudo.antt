-- Pseudo-instructions (RISC-V Unprivileged ISA 20191213, chapter 25, tables 25.2 and 25.3): each line of one is read as
-- the line of the instruction is that it means.
--
-- Its operands may be any that are spelled plainly, as registers, labels and numbers are. They need not be right: where
-- one is wrong, both lines have the same error.
use Rattle.std.specs.Prelude.{◌≡◌, ◌≢◌, ℕ, ◌-◌, ◌%◌, ◌^◌, ◌<◌, ◌≤◌, Bool, true, ◌==◌, not, ◌&&◌, ◌⊎◌, List, ◌++◌, Ok}
use Rattle.std.specs.Prelude.{codes}
use Rattle.std.specs.List.{list_all}
use Rattle.byte_strings.specs.Blanks.{is_blank}
use Rattle.rv32i.specs.Machine.{sum}
use Rattle.rv32i.specs.Names.{Names}
use Rattle.rv32i.specs.Texts.{with_three, with_two}
use Rattle.rv32i.specs.declared.instr.Instr.TheVariants as i
use Rattle.statements.specs.Numbers.{constant_in}
use Rattle.statements.specs.Operands.{is_operand}
use Rattle.statements.specs.Reading.{read}
use Rattle.statements.specs.Spelling.{is_name}
use Rattle.statements.specs.Texts.{stated_alone}
use Rattle.statements.specs.declared.statement.Statement.{Statement}
use Rattle.statements.specs.declared.statement.Statement.TheVariants as say

-- some bytes, none of them a blank, a comma or a number sign
abbrev pub is_plain : List ℕ → Bool
is_plain text = is_operand text && list_all (λ b. not (is_blank b) && (not (b == 44) && not (b == 35))) text

-- names are spelled plainly
abbrev pub NamesArePlain : Type 0
NamesArePlain = (name : List ℕ) → is_name name ≡ true → is_plain name ≡ true

-- and so are registers
abbrev pub RegistersArePlain : Type 0
RegistersArePlain = (name : List ℕ) (register : ℕ) → Names name register → is_plain name ≡ true

-- a mnemonic with one operand
abbrev pub with_one : List ℕ → List ℕ → List ℕ
with_one name a = name ++ (codes " " ++ a)

-- an address as a register without an offset
abbrev pub at_register : List ℕ → List ℕ
at_register s = codes "0(" ++ (s ++ codes ")")

-- a mnemonic with one operand means a line that has it too
abbrev pub OfOne : List ℕ → (List ℕ → List ℕ) → Type 0
OfOne name line = (a : List ℕ) → is_plain a ≡ true → read (with_one name a) ≡ read (line a)

-- with two
abbrev pub OfTwo : List ℕ → (List ℕ → List ℕ → List ℕ) → Type 0
OfTwo name line = (a b : List ℕ) → is_plain a ≡ true → is_plain b ≡ true → read (with_two name a b) ≡ read (line a b)

-- with three
abbrev pub OfThree : List ℕ → (List ℕ → List ℕ → List ℕ → List ℕ) → Type 0
OfThree name line = (a b c : List ℕ) → is_plain a ≡ true → is_plain b ≡ true → is_plain c ≡ true →
    read (with_three name a b c) ≡ read (line a b c)

-- what has a register and is computed
pub record OfRegisters : Type 0 where
  pub mv_is : OfTwo (codes "mv") (λ d s. with_three (codes "addi") d s (codes "0"))
  pub not_is : OfTwo (codes "not") (λ d s. with_three (codes "xori") d s (codes "-1"))
  pub neg_is : OfTwo (codes "neg") (λ d s. with_three (codes "sub") d (codes "zero") s)
  pub seqz_is : OfTwo (codes "seqz") (λ d s. with_three (codes "sltiu") d s (codes "1"))
  pub snez_is : OfTwo (codes "snez") (λ d s. with_three (codes "sltu") d (codes "zero") s)
  pub sltz_is : OfTwo (codes "sltz") (λ d s. with_three (codes "slt") d s (codes "zero"))
  pub sgtz_is : OfTwo (codes "sgtz") (λ d s. with_three (codes "slt") d (codes "zero") s)

-- branches
pub record OfBranches : Type 0 where
  pub beqz_is : OfTwo (codes "beqz") (λ s t. with_three (codes "beq") s (codes "zero") t)
  pub bnez_is : OfTwo (codes "bnez") (λ s t. with_three (codes "bne") s (codes "zero") t)
  pub blez_is : OfTwo (codes "blez") (λ s t. with_three (codes "bge") (codes "zero") s t)
  pub bgez_is : OfTwo (codes "bgez") (λ s t. with_three (codes "bge") s (codes "zero") t)
  pub bltz_is : OfTwo (codes "bltz") (λ s t. with_three (codes "blt") s (codes "zero") t)
  pub bgtz_is : OfTwo (codes "bgtz") (λ s t. with_three (codes "blt") (codes "zero") s t)
  pub bgt_is : OfThree (codes "bgt") (λ s r t. with_three (codes "blt") r s t)
  pub ble_is : OfThree (codes "ble") (λ s r t. with_three (codes "bge") r s t)
  pub bgtu_is : OfThree (codes "bgtu") (λ s r t. with_three (codes "bltu") r s t)
  pub bleu_is : OfThree (codes "bleu") (λ s r t. with_three (codes "bgeu") r s t)

-- jumps, calls and returns; `la` and `call` are statements of their own, since their instructions depend on a distance
pub record OfJumps : Type 0 where
  pub j_is : OfOne (codes "j") (λ t. with_two (codes "jal") (codes "zero") t)
  pub jal_is : OfOne (codes "jal") (λ t. with_two (codes "jal") (codes "ra") t)
  pub jr_is : OfOne (codes "jr") (λ s. with_two (codes "jalr") (codes "zero") (at_register s))
  pub jalr_is : OfOne (codes "jalr") (λ s. with_two (codes "jalr") (codes "ra") (at_register s))
  pub ret_is : read (codes "ret") ≡ read (codes "jalr zero, 0(ra)")
  pub call_is : (label : List ℕ) → is_name label ≡ true → read (with_one (codes "call") label)
      ≡ stated_alone (say.Call label)
  pub la_is : (d label : List ℕ) (register : ℕ) → Names d register → is_name label ≡ true →
      read (with_two (codes "la") d label) ≡ stated_alone (say.LoadAddress register label)

-- whether a number of 32 bits is one of 12 bits, sign-extended
abbrev pub IsShort : ℕ → Type 0
IsShort n = (n < 2 ^ 11) ⊎ (2 ^ 32 - 2 ^ 11 ≤ n)

-- a statement puts a number into a register: by an ADDI where the number is short, else by a LUI, or by a LUI and an
-- ADDI whose parts add up to it
abbrev pub Puts : ℕ → ℕ → Statement → Type 0
Puts register n statement =
    (IsShort n × (statement ≡ say.One (i.Addi register 0 n)))
    ⊎ (((IsShort n → ⊥) × (n % 4096 ≡ 0) × (statement ≡ say.One (i.Lui register n)))
    ⊎ ((IsShort n → ⊥) × (n % 4096 ≢ 0) × ((upper : ℕ) × (lower : ℕ) × (upper % 4096 ≡ 0) × IsShort lower
    × (sum upper lower ≡ n) × (statement ≡ say.Two (i.Lui register upper) (i.Addi register register lower)))))

-- constants, and what does nothing
pub record OfConstants : Type 0 where
  pub nop_is : read (codes "nop") ≡ read (codes "addi zero, zero, 0")
  pub fence_is : read (codes "fence") ≡ read (codes "fence iorw, iorw")
  pub li_is : (d number : List ℕ) (register n : ℕ) → Names d register → is_plain number ≡ true →
      constant_in number ≡ Ok n →
      (statement : Statement) × ((read (with_two (codes "li") d number) ≡ stated_alone statement)
      × Puts register n statement)
