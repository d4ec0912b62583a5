-- A pseudo-instruction is read as what it means.
use Rattle.statements.proofs.Common.{access_with, and_then, arith, at_register, Bits, bits_by, Branch, codes, Condition, constant, is_plain, JumpAndLinkRegister, LineError, List, lower, meaning, Mnemonic, mnemonic_of, nat_tests, number_in, OfBranches, OfConstants, OfJumps, OfOne, OfRegisters, OfThree, OfTwo, Ok, one, One, Option, or_bad, refl, register_in, register_of, Result, Some, Statement, Swapped, sym, Target, target_in, Three, true, Two, with_three, with_two, ℕ, ◌<◌, ◌^◌, ◌∙◌, ◌≡◌}
use Rattle.statements.specs.Reading.{read}
use Rattle.statements.specs.declared.number.Number.{Number}
use Rattle.statements.proofs.Addresses.{address_means, inner, label_is, no_blanks, plain_address, register_is}
use Rattle.statements.proofs.AnyOperands.{name_operand, one_means, one_ok, plain_name, plain_operand, register_operand, three_means, two_means, two_ok}
use Rattle.statements.proofs.Numerals.{puts}
use Rattle.statements.proofs.Registers.{named_is_name}
use Rattle.statements.specs.declared.operations.Condition.TheVariants as c
use Rattle.rv32i.specs.declared.instr.Instr.TheVariants as i
use Rattle.statements.specs.declared.operations.ImmediateOperation.TheVariants as m
use Rattle.statements.specs.declared.statement.Statement.TheVariants as say

-- ---- lines of two operands, as lines of three

module _ (name other third : List ℕ) {mnemonic by : Mnemonic} (n : mnemonic_of name ≡ Some mnemonic) (o : mnemonic_of other ≡ Some by)
    (p : is_plain third ≡ true) where
  first : ((a b t t' : List ℕ) → meaning mnemonic (Two a b) t ≡ meaning by (Three third a b) t')
      → OfTwo name (λ a b. with_three other third a b)
  first same a b h k =
      two_means name n (plain_operand a h) (plain_operand b k) (same a b _ _)
      ∙ sym (three_means other o (plain_operand third p) (plain_operand a h) (plain_operand b k) refl)

  second : ((a b t t' : List ℕ) → meaning mnemonic (Two a b) t ≡ meaning by (Three a third b) t')
      → OfTwo name (λ a b. with_three other a third b)
  second same a b h k =
      two_means name n (plain_operand a h) (plain_operand b k) (same a b _ _)
      ∙ sym (three_means other o (plain_operand a h) (plain_operand third p) (plain_operand b k) refl)

  last : ((a b t t' : List ℕ) → meaning mnemonic (Two a b) t ≡ meaning by (Three a b third) t')
      → OfTwo name (λ a b. with_three other a b third)
  last same a b h k =
      two_means name n (plain_operand a h) (plain_operand b k) (same a b _ _)
      ∙ sym (three_means other o (plain_operand a h) (plain_operand b k) (plain_operand third p) refl)

of_registers : OfRegisters
of_registers = record {
  mv_is = last (codes "mv") (codes "addi") (codes "0") refl refl refl (λ a b t t'. refl);
  not_is = last (codes "not") (codes "xori") (codes "-1") refl refl refl (λ a b t t'. refl);
  neg_is = second (codes "neg") (codes "sub") (codes "zero") refl refl refl (λ a b t t'. refl);
  seqz_is = last (codes "seqz") (codes "sltiu") (codes "1") refl refl refl (λ a b t t'. refl);
  snez_is = second (codes "snez") (codes "sltu") (codes "zero") refl refl refl (λ a b t t'. refl);
  sltz_is = last (codes "sltz") (codes "slt") (codes "zero") refl refl refl (λ a b t t'. refl);
  sgtz_is = second (codes "sgtz") (codes "slt") (codes "zero") refl refl refl (λ a b t t'. refl);
}

-- ---- branches

-- of two registers it does not matter which one is looked at first
either_first : (o p : Option ℕ) (z : Result Target LineError) (f : ℕ → ℕ → Target → Statement)
    → and_then (or_bad o) (λ a. and_then (or_bad p) (λ b. and_then z (λ c. Ok (f b a c))))
    ≡ and_then (or_bad p) (λ b. and_then (or_bad o) (λ a. and_then z (λ c. Ok (f b a c))))
either_first o p z f = grind arith

swapped : (name other : List ℕ) (condition : Condition) → mnemonic_of name ≡ Some (Swapped condition)
    → mnemonic_of other ≡ Some (Branch condition) → OfThree name (λ s r t. with_three other r s t)
swapped name other condition n o s r t h k l =
    three_means name n (plain_operand s h) (plain_operand r k) (plain_operand t l)
    (either_first (register_of s) (register_of r) (target_in t) (λ b a c. say.Branch condition b a c))
    ∙ sym (three_means other o (plain_operand r k) (plain_operand s h) (plain_operand t l) refl)

of_branches : OfBranches
of_branches = record {
  beqz_is = second (codes "beqz") (codes "beq") (codes "zero") refl refl refl (λ a b t t'. refl);
  bnez_is = second (codes "bnez") (codes "bne") (codes "zero") refl refl refl (λ a b t t'. refl);
  blez_is = first (codes "blez") (codes "bge") (codes "zero") refl refl refl (λ a b t t'. refl);
  bgez_is = second (codes "bgez") (codes "bge") (codes "zero") refl refl refl (λ a b t t'. refl);
  bltz_is = second (codes "bltz") (codes "blt") (codes "zero") refl refl refl (λ a b t t'. refl);
  bgtz_is = first (codes "bgtz") (codes "blt") (codes "zero") refl refl refl (λ a b t t'. refl);
  bgt_is = swapped (codes "bgt") (codes "blt") c.LessThan refl refl;
  ble_is = swapped (codes "ble") (codes "bge") c.GreaterOrEqual refl refl;
  bgtu_is = swapped (codes "bgtu") (codes "bltu") c.LessThanUnsigned refl refl;
  bleu_is = swapped (codes "bleu") (codes "bgeu") c.GreaterOrEqualUnsigned refl refl;
}

-- ---- jumps

jump_same : (rd : ℕ) (x : Result ℕ LineError)
    → and_then x (λ rs1. one (i.Jalr rd rs1 0))
    ≡ and_then (access_with (Ok (Bits 0)) x) (λ access. Ok (lower m.Jalr rd access.base access.offset))
jump_same rd x = grind arith

by_register : (name link : List ℕ) {mnemonic : Mnemonic} (rd : ℕ) → mnemonic_of name ≡ Some mnemonic → is_plain link ≡ true
    → register_in link ≡ Ok rd → ((s : List ℕ) → meaning mnemonic (One s) s ≡ and_then (register_in s) (λ rs1. one (i.Jalr rd rs1 0)))
    → OfOne name (λ s. with_two (codes "jalr") link (at_register s))
by_register name link rd n l found same s h =
    one_means name n (plain_operand s h) (same s ∙ jump_same rd (register_in s))
    ∙ sym (address_means (codes "jalr") JumpAndLinkRegister refl refl (plain_operand link l)
    (plain_address (codes "0") s no_blanks (plain_operand (codes "0") refl) refl (inner (plain_operand s h))) (one_ok _ found))

-- mnemonics that stand alone
alone_read : (read (codes "ret") ≡ read (codes "jalr zero, 0(ra)")) × (read (codes "nop") ≡ read (codes "addi zero, zero, 0"))
    × (read (codes "fence") ≡ read (codes "fence iorw, iorw"))
unfolding read
alone_read = (refl, refl, refl)

of_jumps : OfJumps
of_jumps = record {
  j_is =
      λ t h. one_means (codes "j") refl (plain_operand t h) refl
      ∙ sym (two_means (codes "jal") refl (plain_operand (codes "zero") refl) (plain_operand t h) refl);
  jal_is =
      λ t h. one_means (codes "jal") refl (plain_operand t h) refl
      ∙ sym (two_means (codes "jal") refl (plain_operand (codes "ra") refl) (plain_operand t h) refl);
  jr_is = by_register (codes "jr") (codes "zero") 0 refl refl refl (λ s. refl);
  jalr_is = by_register (codes "jalr") (codes "ra") 1 refl refl refl (λ s. refl);
  ret_is = alone_read.0;
  call_is = λ label h. one_means (codes "call") refl (name_operand label h) (one_ok _ (label_is label h));
  la_is = λ d label register h k.
      two_means (codes "la") refl (register_operand h) (name_operand label k) (two_ok _ (register_is h) (label_is label k));
}

-- ---- constants

number_fits : (x : Result Number LineError) (n : ℕ) → bits_by 2147483648 4294967295 x ≡ Ok n → n < 2 ^ 32
number_fits x n h = grind (arith, nat_tests)

of_constants : OfConstants
of_constants = record {
  nop_is = alone_read.1;
  fence_is = alone_read.2;
  li_is = λ d number register n h k e. (
    constant register n,
    (
      two_means (codes "li") refl (register_operand h) (plain_operand number k) (two_ok _ (register_is h) e),
      puts register n (number_fits (number_in number) n e),
    ),
  );
}

pub returns : Rattle.statements.proofs.laws.pseudo_instructions_stand_for_others.Goals.returns
returns c = record {
  registers = of_registers;
  branches = of_branches;
  jumps = of_jumps;
  constants = of_constants;
  names = plain_name;
  named = λ name register h. plain_name name (named_is_name name register h);
}
