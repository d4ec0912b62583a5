-- The places for numbers in a line.
use Rattle.statements.proofs.Common.{[], access_with, Address, address_target, and_both, and_then, ap, arith, begins_high, Bits, bits_by, bits_in, bits_low, Bool, codes, cond-false, Err, false, immediate_in, in_brackets, is_name, is_no_offset, is_offset, IsNumber, IsOperand, JumpAndLinkRegister, leb, Line, line_of, LineError, List, Load, lower, magnitude_by, Mnemonic, mnemonic_of, Names, not, not-false, NumbersHaveRanges, Ok, read, refl, Result, signed, Some, Statement, stating, Store, takes_address, TakesNumbers, Target, target_in, true, upper_by, with_two, within, ℕ, ◌&&◌, ◌*◌, ◌++◌, ◌∙◌, ◌≡◌}
use Rattle.statements.proofs.Addresses.{access, accessed, address_means, immediate_means, inner, low_number, no_blanks, plain_address, register_is}
use Rattle.statements.proofs.AnyOperands.{one_ok, register_operand, three_means, two_means, two_ok}
use Rattle.statements.proofs.Numerals.{High, bits_inside, bits_past, high_begins, high_operand, is_high, number_high, number_is, number_no_name, number_none, puts}
use Rattle.statements.proofs.Runs.{lacks_byte}
use Rattle.rv32i.specs.declared.instr.Instr.TheVariants as i
use Rattle.statements.specs.declared.statement.Statement.TheVariants as say

-- ---- a place

pub takes : {below above : ℕ} {excepted : List ℕ → Bool} {line : List ℕ → List ℕ} {statement : ℕ → Statement}
    → (leb below 4294967295 && leb above 4294967295) ≡ true
    → ((text : List ℕ) → High text → is_name text ≡ false → excepted text ≡ false)
    → ((text : List ℕ) → IsOperand text → excepted text ≡ false
    → read (line text) ≡ line_of [] (stating (and_then (bits_in below above text) (λ n. Ok (statement n)))))
    → TakesNumbers below above excepted line statement
takes {below} {above} {excepted} {line} {statement} fits plain so = record {
  within = λ text negative n h l. number text negative n h ∙ ap result (bits_inside below above n negative fits l);
  beyond = λ text negative n h l. number text negative n h ∙ ap result (bits_past below above n negative l);
  other = λ text o h e. so text o e ∙ ap (λ x. result (bits_by below above x)) (number_none text h);
} where
  result : Result ℕ LineError → Result Line LineError
  result x = line_of [] (stating (and_then x (λ n. Ok (statement n))))

  number : (text : List ℕ) (negative : Bool) (n : ℕ) → IsNumber text negative n
      → read (line text) ≡ result (bits_by below above (signed negative (magnitude_by (within n))))
  number text negative n h =
      let high = number_high text negative n h in
      so text (high_operand text high) (plain text high (number_no_name text negative n h))
      ∙ ap (λ x. result (bits_by below above x)) (number_is text negative n h)

-- what becomes of a number, and leaves what is wrong, states what becomes of it
pub turned : {B : Type 0} (h : Result ℕ LineError → Result B LineError) (g : ℕ → B) (f : B → Statement) (x : Result ℕ LineError)
    {y : Result B LineError} → y ≡ h x → ((n : ℕ) → h (Ok n) ≡ Ok (g n)) → ((error : LineError) → h (Err error) ≡ Err error)
    → and_then y (λ b. Ok (f b)) ≡ and_then x (λ n. Ok (f (g n)))
turned h g f x e good bad = grind arith

-- ---- the places in instructions

address_ranges : (name : List ℕ) (mnemonic : Mnemonic) {d s : List ℕ} {rd rs1 : ℕ} → mnemonic_of name ≡ Some mnemonic
    → takes_address mnemonic ≡ true → Names d rd → Names s rs1
    → TakesNumbers 2048 2047 is_no_offset (λ offset. with_two name d (offset ++ in_brackets s))
    (λ imm. accessed mnemonic rd (access (Bits imm) rs1))
address_ranges name mnemonic {s = s} {rd} {rs1} e t n k =
    takes refl (λ text h t. ap not (and_both _ _ (ap not (high_begins (codes "lo") text h)) (lacks_byte is_high 40 text refl h.1)))
    (λ text o f. address_means name mnemonic e t (register_operand n)
    (plain_address text s no_blanks o (not-false (is_offset text) f) (inner (register_operand k)))
    (one_ok _ (register_is n) ∙ turned (λ x. access_with (bits_low x) (Ok rs1)) (λ imm. access (Bits imm) rs1) (accessed mnemonic rd)
    (immediate_in text) (ap (access_with _) (register_is k)) (λ n. refl) (λ error. refl)))

target_number : (text : List ℕ) (f : Target → Statement) → is_name text ≡ false
    → and_then (target_in text) (λ target. Ok (f target)) ≡ and_then (bits_in 0 4294967295 text) (λ n. Ok (f (Address n)))
target_number text f e =
    turned address_target (λ n. Address n) f (bits_in 0 4294967295 text) (cond-false (is_name text) _ _ e) (λ n. refl) (λ error. refl)

upper_number : (x : Result ℕ LineError) (f : ℕ → Statement)
    → and_then (and_then x (λ bits. Ok (bits * 4096))) (λ imm. Ok (f imm)) ≡ and_then x (λ n. Ok (f (n * 4096)))
upper_number x f = grind arith

pub number_ranges : NumbersHaveRanges
number_ranges = record {
  immediate = λ name d s op rd rs1 e n k.
      takes refl (λ text h t. high_begins (codes "lo") text h)
      (λ text o t. immediate_means name e (register_operand n) (register_operand k) (o, low_number text t)
      (two_ok _ (register_is n) (register_is k)
      ∙ turned bits_low (λ b. Bits b) (λ imm. lower op rd rs1 imm) (immediate_in text) refl (λ n. refl) (λ error. refl)));
  load = λ name d s op rd rs1 e n k. address_ranges name (Load op) e refl n k;
  jalr = λ d s rd rs1 n k. address_ranges (codes "jalr") JumpAndLinkRegister refl refl n k;
  store = λ name d s op rs2 rs1 e n k. address_ranges name (Store op) e refl n k;
  shift = λ name d s op rd rs1 e n k.
      takes refl (λ text h t. refl)
      (λ text o t. three_means name e (register_operand n) (register_operand k) o (two_ok _ (register_is n) (register_is k)));
  lui = λ d rd n.
      takes refl (λ text h t. high_begins (codes "hi") text h)
      (λ text o t. two_means (codes "lui") refl (register_operand n) o
      (one_ok _ (register_is n) ∙ ap (upper_by rd text) (cond-false (begins_high text) _ _ t)
      ∙ upper_number (bits_in 0 1048575 text) (λ imm. say.One (i.Lui rd imm))));
  auipc = λ d rd n.
      takes refl (λ text h t. refl)
      (λ text o t. two_means (codes "auipc") refl (register_operand n) o
      (one_ok _ (register_is n) ∙ upper_number (bits_in 0 1048575 text) (λ imm. say.One (i.Auipc rd imm))));
  li = λ d rd n.
      takes refl (λ text h t. refl) (λ text o t. two_means (codes "li") refl (register_operand n) o (one_ok _ (register_is n)));
  constants = puts;
  branch = λ name a b condition rs1 rs2 e n k.
      takes refl (λ text h t. t)
      (λ text o t. three_means name e (register_operand n) (register_operand k) o
      (two_ok _ (register_is n) (register_is k) ∙ target_number text (λ target. say.Branch condition rs1 rs2 target) t));
  jump = λ d rd n.
      takes refl (λ text h t. t)
      (λ text o t. two_means (codes "jal") refl (register_operand n) o
      (one_ok _ (register_is n) ∙ target_number text (λ target. say.Jump rd target) t));
}
