-- The disassembly of a word is plain, and has at most 300 bytes.
use Rattle.session_laws.proofs.Messages.Common.{[], agree_below_at, and_parts, ap, are_plain, arith, Bool, codes, Encodes, eqb, false, get_or, if_keeps, Instr, is_plain_byte, leb, leb-true, length, length-append, List, list_all, list_all-append, refl, suc, sum, text_at, text_at-is, true, zero, ℕ, ◌%◌, ◌/◌, ◌<◌, ◌^◌, ◌∷◌, ◌≡◌, ◌≤◌}
use Rattle.std.specs.Bool.{MatchBool}
use Rattle.rv32i.specs.Names.{name_of, names}
use Rattle.rv32i.specs.Texts.{Coded, eight_digits, HasText, hex_digit, Illegal, is_plain_fence, IsTextOf, letter, set_text, with_two, word_text}
use Rattle.rv32i.specs.declared.instr.Instr.TheVariants.{Fence, Ecall, Ebreak}
use Rattle.session_laws.proofs.Messages.Words.{IsPlainWithin, decimal_plain, digits_few, hexadecimal_plain, signed_few, signed_plain, spelled}

-- ---- registers, numbers and addresses

-- a test that each text of a list passes
named : (test : List ℕ → Bool) (list : List (List ℕ)) (n : ℕ) → test [] ≡ true → list_all test list ≡ true
    → test (get_or list n []) ≡ true
named test [] n none h = none
named test (x ∷ list) zero none h = (and_parts (test x) _ h).0
named test (x ∷ list) (suc n) none h = named test list n none (and_parts (test x) _ h).1

pub name_plain : (register : ℕ) → are_plain (name_of register) ≡ true
name_plain register = named are_plain names register refl refl

pub name_few : (register : ℕ) → length (name_of register) ≤ 4
name_few register = leb-true _ 4 (named (λ name. leb (length name) 4) names register refl refl)

digit_plain : (d : ℕ) → d < 16 → is_plain_byte (hex_digit d) ≡ true
digit_plain d below = agree_below_at (λ n. is_plain_byte (hex_digit n)) (λ n. true) 16 d refl below

last_digit : (n : ℕ) → n % 16 < 16
last_digit n = omega arith

pub digits_plain : (n : ℕ) → n < 2 ^ 32 → are_plain (eight_digits n) ≡ true
digits_plain n h = let first : n / 2 ^ 28 < 16 = omega (arith, h) in simp (digit_plain, last_digit)

target_plain : (pc offset : ℕ) → are_plain (eight_digits (sum pc offset)) ≡ true
target_plain pc offset = digits_plain (sum pc offset) (omega arith)

word_plain : (n : ℕ) → n < 2 ^ 32 → IsPlainWithin 300 (word_text n)
word_plain n h = record { plain = digits_plain n h; few = omega arith }

letter_plain : (bit : ℕ) (text : List ℕ) → are_plain text ≡ true → are_plain (letter bit text) ≡ true
letter_plain bit text h = if_keeps (λ (l : List ℕ). are_plain l ≡ true) (eqb bit 1) text [] (λ _. h) (λ _. refl)

letter_few : (bit : ℕ) (text : List ℕ) → length (letter bit text) ≤ length text
letter_few bit text = if_keeps (λ (l : List ℕ). length l ≤ length text) (eqb bit 1) text [] (λ _. omega arith) (λ _. omega arith)

-- ---- each instruction

fence_plain : (plain : Bool) (before after word : ℕ) (text : List ℕ) (Q : ℕ → Type 0) → Q word → word < 2 ^ 32
    → MatchBool plain (text ≡ with_two (codes "fence") (set_text before) (set_text after)) ((other : ℕ) → Q other → text ≡ word_text other)
    → IsPlainWithin 300 text
fence_plain true before after word text Q q small h =
    record { plain = rw h (simp (list_all-append, letter_plain)); few = omega (arith, ap length h, length-append {A = ℕ}, letter_few) }
fence_plain false before after word text Q q small h = rw (h word q) (word_plain word small)

instruction_plain : (i : Instr) (word pc : ℕ) (text : List ℕ) → word < 2 ^ 32 → Encodes i word → HasText i pc text → IsPlainWithin 300 text
instruction_plain (Fence fm before after rd rs1) word pc text s e h =
    fence_plain (is_plain_fence fm before after rd rs1) before after word text (Encodes (Fence fm before after rd rs1)) e s h
instruction_plain Ecall word pc text s e h = rw h (spelled 300 (codes "ecall") refl)
instruction_plain Ebreak word pc text s e h = rw h (spelled 300 (codes "ebreak") refl)
instruction_plain _ word pc text s e h = record {
  plain = rw h (simp (list_all-append, name_plain, decimal_plain, signed_plain, hexadecimal_plain, target_plain));
  few = omega (arith, ap length h, length-append {A = ℕ}, name_few, digits_few, signed_few);
}

word_text_plain : (word pc : ℕ) (text : List ℕ) → word < 2 ^ 32 → IsTextOf word pc text → IsPlainWithin 300 text
word_text_plain word pc text s (Coded i e h) = instruction_plain i word pc text s e h
word_text_plain word pc text s (Illegal none e) = rw e (word_plain word s)

-- that of a word at an address
pub disassembly_plain : (word pc : ℕ) → word < 2 ^ 32 → IsPlainWithin 300 (text_at word pc)
disassembly_plain word pc s = word_text_plain word pc (text_at word pc) s (text_at-is word pc)
