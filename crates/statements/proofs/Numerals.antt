-- Numbers as texts: how they are read, and what is read as none.
use Rattle.statements.proofs.Common.{[], all_below_at, and_both, ap, arith, BadOperand, bits, bits_by, Bool, bytes_eq, bytes_eq-Decides, codes, cond-true, constant, Decides, Decides-and, Decides-ltb, digits, DigitsWrite, eight_digits, eqb-true, Err, false, hex_digit, if◌then◌else◌, inl, inr, is_name, IsNumber, IsOperand, IsShort, leb, length, List, list_all, magnitude_by, map, nat_tests, None, number_by, number_in, numeral, numeral_by, numeral_of, Ok, OutOfRange, prefixed, Puts, refl, signed, Some, stripped, sum, take, take-append-drop, true, within, WritesMagnitude, ℕ, ◌%◌, ◌&&◌, ◌*◌, ◌++◌, ◌+◌, ◌/◌, ◌<◌, ◌==◌, ◌^◌, ◌∙◌, ◌∷◌, ◌≡◌, ◌≤◌}
use Rattle.byte_strings.proofs.Below.{all_below}
use Rattle.numerals.specs.declared.NumeralError.TheVariants.{Malformed}
use Rattle.statements.specs.Operations.{lower_part, upper_part}
use Rattle.std.proofs.lemmas.Str.Parse.{digit_from_value}
use Rattle.std.specs.Char.{digit_value, is_digit}
use Rattle.std.specs.Str.Parse.{AllDigits, digits_value, digits_value_after}
use Rattle.statements.proofs.AnyOperands.{is_plain_byte, long_is, plain_operand}
use Rattle.statements.proofs.Fields.{cases_found}
use Rattle.statements.proofs.Runs.{all_weaker}
pub use Rattle.std.proofs.lemmas.Bool.{cond-true as chosen}

-- a prefix is what a text begins with
pub stripped_is : (prefix text v : List ℕ) → stripped prefix text ≡ Some v → text ≡ prefix ++ v
stripped_is prefix text v h =
    grind (arith, (bytes_eq-Decides (take (length prefix) text) prefix).0, take-append-drop (length prefix) text)

-- ---- the bytes of numbers

-- those of numbers and of names are no blank, comma, bracket or other sign but a minus
abbrev pub is_high : ℕ → Bool
is_high b = leb 45 b

abbrev pub High : List ℕ → Type 0
High text = (0 < length text) × (list_all is_high text ≡ true)

pub high_operand : (text : List ℕ) → High text → IsOperand text
high_operand text h =
    plain_operand text (and_both _ _ (long_is text h.0) (all_weaker is_high is_plain_byte (λ b k. grind (arith, nat_tests)) text h.1))

-- it has no prefix that begins with a percent sign
pub high_begins : (prefix text : List ℕ) → High text → bytes_eq (take 3 text) (37 ∷ prefix) ≡ false
high_begins prefix text h = grind (arith, nat_tests)

digits_high : (radix : ℕ) (ds : List ℕ) → radix ≤ 16 → AllDigits radix ds → list_all is_high ds ≡ true
digits_high radix [] l h = refl
digits_high radix (c ∷ ds) l h = grind (arith, nat_tests, digits_high radix ds l)

magnitude_high : (text : List ℕ) (n : ℕ) → WritesMagnitude text n → High text
magnitude_high text n (inl w) = (w.0.0, digits_high 10 text (omega arith) w.0.1)
magnitude_high text n (inr (digits, (e, w))) = rw e (omega arith, digits_high 16 digits (omega arith) w.0.1)

pub number_high : (text : List ℕ) (negative : Bool) (n : ℕ) → IsNumber text negative n → High text
number_high text false n h = magnitude_high text n h
number_high text true n (digits, (e, w)) = rw e (omega arith, (magnitude_high digits n w).1)

pub number_no_name : (text : List ℕ) (negative : Bool) (n : ℕ) → IsNumber text negative n → is_name text ≡ false
number_no_name text false n h = grind (arith, nat_tests, digit_from_value)
number_no_name text true n (digits, (e, w)) = rw e refl

-- ---- a number

digits_decide : (radix : ℕ) (ds : List ℕ) → Decides (list_all (λ c. is_digit c radix) ds) (AllDigits radix ds)
digits_decide radix [] = (λ h. tt, λ h. refl)
digits_decide radix (c ∷ ds) = Decides-and _ _ (Decides-ltb (digit_value c) radix) (digits_decide radix ds)

no_radix : (ds : List ℕ) → AllDigits 10 ds → prefixed ds ≡ None
no_radix ds h = grind (arith, nat_tests, digit_from_value)

numeral_value : (radix : ℕ) (ds : List ℕ) (n : ℕ) → DigitsWrite radix ds n → numeral radix ds ≡ within n
numeral_value radix ds n w = cond-true _ _ _ (and_both _ _ (long_is ds w.0.0) ((digits_decide radix ds).1 w.0.1)) ∙ ap within w.1

numeral_is : (text : List ℕ) (n : ℕ) → WritesMagnitude text n → numeral_of text ≡ within n
numeral_is text n (inl w) = ap (numeral_by text) (no_radix text w.0.1) ∙ numeral_value 10 text n w
numeral_is text n (inr (digits, (e, w))) = ap numeral_of e ∙ numeral_value 16 digits n w

without_minus : (text : List ℕ) (n : ℕ) → WritesMagnitude text n → stripped (codes "-") text ≡ None
without_minus text n h = grind (arith, nat_tests, digit_from_value)

pub number_is : (text : List ℕ) (negative : Bool) (n : ℕ) → IsNumber text negative n → number_in text ≡ signed negative (magnitude_by (within n))
number_is text false n h =
    ap (number_by text) (without_minus text n h) ∙ ap (λ x. signed false (magnitude_by x)) (numeral_is text n h)
number_is text true n (digits, (e, w)) = ap number_in e ∙ ap (λ x. signed true (magnitude_by x)) (numeral_is digits n w)

-- in its range it is its bits, and else it is out of range
pub bits_inside : (below above n : ℕ) (negative : Bool) → (leb below 4294967295 && leb above 4294967295) ≡ true
    → n ≤ (if negative then below else above) → bits_by below above (signed negative (magnitude_by (within n))) ≡ Ok (bits negative n)
bits_inside below above n negative f l = grind (arith, nat_tests)

pub bits_past : (below above n : ℕ) (negative : Bool) → (if negative then below else above) < n
    → bits_by below above (signed negative (magnitude_by (within n))) ≡ Err OutOfRange
bits_past below above n negative l = grind (arith, nat_tests)

-- ---- no number

numeral_none : (radix : ℕ) (ds : List ℕ) → ((n : ℕ) → DigitsWrite radix ds n → ⊥) → numeral radix ds ≡ Err Malformed
numeral_none radix ds h = grind (arith, nat_tests, (digits_decide radix ds).0, h (digits_value radix ds))

prefixed_is : (text ds : List ℕ) → prefixed text ≡ Some ds → text ≡ 48 ∷ 120 ∷ ds
prefixed_is text ds h = grind (arith, nat_tests)

magnitude_none : (text : List ℕ) → ((n : ℕ) → WritesMagnitude text n → ⊥) → numeral_of text ≡ Err Malformed
magnitude_none text h =
    cases_found (λ o. numeral_by text o ≡ Err Malformed) (prefixed text) (λ e. numeral_none 10 text (λ n w. h n (inl w)))
    (λ ds e. numeral_none 16 ds (λ n w. h n (inr (ds, (prefixed_is text ds e, w)))))

pub number_none : (text : List ℕ) → ((negative : Bool) (n : ℕ) → IsNumber text negative n → ⊥) → number_in text ≡ Err BadOperand
number_none text h =
    cases_found (λ o. number_by text o ≡ Err BadOperand) (stripped (codes "-") text)
    (λ e. ap (λ x. signed false (magnitude_by x)) (magnitude_none text (λ n w. h false n w)))
    (λ digits e. ap (λ x. signed true (magnitude_by x))
    (magnitude_none digits (λ n w. h true n (digits, (stripped_is (codes "-") text digits e, w)))))

-- ---- digits in hexadecimal

value_at : (d : ℕ) → d < 16 → digit_value (hex_digit d) ≡ d
unfolding all_below
value_at d l = eqb-true (digit_value (hex_digit d)) d (all_below_at (λ d. digit_value (hex_digit d) == d) 16 d refl l)

-- numbers below 16, and what they are as digits
abbrev Nibbles : List ℕ → Type 0
Nibbles [] = Unit {0}
Nibbles (d ∷ ds) = (d < 16) × Nibbles ds

abbrev value_after : ℕ → List ℕ → ℕ
value_after n [] = n
value_after n (d ∷ ds) = value_after (n * 16 + d) ds

nibbles_write : (n : ℕ) (ds : List ℕ) → Nibbles ds
    → AllDigits 16 (map hex_digit ds) × (digits_value_after 16 n (map hex_digit ds) ≡ value_after n ds)
nibbles_write n [] h = (tt, refl)
nibbles_write n (d ∷ ds) h =
    let others = nibbles_write (n * 16 + d) ds h.1 in
    ((rw (value_at d h.0) h.0, others.0), ap (λ v. digits_value_after 16 (n * 16 + v) (map hex_digit ds)) (value_at d h.0) ∙ others.1)

pub eight_write : (n : ℕ) → n < 2 ^ 32 → DigitsWrite 16 (eight_digits n) n
eight_write n l =
    let low : (m : ℕ) → m % 16 < 16 = λ m. omega arith in
    let w = nibbles_write 0 (n / 2 ^ 28 ∷ n / 2 ^ 24 % 16 ∷ n / 2 ^ 20 % 16 ∷ n / 2 ^ 16 % 16 ∷ n / 2 ^ 12 % 16 ∷ n / 2 ^ 8 % 16
    ∷ n / 2 ^ 4 % 16 ∷ n % 16 ∷ []) (omega arith, (low _, (low _, (low _, (low _, (low _, (low _, (low _, tt)))))))) in
    ((omega arith, w.0), w.1 ∙ omega arith)

-- ---- constants

pub lower_short : (n : ℕ) → IsShort (lower_part n)
lower_short n = grind (arith, nat_tests)

pub parts_add : (n : ℕ) → n < 2 ^ 32 → sum (upper_part n) (lower_part n) ≡ n
parts_add n l = grind (arith, nat_tests)

pub upper_whole : (n : ℕ) → upper_part n % 4096 ≡ 0
upper_whole n = omega arith

pub puts : (register n : ℕ) → n < 2 ^ 32 → Puts register n (constant register n)
puts register n l = grind (arith, nat_tests, lower_short n, parts_add n l, upper_whole n)
