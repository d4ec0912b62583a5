-- What a text asks for, by how its digits are read.
use Rattle.std.proofs.Common.{◌≡◌, ℕ, ◌%◌, ◌<◌, ◌≤◌, ◌==◌, ◌&&◌, not, Bool, true, false, leb, List, [], ◌∷◌, length, Some, None}
use Rattle.std.proofs.Common.{Ok, Err, refl, arith, subst, sym, rules, cond}
use Rattle.std.proofs.lemmas.Bool.{ltb-true}
use Rattle.std.proofs.lemmas.Bool.Decides.{nat_tests}
use Rattle.std.specs.Char.{digit_value, is_digit}
use Rattle.std.specs.Cmp.Derive.{both_true}
use Rattle.std.specs.List.{list_all}
use Rattle.std.specs.Str.Parse.{AllDigits, IsNumeral, digits_value}
use Rattle.numerals.specs.Numerals.{numeral}
use Rattle.numerals.specs.declared.NumeralError.{NumeralError}
use Rattle.numerals.specs.declared.NumeralError.TheVariants.{Malformed, TooLarge}
use Rattle.options.specs.Memory.{Answers, IsOffered, is_offered}

both : (a b : Bool) → (a && b) ≡ true → (a ≡ true) × (b ≡ true)
both true b h = (refl, h)
both false b h = absurd (cc h)

all_digits : (text : List ℕ) → list_all (λ c. is_digit c 10) text ≡ true → AllDigits 10 text
all_digits [] h = search rules
all_digits (c ∷ cs) h =
    let (one, rest) = both (is_digit c 10) (list_all (λ c. is_digit c 10) cs) h in
    (ltb-true (digit_value c) 10 one, all_digits cs rest)

list_all_digits : (text : List ℕ) → AllDigits 10 text → list_all (λ c. is_digit c 10) text ≡ true
list_all_digits [] h = refl
list_all_digits (c ∷ cs) h =
    let small : digit_value c < 10 = h.0 in
    let one : is_digit c 10 ≡ true = grind (arith, nat_tests) in
    both_true one (list_all_digits cs h.1)

-- a numeral that 32 bits hold is read as its value
numeral-value : (text : List ℕ) → IsNumeral 10 text → digits_value 10 text ≤ 4294967295 → numeral 10 text ≡ Ok (digits_value 10 text)
numeral-value text h small =
    let some : 0 < length text = h.0 in
    let full : (length text == 0) ≡ false = grind (arith, nat_tests) in
    let fits : leb (digits_value 10 text) 4294967295 ≡ true = grind (arith, nat_tests) in
    rw (full, list_all_digits text h.1, fits) refl

-- what is read is the value of a numeral
numeral-ok : (text : List ℕ) (n : ℕ) → numeral 10 text ≡ Ok n → IsNumeral 10 text × (digits_value 10 text ≡ n)
numeral-ok text n h =
    let (passed, value) = ways (not (length text == 0) && list_all (λ c. is_digit c 10) text) (leb (digits_value 10 text) 4294967295) h in
    let (full, digits) = both (not (length text == 0)) (list_all (λ c. is_digit c 10) text) passed in
    ((grind (arith, nat_tests, full), all_digits text digits), value)
  where
    ways : (test fits : Bool) → cond test (cond fits (Ok (digits_value 10 text)) (Err TooLarge)) (Err Malformed) ≡ Ok n
        → (test ≡ true) × (digits_value 10 text ≡ n)
    ways true true e = (refl, cc e)
    ways true false e = absurd (cc e)
    ways false fits e = absurd (cc e)

-- the test says which numbers may be asked for
pub is_offered-true : (kib : ℕ) → is_offered kib ≡ true → IsOffered kib
is_offered-true kib passed =
    record { least = grind (arith, nat_tests); greatest = grind (arith, nat_tests); whole = grind (arith, nat_tests) }

is_offered-false : (kib : ℕ) → is_offered kib ≡ false → ¬ IsOffered kib
is_offered-false kib failed fits =
    let least : 4 ≤ kib = fits.least in
    let greatest : kib ≤ 16384 = fits.greatest in
    let whole : kib % 4 ≡ 0 = fits.whole in
    grind (arith, nat_tests)

-- what is answered is what the text asks for
pub answers_some : (text : List ℕ) (kib : ℕ) → numeral 10 text ≡ Ok kib → is_offered kib ≡ true → Answers text (Some kib)
answers_some text kib read passed =
    let (written, value) = numeral-ok text kib read in
    record { written = written; is_offered = subst IsOffered (sym value) (is_offered-true kib passed); value = sym value }

pub answers_none : (text : List ℕ) (kib : ℕ) → numeral 10 text ≡ Ok kib → is_offered kib ≡ false → Answers text None
answers_none text kib read failed other asks =
    let (written, value) = numeral-ok text kib read in
    is_offered-false kib failed (subst IsOffered value asks.is_offered)

pub answers_err : (text : List ℕ) (error : NumeralError) → numeral 10 text ≡ Err error → Answers text None
answers_err text error read kib asks =
    let fits : digits_value 10 text ≤ 16384 = asks.is_offered.greatest in
    let ok = numeral-value text asks.written (omega arith) in
    absurd (cc (ok, read))
