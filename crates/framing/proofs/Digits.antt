-- Digits, the number that they are, and the length that a value says.
use Rattle.framing.proofs.Common.{all_reverse, and_both, and_left, and_right, ap, arith, digit_value, digits_value, drop, false, get_or, is_ascii_digit, length, length-take, List, list_all, list_all-append, nat_tests, number_in, refl, reverse, SaysLength, Some, sym, take, take-append-drop, trimmed, true, ℕ, ◌*◌, ◌+◌, ◌-◌, ◌<◌, ◌∙◌, ◌≡◌, ◌≤◌}
use Rattle.byte_strings.proofs.Trimming.{bare, begins_blank, between, round}
use Rattle.std.proofs.lemmas.Int.Digits.{digits_value_more}
use Rattle.std.proofs.lemmas.Str.Parse.{digit_at, digits_value_short, IsNumeralModel, numerals_by_value}

digit_range : (c : ℕ) → is_ascii_digit c ≡ true → (48 ≤ c) × (c ≤ 57)
digit_range c h = grind (arith, nat_tests)

is_digit : (c : ℕ) → (48 ≤ c) × (c ≤ 57) → is_ascii_digit c ≡ true
is_digit c h = grind (arith, nat_tests)

digit_value_is : (c : ℕ) → 48 ≤ c → c ≤ 57 → digit_value c ≡ c - 48
digit_value_is c low high = grind (arith, nat_tests)

-- digits by a test of each byte are those of std
pub are_digits : IsNumeralModel (λ ds. list_all is_ascii_digit ds ≡ true) (digits_value 10)
are_digits = numerals_by_value (λ ds. list_all is_ascii_digit ds ≡ true) (record {
  empty = refl;
  parts = λ c cs h. (digit_range c (and_left (is_ascii_digit c) _ h), and_right (is_ascii_digit c) _ h);
  more = λ c cs r h. and_both _ _ (is_digit c r) h;
})

-- a step of the loop over at most ten digits
pub value_step : (digits : List ℕ) (i value : ℕ) → list_all is_ascii_digit digits ≡ true → length digits ≤ 10 → i < length digits
    → value ≡ digits_value 10 (take i digits)
    → (value < 10000000000) × (48 ≤ get_or digits i 0) × (get_or digits i 0 ≤ 57)
    × (value * 10 + (get_or digits i 0 - 48) ≡ digits_value 10 (take (i + 1) digits))
value_step digits i value h few l e =
    let r = digit_at digits i (are_digits.to digits h) l in
    let whole = sym (list_all-append is_ascii_digit (take i digits) (drop i digits))
    ∙ ap (list_all is_ascii_digit) (take-append-drop i digits) ∙ h in
    let short : length (take i digits) ≤ 10 = rw length-take (omega arith) in
    let small = digits_value_short are_digits (take i digits) 10 (and_left (list_all is_ascii_digit (take i digits)) _ whole) short in
    let digit : digit_value (get_or digits i 0) ≡ get_or digits i 0 - 48 = digit_value_is (get_or digits i 0) r.0 r.1 in
    (omega (arith, small, e), r.0, r.1, omega (arith, e, digit, digits_value_more 10 digits i l))

-- what a length field's value says
digits_begin : (digits : List ℕ) → list_all is_ascii_digit digits ≡ true → begins_blank digits ≡ false
digits_begin digits h = grind (arith, nat_tests)

number_is : (digits : List ℕ) (n : ℕ) → number_in digits ≡ Some n
    → (list_all is_ascii_digit digits ≡ true) × (0 < length digits) × (length digits ≤ 10) × (n ≡ digits_value 10 digits)
number_is digits n h = grind (arith, nat_tests)

is_number : (digits : List ℕ) (n : ℕ) → list_all is_ascii_digit digits ≡ true → 0 < length digits → length digits ≤ 10
    → n ≡ digits_value 10 digits → number_in digits ≡ Some n
is_number digits n each some few number = grind (arith, nat_tests)

pub says_from_number : (value : List ℕ) (n : ℕ) → number_in (trimmed value) ≡ Some n → SaysLength value n
says_from_number value n h =
    let t = round value in
    let r = number_is (trimmed value) n h in
    record {
      before = t.before;
      digits = trimmed value;
      after = t.after;
      spelled = t.parted;
      blank_before = t.blank_before;
      blank_after = t.blank_after;
      all_digits = r.0;
      some = r.1;
      few = r.2;
      number = r.3;
    }

pub number_from_says : (value : List ℕ) (n : ℕ) → SaysLength value n → number_in (trimmed value) ≡ Some n
number_from_says value n s =
    let last = digits_begin (reverse s.digits) (all_reverse is_ascii_digit s.digits s.all_digits) in
    ap number_in (ap trimmed s.spelled ∙ between s.before s.digits s.after s.blank_before s.blank_after
    (bare s.digits (digits_begin s.digits s.all_digits) last)) ∙ is_number s.digits n s.all_digits s.some s.few s.number
