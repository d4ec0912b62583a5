-- Words and signs: what they begin with, and what spells a token.
use Rattle.breakpoints.proofs.Common.{[], and_from, and_parts, ap, arith, Bool, Bracket, closing, cond, eqb-true, Err, false, Infix, inl, inr, is_blank, is_lexeme, is_sign, is_sign_byte, is_sign_pair, is_word, is_word_byte, length, List, Names, None, not, Ok, opening, or_left, or_right, OrElse, refl, Round, sign_of, Some, Spells, Square, sym, Token, true, ℕ, ◌&&◌, ◌++◌, ◌==◌, ◌||◌, ◌∙◌, ◌∷◌, ◌≡◌, ◌≤◌, ◌⊎◌}
use Rattle.std.specs.Char.{is_digit}
use Rattle.std.specs.Str.Parse.{digits_value}
use Rattle.numerals.specs.declared.NumeralError.TheVariants.{Malformed}
use Rattle.std.specs.List.{list_all}
use Rattle.std.proofs.lemmas.Bool.Decides.{nat_tests}
use Rattle.numerals.specs.Numerals.{magnitude, magnitude_by, numeral, within}
use Rattle.breakpoints.specs.declared.token.Token.TheVariants as t
use Rattle.breakpoints.proofs.Words.{named_passes}
use Rattle.byte_strings.proofs.Below.{all_below}

-- ---- choices

pub either : (x y : Bool) → (x || y) ≡ true → (x ≡ true) ⊎ (y ≡ true)
either true y h = inl refl
either false y h = inr h

-- ---- what a lexeme begins with is one

word_begins : (p : List ℕ) (b : ℕ) (more : List ℕ) → is_word (p ++ b ∷ more) ≡ true → is_word (p ++ b ∷ []) ≡ true
word_begins [] b more h = and_from (is_word_byte b) true (and_parts (is_word_byte b) _ h).0 refl
word_begins (a ∷ p) b more h =
    and_from (is_word_byte a) _ (and_parts (is_word_byte a) _ h).0 (go p (and_parts (is_word_byte a) _ h).1) where
      go : (q : List ℕ) → list_all is_word_byte (q ++ b ∷ more) ≡ true → list_all is_word_byte (q ++ b ∷ []) ≡ true
      go [] e = and_from (is_word_byte b) true (and_parts (is_word_byte b) _ e).0 refl
      go (c ∷ q) e = and_from (is_word_byte c) _ (and_parts (is_word_byte c) _ e).0 (go q (and_parts (is_word_byte c) _ e).1)

pair_begins : (a b : ℕ) → is_sign_pair a b ≡ true → is_sign_byte a ≡ true
pair_begins a b h = grind (arith, nat_tests)

sign_begins : (p : List ℕ) (b : ℕ) (more : List ℕ) → is_sign (p ++ b ∷ more) ≡ true → is_sign (p ++ b ∷ []) ≡ true
sign_begins [] b [] h = h
sign_begins [] b (c ∷ []) h = pair_begins b c h
sign_begins [] b (c ∷ d ∷ more) h = cc
sign_begins (a ∷ []) b [] h = h
sign_begins (a ∷ []) b (c ∷ more) h = cc
sign_begins (a ∷ c ∷ []) b more h = cc
sign_begins (a ∷ c ∷ d ∷ p) b more h = cc

pub lexeme_begins : (p : List ℕ) (b : ℕ) (more : List ℕ) → is_lexeme (p ++ b ∷ more) ≡ true → is_lexeme (p ++ b ∷ []) ≡ true
lexeme_begins p b more h =
    let P : Type 0 = is_lexeme (p ++ b ∷ []) ≡ true in
    elim (either (is_word (p ++ b ∷ more)) (is_sign (p ++ b ∷ more)) h) as (λ _. P) [
      | inl w ↦ or_left (is_word (p ++ b ∷ [])) _ (word_begins p b more w)
      | inr s ↦ or_right (is_word (p ++ b ∷ [])) _ (sign_begins p b more s)
    ]

-- a blank is none
pub blank_is_none : (b : ℕ) → is_blank b ≡ true → is_lexeme (b ∷ []) ≡ false
blank_is_none b h =
    let P : Type 0 = is_lexeme (b ∷ []) ≡ false in
    elim (either (b == 32) (b == 9) h) as (λ _. P) [
      | inl e ↦ ap (λ x. is_lexeme (x ∷ [])) (eqb-true b 32 e)
      | inr e ↦ ap (λ x. is_lexeme (x ∷ [])) (eqb-true b 9 e)
    ]

-- ---- what spells a token is one

digit_is_word_byte : (c radix : ℕ) → radix ≤ 16 → is_digit c radix ≡ true → is_word_byte c ≡ true
digit_is_word_byte c radix h d = grind (arith, nat_tests)

digits_are_word : (radix : ℕ) (digits : List ℕ) → radix ≤ 16 → list_all (λ c. is_digit c radix) digits ≡ true
    → list_all is_word_byte digits ≡ true
digits_are_word radix [] h d = refl
digits_are_word radix (c ∷ digits) h d =
    let parts = and_parts (is_digit c radix) _ d in
    and_from (is_word_byte c) _ (digit_is_word_byte c radix h parts.0) (digits_are_word radix digits h parts.1)

numeral_digits : (radix : ℕ) (digits : List ℕ) (n : ℕ) → radix ≤ 16 → numeral radix digits ≡ Ok n
    → (not (length digits == 0) ≡ true) × (list_all is_word_byte digits ≡ true)
numeral_digits radix digits n h e =
    let test = not (length digits == 0) && list_all (λ c. is_digit c radix) digits in
    let parts : test ≡ true = passes test e in
    let both = and_parts (not (length digits == 0)) _ parts in
    (both.0, digits_are_word radix digits h both.1)
  where
    passes : (test : Bool) → cond test (within (digits_value radix digits)) (Err Malformed) ≡ Ok n → test ≡ true
    passes true x = refl
    passes false x = cc

numeral_word : (radix : ℕ) (digits : List ℕ) (n : ℕ) → radix ≤ 16 → numeral radix digits ≡ Ok n → is_word digits ≡ true
numeral_word radix [] n h e = let never : true ≡ false = sym (numeral_digits radix [] n h e).0 in cc
numeral_word radix (c ∷ digits) n h e = (numeral_digits radix (c ∷ digits) n h e).1

number_word : (bytes : List ℕ) (n : ℕ) → magnitude bytes ≡ Ok n → is_word bytes ≡ true
number_word [] n e = numeral_word 10 [] n (omega arith) e
number_word (a ∷ []) n e = numeral_word 10 (a ∷ []) n (omega arith) e
number_word (a ∷ b ∷ digits) n e = go ((a == 48) && (b == 120)) refl e where
  go : (t : Bool) → ((a == 48) && (b == 120)) ≡ t → magnitude_by (a ∷ b ∷ digits) (cond t (Some digits) None) ≡ Ok n
      → is_word (a ∷ b ∷ digits) ≡ true
  go true t x =
      let parts = and_parts (a == 48) (b == 120) t in
      let rest : list_all is_word_byte digits ≡ true = (numeral_digits 16 digits n (omega arith) x).1 in
      rw (eqb-true a 48 parts.0) (rw (eqb-true b 120 parts.1) rest)
  go false t x = numeral_word 10 (a ∷ b ∷ digits) n (omega arith) x

word_lexeme : (bytes : List ℕ) → is_word bytes ≡ true → is_lexeme bytes ≡ true
word_lexeme bytes h = or_left (is_word bytes) _ h

register_lexeme : (bytes : List ℕ) (r : ℕ) → Names bytes r → is_lexeme bytes ≡ true
unfolding all_below
register_lexeme bytes r h = named_passes is_lexeme refl refl bytes r h

infix_lexeme : (operator : Infix) → is_lexeme (sign_of operator) ≡ true
infix_lexeme OrElse = refl
infix_lexeme _ = refl

open_lexeme : (bracket : Bracket) → is_lexeme (opening bracket) ≡ true
open_lexeme Round = refl
open_lexeme Square = refl

close_lexeme : (bracket : Bracket) → is_lexeme (closing bracket) ≡ true
close_lexeme Round = refl
close_lexeme Square = refl

pub token_lexeme : (token : Token) (bytes : List ℕ) → Spells token bytes → is_lexeme bytes ≡ true
token_lexeme (t.Number n) bytes h = word_lexeme bytes (number_word bytes n h)
token_lexeme (t.Register r) bytes h = register_lexeme bytes r h
token_lexeme t.Pc bytes h = ap is_lexeme h
token_lexeme (t.Infix operator) bytes h = ap is_lexeme h ∙ infix_lexeme operator
token_lexeme t.Tilde bytes h = ap is_lexeme h
token_lexeme t.Bang bytes h = ap is_lexeme h
token_lexeme (t.Open bracket) bytes h = ap is_lexeme h ∙ open_lexeme bracket
token_lexeme (t.Close bracket) bytes h = ap is_lexeme h ∙ close_lexeme bracket
