-- The value that a text writes is a word.
use Rattle.range_laws.proofs.Common.{[], Bool, cond, difference, eqb, Err, false, IfOk, IfSome, IsWord, length, List, nat_le, None, Ok, Option, Result, Some, true, ℕ, ◌∷◌}
use Rattle.std.specs.Result.{result_ok}
use Rattle.numerals.specs.Numerals.{numeral, prefixed}
use Rattle.numerals.specs.Words.{word_by, word_of}
use Rattle.numerals.specs.declared.NumeralError.{NumeralError}
use Rattle.variables.specs.Values.{if_signed, negated}
use Rattle.range_laws.specs.Requests.{RegistersStayInRange, TextsGiveWords}
use Rattle.range_laws.proofs.Values.{numeral_word}
use Rattle.range_laws.proofs.Words.{difference_word, registers_in_range}

ok_word : (r : Result ℕ NumeralError) → IfOk r IsWord → IfSome (result_ok r) IsWord
ok_word (Ok n) h = h
ok_word (Err error) h = tt

signed_word : (magnitude : Option ℕ) → IfSome (if_signed magnitude) IsWord
signed_word None = tt
signed_word (Some n) = by (nat_le n 2147483648) where
  by : (b : Bool) → IfSome (cond b (Some (difference 0 n)) None) IsWord
  by true = difference_word 0 n
  by false = tt

word_by_word : (text : List ℕ) (digits : Option (List ℕ)) → IfSome (word_by text digits) IsWord
word_by_word text (Some digits) = by (nat_le (length digits) 8) where
  by : (b : Bool) → IfSome (cond b (result_ok (numeral 16 digits)) None) IsWord
  by true = ok_word (numeral 16 digits) (numeral_word 16 digits)
  by false = tt
word_by_word text None = ok_word (numeral 10 text) (numeral_word 10 text)

pub texts_give_words : TextsGiveWords
texts_give_words [] = tt
texts_give_words (sign ∷ digits) = by (eqb sign 45) where
  by : (b : Bool) → IfSome (cond b (negated digits) (word_of (sign ∷ digits))) IsWord
  by true = signed_word (result_ok (numeral 10 digits))
  by false = word_by_word (sign ∷ digits) (prefixed (sign ∷ digits))

pub registers_stay_in_range : RegistersStayInRange
registers_stay_in_range x number value w h = registers_in_range number value x w h
