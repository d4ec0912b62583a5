-- The value of an expression is a word.
use Rattle.range_laws.proofs.Common.{[], AreBytes, arith, Bool, bytes_at, cond, Err, false, flag, has_bytes, IfOk, IsWord, length, List, lit<, little_endian, nat_le, nat_tests, None, not, Ok, Option, places, refl, Result, Some, subst, true, ℕ, ◌&&◌, ◌*◌, ◌++◌, ◌<◌, ◌==◌, ◌∷◌, ◌≡◌}
use Rattle.std.specs.Char.{is_digit}
use Rattle.std.specs.List.{list_all}
use Rattle.std.specs.Str.Parse.{digits_value}
use Rattle.numerals.specs.Numerals.{magnitude, magnitude_by, numeral, prefixed, within}
use Rattle.numerals.specs.declared.NumeralError.{NumeralError}
use Rattle.numerals.specs.declared.NumeralError.TheVariants.{Malformed, TooLarge}
use Rattle.breakpoints.specs.Tokens.{IsTokens, Spells}
use Rattle.breakpoints.specs.Trees.{Tree, Number, Register, Pc, Unary, Binary, Enclosed, tokens_of}
use Rattle.breakpoints.specs.Values.{Valued, before, between, decides, enclosed, is_true, value_of, with_value, word_anywhere}
use Rattle.breakpoints.specs.declared.error.ExprFault.{ExprFault}
use Rattle.breakpoints.specs.declared.error.ExprFault.TheVariants.{Outside}
use Rattle.breakpoints.specs.declared.token.Bracket.{Bracket}
use Rattle.breakpoints.specs.declared.token.Bracket.TheVariants.{Round, Square}
use Rattle.breakpoints.specs.declared.token.Infix.{Infix}
use Rattle.breakpoints.specs.declared.token.Infix.TheVariants.{OrElse, AndThen, Or, Xor, And, Equal, NotEqual, Less, LessEqual, Greater, GreaterEqual, ShiftLeft, ShiftRight, Plus, Minus, Times}
use Rattle.breakpoints.specs.declared.token.Prefix.{Prefix}
use Rattle.breakpoints.specs.declared.token.Prefix.TheVariants.{Negate, Complement, Not}
use Rattle.breakpoints.specs.declared.token.Token.{Token}
use Rattle.breakpoints.specs.declared.token.Token.TheVariants as t
use Rattle.range_laws.specs.Values.{HasWords, TreesHaveWords, ValuesAreWords}
use Rattle.range_laws.proofs.Words.{and_word, difference_word, flag_word, left_word, or_word, register_word, right_word, sum_word, word_read, wrapped, xor_word}

-- ---- numbers

within_word : (n : ℕ) → IfOk (within n) IsWord
within_word n = by (nat_le n 4294967295) refl where
  by : (b : Bool) → nat_le n 4294967295 ≡ b → IfOk {E = NumeralError} (cond b (Ok n) (Err TooLarge)) IsWord
  by true e = let small : n < 4294967296 = grind (arith, nat_tests) in small
  by false e = tt

pub numeral_word : (radix : ℕ) (digits : List ℕ) → IfOk (numeral radix digits) IsWord
numeral_word radix digits = by (not (length digits == 0) && list_all (λ c. is_digit c radix) digits) where
  by : (b : Bool) → IfOk (cond b (within (digits_value radix digits)) (Err Malformed)) IsWord
  by true = within_word (digits_value radix digits)
  by false = tt

magnitude_word : (text : List ℕ) → IfOk (magnitude text) IsWord
magnitude_word text = by (prefixed text) where
  by : (digits : Option (List ℕ)) → IfOk (magnitude_by text digits) IsWord
  by (Some digits) = numeral_word 16 digits
  by None = numeral_word 10 text

-- ---- tokens

abbrev Fits : Token → Type 0
Fits (t.Number n) = IsWord n
Fits other = Unit {0}

abbrev AllFit : List Token → Type 0
AllFit [] = Unit {0}
AllFit (token ∷ tokens) = Fits token × AllFit tokens

spelled_fits : (token : Token) (bytes : List ℕ) → Spells token bytes → Fits token
spelled_fits (t.Number n) bytes h = subst (λ (r : Result ℕ NumeralError). IfOk r IsWord) h (magnitude_word bytes)
spelled_fits other bytes h = tt

tokens_fit : (tokens : List Token) (text : List ℕ) → IsTokens tokens text → AllFit tokens
tokens_fit [] text h = tt
tokens_fit (token ∷ tokens) text (rest, (begins, more)) =
    (spelled_fits token begins.bytes begins.longest.spelled, tokens_fit tokens rest more)

fit_parts : (first later : List Token) → AllFit (first ++ later) → AllFit first × AllFit later
fit_parts [] later h = (tt, h)
fit_parts (token ∷ first) later h = let rest = fit_parts first later h.1 in ((h.0, rest.0), rest.1)

tree_words : (tree : Tree) → AllFit (tokens_of tree) → HasWords tree
tree_words (Number n) h = h.0
tree_words (Register r) h = tt
tree_words Pc h = tt
tree_words (Unary operator operand) h = tree_words operand h.1
tree_words (Binary operator left right) h =
    let both = fit_parts (tokens_of left) (t.Infix operator ∷ tokens_of right) h in
    (tree_words left both.0, tree_words right both.1.1)
tree_words (Enclosed bracket inner) h = let both = fit_parts (tokens_of inner) (t.Close bracket ∷ []) h.1 in tree_words inner both.0

pub trees_have_words : TreesHaveWords
trees_have_words text tree h = tree_words tree (tokens_fit (tokens_of tree) text h.tokens)

-- ---- operators

before_word : (operator : Prefix) (v : ℕ) → IsWord v → IsWord (before operator v)
before_word Negate v h = difference_word 0 v
before_word Complement v h = xor_word v 0xffffffff h (lit< tt)
before_word Not v h = flag_word (v == 0)

between_word : (operator : Infix) (a b : ℕ) → IsWord a → IsWord b → IsWord (between operator a b)
between_word OrElse a b h k = flag_word (is_true b)
between_word AndThen a b h k = flag_word (is_true b)
between_word Or a b h k = or_word a b h k
between_word Xor a b h k = xor_word a b h k
between_word And a b h k = and_word a b h k
between_word ShiftLeft a b h k = left_word a (places b)
between_word ShiftRight a b h k = right_word a (places b) h
between_word Plus a b h k = sum_word a b
between_word Minus a b h k = difference_word a b
between_word Times a b h k = wrapped (a * b)
between_word _ a b h k = flag_word _

-- ---- values

with_value_word : (v : Valued) (f : ℕ → Valued) → IfOk v IsWord → ((n : ℕ) → IsWord n → IfOk (f n) IsWord) → IfOk (with_value v f) IsWord
with_value_word (Ok n) f h k = k n h
with_value_word (Err fault) f h k = tt

pub word_anywhere_word : (memory : List ℕ) (address : ℕ) → AreBytes memory → IfOk (word_anywhere memory address) IsWord
word_anywhere_word memory address h = by (has_bytes memory address 4) where
  by : (b : Bool) → IfOk {E = ExprFault} (cond b (Ok (little_endian (bytes_at memory address 4))) (Err Outside)) IsWord
  by true = word_read memory address h
  by false = tt

enclosed_word : (bracket : Bracket) (memory : List ℕ) (v : ℕ) → AreBytes memory → IsWord v → IfOk (enclosed bracket memory v) IsWord
enclosed_word Round memory v h w = w
enclosed_word Square memory v h w = word_anywhere_word memory v h

pub values_are_words : ValuesAreWords
values_are_words (Number n) hart memory w h = w
values_are_words (Register r) hart memory w h = register_word hart.x r h.x.words
values_are_words Pc hart memory w h = h.pc
values_are_words (Unary operator operand) hart memory w h =
    with_value_word (value_of operand hart memory) (λ v. Ok (before operator v)) (values_are_words operand hart memory w h)
    (λ n k. before_word operator n k)
values_are_words (Binary operator left right) hart memory w h =
    with_value_word (value_of left hart memory)
    (λ a. cond (decides operator a) (Ok (flag (is_true a))) (with_value (value_of right hart memory) (λ b. Ok (between operator a b))))
    (values_are_words left hart memory w.0 h) (λ a k. by_test a k (values_are_words right hart memory w.1 h) (decides operator a))
  where
    by_test : (a : ℕ) → IsWord a → IfOk (value_of right hart memory) IsWord → (b : Bool)
        → IfOk {E = ExprFault} (cond b (Ok (flag (is_true a))) (with_value (value_of right hart memory) (λ b. Ok (between operator a b)))) IsWord
    by_test a k r true = flag_word (is_true a)
    by_test a k r false =
        with_value_word (value_of right hart memory) (λ b. Ok (between operator a b)) r (λ b l. between_word operator a b k l)
values_are_words (Enclosed bracket inner) hart memory w h =
    with_value_word (value_of inner hart memory) (enclosed bracket memory) (values_are_words inner hart memory w h)
    (λ n k. enclosed_word bracket memory n h.memory k)
