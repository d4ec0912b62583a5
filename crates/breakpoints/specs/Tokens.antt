-- The tokens of an expression.
--
-- A token is a word or a sign. A word is letters and digits, as many as follow each other: a number (decimal digits,
-- or `0x` and hexadecimal ones), the name of a register (RISC-V Unprivileged ISA 20191213, chapter 25), or `pc`.
-- Spaces and tabs may stand before, between and after tokens, and each token is the longest that fits: `<<` is one
-- sign, and `< <` are two.
use Rattle.std.specs.Prelude.{◌≡◌, ◌≢◌, ℕ, Bool, true, false, ◌==◌, ◌||◌, if◌then◌else◌, List, [], ◌∷◌, ◌++◌, Ok, codes}
use Rattle.std.specs.List.{list_all, list_any}
use Rattle.std.specs.Char.{is_ascii_digit, is_ascii_alphabetic}
use Rattle.byte_strings.specs.Blanks.{is_blank}
use Rattle.numerals.specs.Numerals.{magnitude}
use Rattle.rv32i.specs.Names.{Names}
use Rattle.breakpoints.specs.declared.token.Bracket.{Bracket}
use Rattle.breakpoints.specs.declared.token.Bracket.TheVariants.{Round, Square}
use Rattle.breakpoints.specs.declared.token.Infix.{Infix}
use Rattle.breakpoints.specs.declared.token.Infix.TheVariants.{OrElse, AndThen, Or, Xor, And, Equal, NotEqual, Less}
use Rattle.breakpoints.specs.declared.token.Infix.TheVariants.{LessEqual, Greater, GreaterEqual, ShiftLeft}
use Rattle.breakpoints.specs.declared.token.Infix.TheVariants.{ShiftRight, Plus, Minus, Times}
use Rattle.breakpoints.specs.declared.token.Token.{Token}
use Rattle.breakpoints.specs.declared.token.Token.TheVariants as t

-- the sign of an operator that stands between two operands
abbrev pub sign_of : Infix → List ℕ
sign_of OrElse = codes "||"
sign_of AndThen = codes "&&"
sign_of Or = codes "|"
sign_of Xor = codes "^"
sign_of And = codes "&"
sign_of Equal = codes "=="
sign_of NotEqual = codes "!="
sign_of Less = codes "<"
sign_of LessEqual = codes "<="
sign_of Greater = codes ">"
sign_of GreaterEqual = codes ">="
sign_of ShiftLeft = codes "<<"
sign_of ShiftRight = codes ">>"
sign_of Plus = codes "+"
sign_of Minus = codes "-"
sign_of Times = codes "*"

abbrev pub opening : Bracket → List ℕ
opening Round = codes "("
opening Square = codes "["

abbrev pub closing : Bracket → List ℕ
closing Round = codes ")"
closing Square = codes "]"

-- bytes spell a token
abbrev pub Spells : Token → List ℕ → Type 0
Spells (t.Number n) bytes = magnitude bytes ≡ Ok n
Spells (t.Register r) bytes = Names bytes r
Spells t.Pc bytes = bytes ≡ codes "pc"
Spells (t.Infix operator) bytes = bytes ≡ sign_of operator
Spells t.Tilde bytes = bytes ≡ codes "~"
Spells t.Bang bytes = bytes ≡ codes "!"
Spells (t.Open bracket) bytes = bytes ≡ opening bracket
Spells (t.Close bracket) bytes = bytes ≡ closing bracket

-- the bytes of words
abbrev pub is_word_byte : ℕ → Bool
is_word_byte b = is_ascii_digit b || is_ascii_alphabetic b

abbrev pub is_word : List ℕ → Bool
is_word [] = false
is_word (b ∷ bytes) = list_all is_word_byte (b ∷ bytes)

-- The signs, of one byte and of two; and `=`, which begins one and means nothing by itself.
abbrev pub is_sign_byte : ℕ → Bool
is_sign_byte a = list_any (λ c. a == c) (codes "|^&<>+-*~!()[]=")

abbrev pub is_sign_pair : ℕ → ℕ → Bool
is_sign_pair a b =
    if a == 124 then b == 124
    else if a == 38 then b == 38
    else if (a == 61) || (a == 33) then b == 61
    else if (a == 60) || (a == 62) then (b == a) || (b == 61)
    else false

abbrev pub is_sign : List ℕ → Bool
is_sign [] = false
is_sign (a ∷ []) = is_sign_byte a
is_sign (a ∷ b ∷ []) = is_sign_pair a b
is_sign (a ∷ b ∷ c ∷ more) = false

-- whether bytes are a word or a sign, whatever it may mean
abbrev pub is_lexeme : List ℕ → Bool
is_lexeme bytes = is_word bytes || is_sign bytes

-- bytes spell a token, and with more of what follows they would be neither a word nor a sign
pub record IsLongest (token : Token) (bytes rest : List ℕ) : Type 0 where
  pub spelled : Spells token bytes
  pub longest : (more after : List ℕ) → more ≢ [] → rest ≡ more ++ after → is_lexeme (bytes ++ more) ≡ false

abbrev pub AllBlank : List ℕ → Type 0
AllBlank text = list_all is_blank text ≡ true

-- a text begins with a token, after blanks, and this is the rest
pub record Begins (token : Token) (text rest : List ℕ) : Type 0 where
  pub blanks : List ℕ
  pub bytes : List ℕ
  pub blank : AllBlank blanks
  pub parts : text ≡ blanks ++ (bytes ++ rest)
  pub longest : IsLongest token bytes rest

-- a text is these tokens
abbrev pub IsTokens : List Token → List ℕ → Type 0
IsTokens [] text = AllBlank text
IsTokens (token ∷ tokens) text = (rest : List ℕ) × (Begins token text rest × IsTokens tokens rest)
