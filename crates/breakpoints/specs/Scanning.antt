-- How a text is divided, as a function: for private clauses, and for `Expressions` of `answers`.
--
-- A word or a sign continues as long as it can; where it can't, the next one begins, or there is a blank.
use Rattle.std.specs.Prelude.{◌≡◌, ℕ, Bool, true, false, ◌==◌, if◌then◌else◌, List, [], ◌∷◌, ◌++◌, Option, Some, None}
use Rattle.std.specs.Prelude.{MatchOption, ⊤}
use Rattle.byte_strings.specs.Blanks.{is_blank}
use Rattle.breakpoints.specs.Tokens.{Spells, is_lexeme}
use Rattle.breakpoints.specs.declared.token.Bracket.TheVariants.{Round, Square}
use Rattle.breakpoints.specs.declared.token.Infix.TheVariants.{OrElse, AndThen, Or, Xor, And, Equal, NotEqual, Less}
use Rattle.breakpoints.specs.declared.token.Infix.TheVariants.{LessEqual, Greater, GreaterEqual, ShiftLeft}
use Rattle.breakpoints.specs.declared.token.Infix.TheVariants.{ShiftRight, Plus, Minus, Times}
use Rattle.breakpoints.specs.declared.token.Token.{Token}
use Rattle.breakpoints.specs.declared.token.Token.TheVariants as t

-- the token of a sign of one byte, and of two
abbrev pub sign_of_byte : ℕ → Option Token
sign_of_byte a =
    if a == 124 then Some (t.Infix Or)
    else if a == 94 then Some (t.Infix Xor)
    else if a == 38 then Some (t.Infix And)
    else if a == 60 then Some (t.Infix Less)
    else if a == 62 then Some (t.Infix Greater)
    else if a == 43 then Some (t.Infix Plus)
    else if a == 45 then Some (t.Infix Minus)
    else if a == 42 then Some (t.Infix Times)
    else if a == 126 then Some t.Tilde
    else if a == 33 then Some t.Bang
    else if a == 40 then Some (t.Open Round)
    else if a == 41 then Some (t.Close Round)
    else if a == 91 then Some (t.Open Square)
    else if a == 93 then Some (t.Close Square)
    else None

abbrev pub sign_of_pair : ℕ → ℕ → Option Token
sign_of_pair a b =
    if a == 124 then (if b == 124 then Some (t.Infix OrElse) else None)
    else if a == 38 then (if b == 38 then Some (t.Infix AndThen) else None)
    else if a == 61 then (if b == 61 then Some (t.Infix Equal) else None)
    else if a == 33 then (if b == 61 then Some (t.Infix NotEqual) else None)
    else if a == 60 then
    (if b == 60 then Some (t.Infix ShiftLeft) else if b == 61 then Some (t.Infix LessEqual) else None)
    else if a == 62 then
    (if b == 62 then Some (t.Infix ShiftRight) else if b == 61 then Some (t.Infix GreaterEqual) else None)
    else None

abbrev pub sign_in : List ℕ → Option Token
sign_in [] = None
sign_in (a ∷ []) = sign_of_byte a
sign_in (a ∷ b ∷ []) = sign_of_pair a b
sign_in (a ∷ b ∷ c ∷ more) = None

-- what bytes spell, or that they spell no token
abbrev pub SpellsOrNot : List ℕ → Option Token → Type 0
SpellsOrNot bytes found = MatchOption found ((token : Token) → Spells token bytes → ⊥) (λ token. Spells token bytes)

-- the words and signs of a text, the first of them begun already with these bytes
abbrev pub with_first : List ℕ → List (List ℕ) → List (List ℕ)
with_first [] rest = rest
with_first (b ∷ bytes) rest = (b ∷ bytes) ∷ rest

abbrev pub lexemes : List ℕ → List ℕ → List (List ℕ)
lexemes begun [] = with_first begun []
lexemes begun (b ∷ text) =
    if is_lexeme (begun ++ b ∷ []) then lexemes (begun ++ b ∷ []) text
    else with_first begun (if is_blank b then lexemes [] text else lexemes (b ∷ []) text)

-- each of these tokens is spelled by the lexeme at its place
abbrev pub Spelled : List Token → List (List ℕ) → Type 0
Spelled [] [] = ⊤
Spelled (token ∷ tokens) (bytes ∷ others) = Spells token bytes × Spelled tokens others
Spelled [] (bytes ∷ others) = ⊥
Spelled (token ∷ tokens) [] = ⊥

-- the tokens that a text is divided into, or that it has a lexeme that spells none
abbrev pub SpelledOrNot : List ℕ → Option (List Token) → Type 0
SpelledOrNot text found =
    MatchOption found ((tokens : List Token) → Spelled tokens (lexemes [] text) → ⊥)
    (λ tokens. Spelled tokens (lexemes [] text))

-- How far a text was read: these tokens are spelled by lexemes of it, and this is what is left: bytes that have
-- begun one, and more.
pub record SoFar (text : List ℕ) (tokens : List Token) (begun rest : List ℕ) : Type 0 where
  pub done : List (List ℕ)
  pub spelled : Spelled tokens done
  pub left : lexemes [] text ≡ done ++ lexemes begun rest

-- a lexeme has ended: the token that it spells is appended, or it spells none; none may have begun
abbrev pub Takes : List ℕ → List Token → List Token → Bool → Type 0
Takes [] old new taken = (taken ≡ true) × (new ≡ old)
Takes (b ∷ bytes) old new true = (token : Token) × ((new ≡ old ++ token ∷ []) × Spells token (b ∷ bytes))
Takes (b ∷ bytes) old new false = (token : Token) → Spells token (b ∷ bytes) → ⊥
