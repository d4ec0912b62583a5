-- Which expression a text is.
--
-- `breakpoints` says by rules when a text is read by a tree (`Texts.IsTreeOf`). As answers are functions of what was
-- asked, the same is said here as a function: the text is divided into words and signs, each of these is the token that
-- it spells, and the tokens lead to their tree. The law `Laws.ExpressionsAreRead` says that this is the tree by the
-- rules, if one exists within the limits, and that otherwise no tree does.
use Rattle.std.specs.Prelude.{ℕ, zero, suc, Bool, false, ◌==◌, ◌≤◌, nat_le, nat_lt, ◌&&◌, ◌||◌}
use Rattle.std.specs.Prelude.{if◌then◌else◌, List, [], ◌∷◌, length, find, Option, Some, None, Result, Ok, Err, bytes_eq}
use Rattle.std.specs.Prelude.{codes}
use Rattle.numerals.specs.Numerals.{magnitude}
use Rattle.numerals.specs.declared.NumeralError.{NumeralError}
use Rattle.rv32i.specs.Names.{name_of, numbered_name_of}
use Rattle.breakpoints.specs.Scanning.{lexemes}
use Rattle.breakpoints.specs.Shifting.{parsed}
use Rattle.breakpoints.specs.Texts.{IsTreeOf}
use Rattle.breakpoints.specs.Tokens.{closing, opening, sign_of}
use Rattle.breakpoints.specs.Trees.{Tree, nesting}
use Rattle.breakpoints.specs.declared.token.Bracket.TheVariants.{Round, Square}
use Rattle.breakpoints.specs.declared.token.Infix.TheVariants.{OrElse, AndThen, Or, Xor, And, Equal, NotEqual, Less}
use Rattle.breakpoints.specs.declared.token.Infix.TheVariants.{LessEqual, Greater, GreaterEqual, ShiftLeft}
use Rattle.breakpoints.specs.declared.token.Infix.TheVariants.{ShiftRight, Plus, Minus, Times}
use Rattle.breakpoints.specs.declared.token.Token.{Token}
use Rattle.breakpoints.specs.declared.token.Token.TheVariants as t

-- a text is the expression that this tree is: at most 1,024 bytes, which nest at most 64 deep
abbrev pub IsExpression : List ℕ → Tree → Type 0
IsExpression text tree = (length text ≤ 1024) × (IsTreeOf text tree × (nesting tree ≤ 64))

-- ---- the token that bytes spell

abbrev pub is_number : Result ℕ NumeralError → ℕ → Bool
is_number (Ok m) n = m == n
is_number (Err error) n = false

-- whether bytes name a register
abbrev pub names : List ℕ → ℕ → Bool
names bytes r = nat_lt r 32
    && (bytes_eq bytes (name_of r)
    || (bytes_eq bytes (numbered_name_of r) || (bytes_eq bytes (codes "fp") && (r == 8))))

-- whether bytes spell a token
abbrev pub spells : List ℕ → Token → Bool
spells bytes (t.Number n) = is_number (magnitude bytes) n
spells bytes (t.Register r) = names bytes r
spells bytes t.Pc = bytes_eq bytes (codes "pc")
spells bytes (t.Infix operator) = bytes_eq bytes (sign_of operator)
spells bytes t.Tilde = bytes_eq bytes (codes "~")
spells bytes t.Bang = bytes_eq bytes (codes "!")
spells bytes (t.Open bracket) = bytes_eq bytes (opening bracket)
spells bytes (t.Close bracket) = bytes_eq bytes (closing bracket)

-- the tokens that are no number and no register
abbrev pub signs : List Token
signs =
    t.Pc ∷ t.Tilde ∷ t.Bang ∷ t.Open Round ∷ t.Open Square ∷ t.Close Round ∷ t.Close Square
    ∷ t.Infix OrElse ∷ t.Infix AndThen ∷ t.Infix Or ∷ t.Infix Xor ∷ t.Infix And ∷ t.Infix Equal ∷ t.Infix NotEqual
    ∷ t.Infix Less ∷ t.Infix LessEqual ∷ t.Infix Greater ∷ t.Infix GreaterEqual ∷ t.Infix ShiftLeft
    ∷ t.Infix ShiftRight ∷ t.Infix Plus ∷ t.Infix Minus ∷ t.Infix Times ∷ []

-- the registers below this number, and some others
abbrev pub registers_below : ℕ → List Token → List Token
registers_below zero others = others
registers_below (suc r) others = t.Register r ∷ registers_below r others

-- the number that bytes write, if they write one, and some others
abbrev pub with_number : Result ℕ NumeralError → List Token → List Token
with_number (Ok n) others = t.Number n ∷ others
with_number (Err error) others = others

-- the token that bytes spell, if they spell one
unfoldable pub token_of : List ℕ → Option Token
token_of bytes = find (spells bytes) (with_number (magnitude bytes) (registers_below 32 signs))

-- ---- the tree of a text

abbrev pub and_others : Option Token → Option (List Token) → Option (List Token)
and_others (Some token) (Some tokens) = Some (token ∷ tokens)
and_others (Some token) None = None
and_others None tokens = None

-- the tokens that words and signs spell; None where one spells none
abbrev pub tokens_of : List (List ℕ) → Option (List Token)
tokens_of [] = Some []
tokens_of (bytes ∷ others) = and_others (token_of bytes) (tokens_of others)

abbrev pub tree_among : Option (List Token) → Option Tree
tree_among None = None
tree_among (Some tokens) = parsed tokens

abbrev pub if_shallow : Option Tree → Option Tree
if_shallow None = None
if_shallow (Some tree) = if nat_le (nesting tree) 64 then Some tree else None

-- the expression that a text is, if it is one
unfoldable pub expression_of : List ℕ → Option Tree
expression_of text =
    if nat_le (length text) 1024 then if_shallow (tree_among (tokens_of (lexemes [] text))) else None
