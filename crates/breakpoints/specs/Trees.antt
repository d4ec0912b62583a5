-- The grammar of expressions.
--
-- Each operator has a level, and one of a higher level binds tighter; those of one level group from the left.
-- Operators before their operand bind tighter than all between two; an operand is a number, a register, `pc`, or an
-- expression in brackets.
--
-- A tree says how a text is read: its tokens, from left to right, are those of the text, and each operand binds as
-- tight as its operator wants. Pairs of brackets are nodes, so the tree has all that the text has.
use Rattle.std.specs.Prelude.{ℕ, ◌+◌, Bool, true, nat_le, nat_lt, ◌&&◌, max, List, [], ◌∷◌, ◌++◌}
use Rattle.breakpoints.specs.declared.token.Bracket.{Bracket}
use Rattle.breakpoints.specs.declared.token.Infix.{Infix}
use Rattle.breakpoints.specs.declared.token.Infix.TheVariants.{OrElse, AndThen, Or, Xor, And, Equal, NotEqual, Less}
use Rattle.breakpoints.specs.declared.token.Infix.TheVariants.{LessEqual, Greater, GreaterEqual, ShiftLeft}
use Rattle.breakpoints.specs.declared.token.Infix.TheVariants.{ShiftRight, Plus, Minus, Times}
use Rattle.breakpoints.specs.declared.token.Prefix.{Prefix}
use Rattle.breakpoints.specs.declared.token.Prefix.TheVariants.{Negate, Complement, Not}
use Rattle.breakpoints.specs.declared.token.Token.{Token}
use Rattle.breakpoints.specs.declared.token.Token.TheVariants as t

pub data Tree : Type 0 where
  Number : ℕ → Tree
  Register : ℕ → Tree
  Pc : Tree
  Unary : Prefix → Tree → Tree
  Binary : Infix → Tree → Tree → Tree
  Enclosed : Bracket → Tree → Tree

-- the level of an operator between two operands
abbrev pub level_of : Infix → ℕ
level_of OrElse = 1
level_of AndThen = 2
level_of Or = 3
level_of Xor = 4
level_of And = 5
level_of Equal = 6
level_of NotEqual = 6
level_of Less = 7
level_of LessEqual = 7
level_of Greater = 7
level_of GreaterEqual = 7
level_of ShiftLeft = 8
level_of ShiftRight = 8
level_of Plus = 9
level_of Minus = 9
level_of Times = 10

-- how tight a tree binds: all but an operator between two operands bind tighter than each of those
abbrev pub binding : Tree → ℕ
binding (Binary operator left right) = level_of operator
binding (Number n) = 11
binding (Register r) = 11
binding Pc = 11
binding (Unary operator operand) = 11
binding (Enclosed bracket inner) = 11

-- Whether each operand binds as tight as its operator wants: one before it, tighter than all between two; one between
-- two, at least as tight on the left, and tighter on the right, since those of a level group from the left.
abbrev pub groups : Tree → Bool
groups (Number n) = true
groups (Register r) = true
groups Pc = true
groups (Unary operator operand) = groups operand && nat_lt 10 (binding operand)
groups (Binary operator left right) =
    (groups left && nat_le (level_of operator) (binding left))
    && (groups right && nat_lt (level_of operator) (binding right))
groups (Enclosed bracket inner) = groups inner

abbrev pub token_before : Prefix → Token
token_before Negate = t.Infix Minus
token_before Complement = t.Tilde
token_before Not = t.Bang

-- the tokens of a tree, from left to right
abbrev pub tokens_of : Tree → List Token
tokens_of (Number n) = t.Number n ∷ []
tokens_of (Register r) = t.Register r ∷ []
tokens_of Pc = t.Pc ∷ []
tokens_of (Unary operator operand) = token_before operator ∷ tokens_of operand
tokens_of (Binary operator left right) = tokens_of left ++ t.Infix operator ∷ tokens_of right
tokens_of (Enclosed bracket inner) = t.Open bracket ∷ (tokens_of inner ++ t.Close bracket ∷ [])

-- how deep brackets and operators before their operand nest
abbrev pub nesting : Tree → ℕ
nesting (Number n) = 0
nesting (Register r) = 0
nesting Pc = 0
nesting (Unary operator operand) = nesting operand + 1
nesting (Binary operator left right) = max (nesting left) (nesting right)
nesting (Enclosed bracket inner) = nesting inner + 1
