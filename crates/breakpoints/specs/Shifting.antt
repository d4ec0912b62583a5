-- The tree of tokens, as a function: for private clauses, and for `Expressions` of `answers`.
--
-- It goes over the tokens once. What waits for the operand that is being read is a stack: operators before it, brackets
-- round it, and left operands with their operator.
use Rattle.std.specs.Prelude.{ℕ, nat_lt, if◌then◌else◌, List, [], ◌∷◌, Option, Some, None}
use Rattle.breakpoints.specs.Nodes.{tree_of}
use Rattle.breakpoints.specs.Trees.{Tree, Number, Register, Pc, Unary, Binary, Enclosed, level_of}
use Rattle.breakpoints.specs.declared.node.Node.{Node}
use Rattle.breakpoints.specs.declared.parsing.Waiting.{Waiting}
use Rattle.breakpoints.specs.declared.parsing.Waiting.TheVariants.{Nothing, Before', Inside', LeftOf'}
use Rattle.breakpoints.specs.declared.parsing.State.{State}
use Rattle.breakpoints.specs.declared.parsing.State.TheVariants.{Wants, Has}
use Rattle.breakpoints.specs.declared.token.Bracket.{Bracket}
use Rattle.breakpoints.specs.declared.token.Bracket.TheVariants.{Round, Square}
use Rattle.breakpoints.specs.declared.token.Infix.{Infix}
use Rattle.breakpoints.specs.declared.token.Infix.TheVariants.{Minus}
use Rattle.breakpoints.specs.declared.token.Prefix.{Prefix}
use Rattle.breakpoints.specs.declared.token.Prefix.TheVariants.{Negate, Complement, Not}
use Rattle.breakpoints.specs.declared.token.Token.{Token}
use Rattle.breakpoints.specs.declared.token.Token.TheVariants as t

pub data Stack : Type 0 where
  Empty : Stack
  Before : Prefix → Stack → Stack
  Inside : Bracket → Stack → Stack
  LeftOf : Tree → Infix → Stack → Stack

-- an operand is wanted, or there is one
pub data Place : Type 0 where
  Open : Stack → Place
  Full : Stack → Tree → Place

-- an operand with what waits for it and binds at least as tight as this level
pub record Grouped : Type 0 where
  pub stack : Stack
  pub operand : Tree

abbrev pub grouped : ℕ → Stack → Tree → Grouped
grouped level Empty operand = record { stack = Empty; operand = operand }
grouped level (Before operator stack) operand = grouped level stack (Unary operator operand)
grouped level (Inside bracket stack) operand = record { stack = Inside bracket stack; operand = operand }
grouped level (LeftOf left operator stack) operand =
    if nat_lt (level_of operator) level then record { stack = LeftOf left operator stack; operand = operand }
    else grouped level stack (Binary operator left operand)

-- a token where an operand is wanted
abbrev pub minus : Stack → Infix → Option Place
minus stack Minus = Some (Open (Before Negate stack))
minus stack other = None

abbrev pub opens : Stack → Token → Option Place
opens stack (t.Number n) = Some (Full stack (Number n))
opens stack (t.Register r) = Some (Full stack (Register r))
opens stack t.Pc = Some (Full stack Pc)
opens stack (t.Infix operator) = minus stack operator
opens stack t.Tilde = Some (Open (Before Complement stack))
opens stack t.Bang = Some (Open (Before Not stack))
opens stack (t.Open bracket) = Some (Open (Inside bracket stack))
opens stack (t.Close bracket) = None

-- an operator between two operands, after the left one
abbrev pub joined : Infix → Grouped → Place
joined operator g = Open (LeftOf g.operand operator g.stack)

-- a closing bracket, after an operand
abbrev pub closed : Bracket → Tree → Stack → Option Place
closed Round operand (Inside Round stack) = Some (Full stack (Enclosed Round operand))
closed Square operand (Inside Square stack) = Some (Full stack (Enclosed Square operand))
closed Round operand (Inside Square stack) = None
closed Square operand (Inside Round stack) = None
closed bracket operand Empty = None
closed bracket operand (Before operator stack) = None
closed bracket operand (LeftOf left operator stack) = None

abbrev pub closed_at : Bracket → Grouped → Option Place
closed_at bracket g = closed bracket g.operand g.stack

-- a token where there is an operand
abbrev pub follows : Stack → Tree → Token → Option Place
follows stack operand (t.Infix operator) = Some (joined operator (grouped (level_of operator) stack operand))
follows stack operand (t.Close bracket) = closed_at bracket (grouped 0 stack operand)
follows stack operand (t.Number n) = None
follows stack operand (t.Register r) = None
follows stack operand t.Pc = None
follows stack operand t.Tilde = None
follows stack operand t.Bang = None
follows stack operand (t.Open bracket) = None

abbrev pub shifted : Place → Token → Option Place
shifted (Open stack) token = opens stack token
shifted (Full stack operand) token = follows stack operand token

-- the end of the tokens
abbrev pub ended : Tree → Stack → Option Tree
ended operand Empty = Some operand
ended operand (Before operator stack) = None
ended operand (Inside bracket stack) = None
ended operand (LeftOf left operator stack) = None

abbrev pub ended_at : Grouped → Option Tree
ended_at g = ended g.operand g.stack

abbrev pub finished : Place → Option Tree
finished (Open stack) = None
finished (Full stack operand) = ended_at (grouped 0 stack operand)

-- the tree of tokens, from some place on, or from none
abbrev pub shifted_on : Option Place → Token → Option Place
shifted_on None token = None
shifted_on (Some place) token = shifted place token

abbrev pub finished_on : Option Place → Option Tree
finished_on None = None
finished_on (Some place) = finished place

abbrev pub parsed_from : Option Place → List Token → Option Tree
parsed_from place [] = finished_on place
parsed_from place (token ∷ tokens) = parsed_from (shifted_on place token) tokens

abbrev pub parsed : List Token → Option Tree
parsed tokens = parsed_from (Some (Open Empty)) tokens

-- the stack and the place that the code keeps
abbrev pub stack_of : Waiting → Stack
stack_of Nothing = Empty
stack_of (Before' operator p rest) = Before operator (stack_of rest)
stack_of (Inside' bracket p rest) = Inside bracket (stack_of rest)
stack_of (LeftOf' left operator p rest) = LeftOf (tree_of left) operator (stack_of rest)

abbrev pub place_of : State → Place
place_of (Wants waiting) = Open (stack_of waiting)
place_of (Has waiting operand) = Full (stack_of waiting) (tree_of operand)

abbrev pub grouped_of : Waiting → Node → Grouped
grouped_of waiting operand = record { stack = stack_of waiting; operand = tree_of operand }
