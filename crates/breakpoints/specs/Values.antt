-- The value of an expression on a machine.
--
-- Values have 32 bits, and all wraps. Comparisons are signed; they, `!`, `&&` and `||` give 0 or 1. A shift goes by
-- the low 5 bits of its right side, and zeros come in. `&&` and `||` leave the right side alone where the left one
-- decides. Square brackets give the little-endian word at any address whose four bytes lie in memory; a word that is
-- evaluated and does not is a fault.
use Rattle.std.specs.Prelude.{ℕ, ◌*◌, ◌%◌, ◌^◌, Bool, false, ◌==◌, not, if◌then◌else◌, List, slice_index, bit_and}
use Rattle.std.specs.Prelude.{bit_or, bit_xor, Result, Ok, Err}
use Rattle.image.specs.Memory.{bytes_at, has_bytes, little_endian}
use Rattle.rv32i.specs.Machine.{difference, flag, is_less_than, places, shifted_left, shifted_right, sum}
use Rattle.rv32i.specs.declared.hart.Hart.{Hart}
use Rattle.breakpoints.specs.Trees.{Tree, Number, Register, Pc, Unary, Binary, Enclosed}
use Rattle.breakpoints.specs.declared.error.ExprFault.{ExprFault}
use Rattle.breakpoints.specs.declared.error.ExprFault.TheVariants.{Outside}
use Rattle.breakpoints.specs.declared.token.Bracket.{Bracket}
use Rattle.breakpoints.specs.declared.token.Bracket.TheVariants.{Round, Square}
use Rattle.breakpoints.specs.declared.token.Infix.{Infix}
use Rattle.breakpoints.specs.declared.token.Infix.TheVariants.{OrElse, AndThen, Or, Xor, And, Equal, NotEqual, Less}
use Rattle.breakpoints.specs.declared.token.Infix.TheVariants.{LessEqual, Greater, GreaterEqual, ShiftLeft}
use Rattle.breakpoints.specs.declared.token.Infix.TheVariants.{ShiftRight, Plus, Minus, Times}
use Rattle.breakpoints.specs.declared.token.Prefix.{Prefix}
use Rattle.breakpoints.specs.declared.token.Prefix.TheVariants.{Negate, Complement, Not}

-- a value, or the fault
abbrev pub Valued : Type 0
Valued = Result ℕ ExprFault

-- what is made of a value, if there is one
abbrev pub with_value : Valued → (ℕ → Valued) → Valued
with_value (Ok v) f = f v
with_value (Err fault) f = Err fault

-- an operator before a value
abbrev pub before : Prefix → ℕ → ℕ
before Negate v = difference 0 v
before Complement v = bit_xor v 0xffffffff
before Not v = flag (v == 0)

-- whether a value is not 0
abbrev pub is_true : ℕ → Bool
is_true v = not (v == 0)

-- the low 32 bits of a product
abbrev pub product : ℕ → ℕ → ℕ
product a b = (a * b) % 2 ^ 32

-- An operator between two values; of the two that may leave their right side alone, where that is looked at.
abbrev pub between : Infix → ℕ → ℕ → ℕ
between OrElse a b = flag (is_true b)
between AndThen a b = flag (is_true b)
between Or a b = bit_or a b
between Xor a b = bit_xor a b
between And a b = bit_and a b
between Equal a b = flag (a == b)
between NotEqual a b = flag (not (a == b))
between Less a b = flag (is_less_than a b)
between LessEqual a b = flag (not (is_less_than b a))
between Greater a b = flag (is_less_than b a)
between GreaterEqual a b = flag (not (is_less_than a b))
between ShiftLeft a b = shifted_left a (places b)
between ShiftRight a b = shifted_right a (places b)
between Plus a b = sum a b
between Minus a b = difference a b
between Times a b = product a b

-- whether the left side decides, and as what
abbrev pub decides : Infix → ℕ → Bool
decides OrElse a = is_true a
decides AndThen a = not (is_true a)
decides operator a = false

-- the word at any address
abbrev pub word_anywhere : List ℕ → ℕ → Valued
word_anywhere memory address =
    if has_bytes memory address 4 then Ok (little_endian (bytes_at memory address 4)) else Err Outside

-- what brackets make of a value
abbrev pub enclosed : Bracket → List ℕ → ℕ → Valued
enclosed Round memory v = Ok v
enclosed Square memory v = word_anywhere memory v

-- the value of an expression, or the fault
abbrev pub value_of : Tree → Hart → List ℕ → Valued
value_of (Number n) hart memory = Ok n
value_of (Register r) hart memory = Ok (slice_index hart.x r)
value_of Pc hart memory = Ok hart.pc
value_of (Unary operator operand) hart memory = with_value (value_of operand hart memory) (λ v. Ok (before operator v))
value_of (Binary operator left right) hart memory =
    with_value (value_of left hart memory) (λ a.
    if decides operator a then Ok (flag (is_true a))
    else with_value (value_of right hart memory) (λ b. Ok (between operator a b)))
value_of (Enclosed bracket inner) hart memory = with_value (value_of inner hart memory) (enclosed bracket memory)
