-- An expression as a flat list of operations on a stack of values, in the order in which they are done.
--
-- An operand adds its value on top of the stack; an operator takes its operands from there and leaves its value. After
-- the left side of `&&` and `||` stands an operation that looks at it: where it decides, it becomes 0 or 1, and the
-- operations of the right side are passed over, and the operator itself.
use Rattle.std.specs.Prelude.{◌≡◌, ℕ, zero, suc, if◌then◌else◌, List, [], ◌∷◌, ◌++◌, length, slice_index}
use Rattle.std.specs.Prelude.{slice_set, slice_index_or, Option, Some, None, Result, Ok, Err}
use Rattle.rv32i.specs.Machine.{flag}
use Rattle.rv32i.specs.declared.hart.Hart.{Hart}
use Rattle.breakpoints.specs.Trees.{Tree}
use Rattle.breakpoints.specs.Trees as tree
use Rattle.breakpoints.specs.Values.{before, between, decides, is_true, Valued, word_anywhere}
use Rattle.breakpoints.specs.declared.error.ExprFault.{ExprFault}
use Rattle.breakpoints.specs.declared.error.ExprFault.TheVariants.{Outside}
use Rattle.breakpoints.specs.declared.operation.Operation.{Operation}
use Rattle.breakpoints.specs.declared.operation.Operation.TheVariants.{Number, Register, Pc, Before, Between}
use Rattle.breakpoints.specs.declared.operation.Operation.TheVariants.{BetweenNumber}
use Rattle.breakpoints.specs.declared.operation.Operation.TheVariants.{Load, Decide}
use Rattle.breakpoints.specs.declared.running.Done.{Done}
use Rattle.breakpoints.specs.declared.running.Done.TheVariants.{Next, Decided, Fault, NoRoom}
use Rattle.breakpoints.specs.declared.token.Bracket.TheVariants.{Round, Square}
use Rattle.breakpoints.specs.declared.token.Infix.{Infix}
use Rattle.breakpoints.specs.declared.token.Infix.TheVariants.{OrElse, AndThen}
use Rattle.breakpoints.specs.declared.token.Prefix.{Prefix}

-- what looks at the left side of an operator, where it may decide, with how many operations are then passed over
abbrev pub decider : Infix → ℕ → List Operation
decider OrElse n = Decide OrElse n ∷ []
decider AndThen n = Decide AndThen n ∷ []
decider operator n = []

abbrev pub number_of : Operation → Option ℕ
number_of (Number n) = Some n
number_of operation = None

-- the number that is all that is done
abbrev pub number_alone : List Operation → Option ℕ
number_alone [] = None
number_alone (operation ∷ []) = number_of operation
number_alone (operation ∷ (next ∷ rest)) = None

abbrev pub joined_with : Infix → List Operation → Option ℕ → List Operation
joined_with operator right (Some n) = BetweenNumber operator n ∷ []
joined_with operator right None = right ++ Between operator ∷ []

-- the operations of a right side, and its operator: one operation where the side is a number
abbrev pub joined_by : Infix → List Operation → List Operation
joined_by operator right = joined_with operator right (number_alone right)

abbrev pub operations_of : Tree → List Operation
operations_of (tree.Number n) = Number n ∷ []
operations_of (tree.Register r) = Register r ∷ []
operations_of tree.Pc = Pc ∷ []
operations_of (tree.Unary operator operand) = operations_of operand ++ Before operator ∷ []
operations_of (tree.Binary operator left right) =
    let joined = joined_by operator (operations_of right) in
    operations_of left ++ (decider operator (length joined) ++ joined)
operations_of (tree.Enclosed Round inner) = operations_of inner
operations_of (tree.Enclosed Square inner) = operations_of inner ++ Load ∷ []

-- the same operations, where the decider at this place, if the operator has one, passes over n of them
abbrev pub reached : Infix → ℕ → ℕ → List Operation → List Operation
reached OrElse at n operations = slice_set operations at (Decide OrElse n)
reached AndThen at n operations = slice_set operations at (Decide AndThen n)
reached operator at n operations = operations

-- what an operation makes of a stack: another one, its top first, and how many operations are passed over; or the fault
abbrev pub Made : Type 0
Made = Result (List ℕ × ℕ) ExprFault

-- a value on top of what is below it, where there is one
abbrev pub with_top : List ℕ → Valued → Made
with_top below (Ok v) = Ok (v ∷ below, 0)
with_top below (Err fault) = Err fault

-- What an operation makes of a stack. No tree's operation finds too few values: that is a fault of no meaning.

abbrev pub made_before : Prefix → List ℕ → Made
made_before operator [] = Err Outside
made_before operator (v ∷ below) = Ok (before operator v ∷ below, 0)

abbrev pub made_between : Infix → List ℕ → Made
made_between operator [] = Err Outside
made_between operator (b ∷ []) = Err Outside
made_between operator (b ∷ (a ∷ below)) = Ok (between operator a b ∷ below, 0)

abbrev pub made_between_number : Infix → ℕ → List ℕ → Made
made_between_number operator n [] = Err Outside
made_between_number operator n (a ∷ below) = Ok (between operator a n ∷ below, 0)

abbrev pub made_load : List ℕ → List ℕ → Made
made_load memory [] = Err Outside
made_load memory (v ∷ below) = with_top below (word_anywhere memory v)

abbrev pub made_decide : Infix → ℕ → List ℕ → Made
made_decide operator n [] = Err Outside
made_decide operator n (a ∷ below) =
    if decides operator a then Ok (flag (is_true a) ∷ below, n) else Ok (a ∷ below, 0)

abbrev pub made_by : Hart → List ℕ → Operation → List ℕ → Made
made_by hart memory (Number n) stack = Ok (n ∷ stack, 0)
made_by hart memory (Register r) stack = Ok (slice_index hart.x r ∷ stack, 0)
made_by hart memory Pc stack = Ok (hart.pc ∷ stack, 0)
made_by hart memory (Before operator) stack = made_before operator stack
made_by hart memory (Between operator) stack = made_between operator stack
made_by hart memory (BetweenNumber operator n) stack = made_between_number operator n stack
made_by hart memory Load stack = made_load memory stack
made_by hart memory (Decide operator n) stack = made_decide operator n stack

-- the value on top
abbrev pub top_of : List ℕ → Valued
top_of [] = Err Outside
top_of (v ∷ below) = Ok v

abbrev pub with_made : Made → (List ℕ → ℕ → Valued) → Valued
with_made (Ok made) f = f made.0 made.1
with_made (Err fault) f = Err fault

-- what operations make of a stack, where the first n of them are passed over: the value on top at the end, or the
-- fault
abbrev pub outcome : Hart → List ℕ → List ℕ → ℕ → List Operation → Valued
outcome hart memory stack n [] = top_of stack
outcome hart memory stack zero (operation ∷ rest) =
    with_made (made_by hart memory operation stack) (λ made n. outcome hart memory made n rest)
outcome hart memory stack (suc n) (operation ∷ rest) = outcome hart memory stack n rest

-- ---- the stack that the code keeps

-- the first words of an array as a stack: the last of them is its top
abbrev pub stack_in : List ℕ → ℕ → List ℕ
stack_in words zero = []
stack_in words (suc n) = slice_index_or words n 0 ∷ stack_in words n

-- what the code answers of an operation, of a stack of that many values: how many it leaves; or that a left side
-- decided, and that many operations are passed over; or the fault; or that the array is too small, which says nothing
abbrev pub IsDone : List ℕ → ℕ → Done → Made → Type 0
IsDone words depth (Next count) made = made ≡ Ok (stack_in words count, 0)
IsDone words depth (Decided over) made = made ≡ Ok (stack_in words depth, over)
IsDone words depth (Fault fault) made = made ≡ Err fault
IsDone words depth NoRoom made = Unit {0}
