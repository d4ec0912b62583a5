-- The value of an expression is a word.
--
-- A number in a text is read only where it has 32 bits, so each number of the tree of a text is a word. On a machine in
-- range the registers, pc and the words of memory are words too, and each operator makes a word of words.
use Rattle.std.specs.Prelude.{ℕ, List, IfOk}
use Rattle.breakpoints.specs.Texts.{IsTreeOf}
use Rattle.breakpoints.specs.Trees.{Tree, Number, Register, Pc, Unary, Binary, Enclosed}
use Rattle.breakpoints.specs.Values.{value_of}
use Rattle.rv32i.specs.Machine.{machine_of}
use Rattle.rv32i.specs.declared.hart.Hart.{Hart}
use Rattle.range_laws.specs.Machines.{InRange, IsWord}

-- each number in a tree is a word
abbrev pub HasWords : Tree → Type 0
HasWords (Number n) = IsWord n
HasWords (Register r) = Unit {0}
HasWords Pc = Unit {0}
HasWords (Unary operator operand) = HasWords operand
HasWords (Binary operator left right) = HasWords left × HasWords right
HasWords (Enclosed bracket inner) = HasWords inner

-- So it is in the tree of a text.
abbrev pub TreesHaveWords : Type 0
TreesHaveWords = (text : List ℕ) (tree : Tree) → IsTreeOf text tree → HasWords tree

-- The value of such a tree on a machine in range is a word, where it has one.
abbrev pub ValuesAreWords : Type 0
ValuesAreWords = (tree : Tree) (hart : Hart) (memory : List ℕ) → HasWords tree → InRange (machine_of hart memory) →
    IfOk (value_of tree hart memory) IsWord
