-- The tree that the code keeps, as the tree of the grammar: cited by clauses only to see one as the other.
use Rattle.std.specs.Prelude.{Result, Ok, Err}
use Rattle.breakpoints.specs.Trees.{Tree}
use Rattle.breakpoints.specs.Trees as tree
use Rattle.breakpoints.specs.declared.error.ExprError.{ExprError}
use Rattle.breakpoints.specs.declared.node.Node.{Node}
use Rattle.breakpoints.specs.declared.node.Node.TheVariants.{Number, Register, Pc, Unary', Binary', Enclosed'}

abbrev pub tree_of : Node → Tree
tree_of (Number n) = tree.Number n
tree_of (Register r) = tree.Register r
tree_of Pc = tree.Pc
tree_of (Unary' operator p operand) = tree.Unary operator (tree_of operand)
tree_of (Binary' operator p left q right) = tree.Binary operator (tree_of left) (tree_of right)
tree_of (Enclosed' bracket p inner) = tree.Enclosed bracket (tree_of inner)

-- what a text is read as, as the grammar's tree
abbrev pub read_as : Result Node ExprError → Result Tree ExprError
read_as (Ok node) = Ok (tree_of node)
read_as (Err error) = Err error
