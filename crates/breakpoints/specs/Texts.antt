-- Which texts are expressions.
--
-- A text has at most 1,024 bytes, and is read by its tree. Its brackets and operators before their operand nest at most
-- 64 deep.
use Rattle.std.specs.Prelude.{◌≡◌, ℕ, ◌<◌, ◌≤◌, true, List, length, Result, Ok, Err}
use Rattle.breakpoints.specs.Tokens.{IsTokens}
use Rattle.breakpoints.specs.Trees.{Tree, groups, nesting, tokens_of}
use Rattle.breakpoints.specs.declared.error.ExprError.{ExprError}
use Rattle.breakpoints.specs.declared.error.ExprError.TheVariants.{NoMemory, Syntax, TooDeep, TooLong}

-- a text is read by a tree
pub record IsTreeOf (text : List ℕ) (tree : Tree) : Type 0 where
  pub tokens : IsTokens (tokens_of tree) text
  pub grouped : groups tree ≡ true

-- What a text is read as: its tree where it has one within the limits. Its length is looked at first. Where it is short
-- enough and has no tree, that is the error, and only then how deep it nests. Memory can run out in any text that is
-- not too long.
abbrev pub Parses : List ℕ → Result Tree ExprError → Type 0
Parses text (Ok tree) = (length text ≤ 1024) × (IsTreeOf text tree × (nesting tree ≤ 64))
Parses text (Err TooLong) = 1024 < length text
Parses text (Err Syntax) = (length text ≤ 1024) × ((tree : Tree) → IsTreeOf text tree → ⊥)
Parses text (Err TooDeep) = (length text ≤ 1024) × ((tree : Tree) × (IsTreeOf text tree × (64 < nesting tree)))
Parses text (Err NoMemory) = length text ≤ 1024

-- a text has at most one tree
abbrev pub TreeIsUnique : Type 0
TreeIsUnique = (text : List ℕ) (tree other : Tree) → IsTreeOf text tree → IsTreeOf text other → tree ≡ other
