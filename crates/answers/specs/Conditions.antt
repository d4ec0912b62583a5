-- The texts of a breakpoint (DAP specification, `SourceBreakpoint`, `FunctionBreakpoint`, `InstructionBreakpoint`:
-- `condition`, `hitCondition`).
--
-- A condition is an expression. A hit condition is a number from 1 to 4,294,967,295, in decimal digits: from that hit
-- on the breakpoint stops, and from the first one where there is none. The condition is looked at first.
use Rattle.std.specs.Prelude.{◌≡◌, ℕ, ◌≤◌, nat_le, if◌then◌else◌, List, length, Option, Some, None, Result, Ok, Err, codes, refl}
use Rattle.numerals.specs.Numerals.{numeral}
use Rattle.numerals.specs.declared.NumeralError.{NumeralError}
use Rattle.breakpoints.specs.Trees.{Tree}
use Rattle.answers.specs.Expressions.{expression_of}
use Rattle.answers.specs.Spaces.{said}
use Rattle.answers.specs.declared.problem.Problem.{Problem}
use Rattle.answers.specs.declared.problem.Problem.TheVariants.{BadCondition, BadHitCondition}

-- under which condition a breakpoint is hit, and from which hit on it stops
pub record Conditions : Type 0 where
  pub condition : Option Tree
  pub hit : ℕ

abbrev pub if_expression : Option Tree → Result (Option Tree) Problem
if_expression (Some tree) = Ok (Some tree)
if_expression None = Err BadCondition

-- the condition
abbrev pub condition_of : Option (List ℕ) → Result (Option Tree) Problem
condition_of None = Ok None
condition_of (Some text) = if_expression (expression_of text)

-- For private clauses alone: reading a condition may take memory only where there is one, and it is
-- not too long: one of more than 1,024 bytes is bad, and that takes none
abbrev pub MayTakeMemory : Option (List ℕ) → Type 0
MayTakeMemory None = ⊥
MayTakeMemory (Some text) = length text ≤ 1024

abbrev pub if_positive : Result ℕ NumeralError → Result ℕ Problem
if_positive (Ok n) = if nat_le 1 n then Ok n else Err BadHitCondition
if_positive (Err error) = Err BadHitCondition

-- from which hit on it stops
abbrev pub hit_of : Option (List ℕ) → Result ℕ Problem
hit_of None = Ok 1
hit_of (Some text) = if_positive (numeral 10 text)

abbrev pub both : Result (Option Tree) Problem → Result ℕ Problem → Result Conditions Problem
both (Err problem) hit = Err problem
both (Ok condition) (Err problem) = Err problem
both (Ok condition) (Ok hit) = Ok (record { condition = condition; hit = hit })

-- both of them, as they were asked for
abbrev pub conditions_of : Option (List ℕ) → Option (List ℕ) → Result Conditions Problem
conditions_of condition hits = both (condition_of (said condition)) (hit_of (said hits))

no_conditions : conditions_of None None ≡ Ok (record { condition = None; hit = 1 })
no_conditions = refl

the_third_hit : conditions_of None (Some (codes " 003 ")) ≡ Ok (record { condition = None; hit = 3 })
the_third_hit = refl

no_hit : conditions_of None (Some (codes "0")) ≡ Err BadHitCondition
no_hit = refl

a_sign_is_no_digit : conditions_of None (Some (codes "+1")) ≡ Err BadHitCondition
a_sign_is_no_digit = refl
