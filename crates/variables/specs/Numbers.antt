-- What is kept of the past: the first number of this stop, and its targets in the order of their numbers. Nothing of
-- earlier stops is kept.
use Rattle.std.specs.Prelude.{◌≡◌, ℕ, ◌+◌, ◌-◌, ◌<◌, ◌≤◌, ◌==◌, nat_lt, ◌↔◌, Bool, not, if◌then◌else◌, List}
use Rattle.std.specs.Prelude.{[], ◌∷◌, ◌++◌, length, map, slice_get, ⊤, Option, Some, None, Result, Ok, Err, IfOk, OnOk}
use Rattle.std.specs.List.{list_any}
use Rattle.std.specs.declared.vec.Vec.{Vec}
use Rattle.std.specs.declared.alloc.Global.{Global}
use Rattle.variables.specs.References.{Issued, Past, found, is_same, issued_all, next_after, next_number, number_of}
use Rattle.variables.specs.declared.error.FindError.{FindError}
use Rattle.variables.specs.declared.error.FindError.TheVariants.{Unknown, Stale}
use Rattle.variables.specs.declared.error.IssueError.{IssueError}
use Rattle.variables.specs.declared.error.IssueError.TheVariants.{Exhausted}
use Rattle.variables.specs.declared.target.Target.{Target}

-- the first number of this stop, the targets that have numbers in it, and the last number that may be issued
pub record Numbers : Type 0 where
  pub first : ℕ
  pub targets : List Target
  pub last : ℕ

-- the number that the next new target gets
abbrev pub next_of : Numbers → ℕ
next_of kept = kept.first + length kept.targets

-- the number of a target among those that have numbers from this one on
abbrev pub number_from : ℕ → Target → List Target → Option ℕ
number_from first target [] = None
number_from first target (known ∷ others) =
    if is_same known target then Some first else number_from (first + 1) target others

-- the number of a target, if it has one
abbrev pub number_in : Numbers → Target → Option ℕ
number_in kept target = number_from kept.first target kept.targets

abbrev pub unless_absent : Option Target → Result Target FindError
unless_absent None = Err Unknown
unless_absent (Some target) = Ok target

-- what a number refers to, where these targets have numbers from the first on
abbrev pub found_from : ℕ → List Target → ℕ → Result Target FindError
found_from first targets number =
    if number == 0 then Err Unknown
    else if nat_lt number first then Err Stale
    else unless_absent (slice_get targets (number - first))

-- what a number refers to
abbrev pub found_in : Numbers → ℕ → Result Target FindError
found_in kept number = found_from kept.first kept.targets number

-- ---- what becomes of it

-- whether a target is in a list
abbrev pub has : Target → List Target → Bool
has target list = list_any (λ known. is_same known target) list

-- targets with one more, unless it is there
abbrev pub with_one : List Target → Target → List Target
with_one known target = if has target known then known else known ++ target ∷ []

-- with these, one after the other
abbrev pub with_all : List Target → List Target → List Target
with_all known [] = known
with_all known (target ∷ others) = with_all (with_one known target) others

abbrev pub with_targets : Numbers → List Target → Numbers
with_targets kept targets = record kept { targets = with_all kept.targets targets }

-- whether numbers are left for all of these
abbrev pub has_room : Numbers → List Target → Bool
has_room kept targets = not (nat_lt (kept.last + 1) (next_of (with_targets kept targets)))

-- after the stop has ended
abbrev pub at_next_stop : Numbers → Numbers
at_next_stop kept = record kept { first = next_of kept; targets = [] }

-- ---- what it represents

-- The numbers that were issued fall from the newest to 1, one by one, and none is of a later stop than a newer one.
abbrev pub InOrder : ℕ → List Issued → Type 0
InOrder stop [] = ⊤
InOrder stop (i ∷ earlier) = (i.number ≡ next_after earlier) × ((i.stop ≤ stop) × InOrder i.stop earlier)

-- What is kept represents the past: it answers the same.
pub record StandsFor (kept : Numbers) (past : Past) : Type 0 where
  pub next : next_of kept ≡ next_number past
  pub some : 1 ≤ kept.first
  pub finds : (number : ℕ) → found_in kept number ≡ found past number
  pub numbers : (target : Target) → number_in kept target ≡ number_of past target
  pub order : InOrder past.stop past.issued

-- what `issue` answers, as a list
abbrev pub numbers_by : Result (Vec ℕ Global) IssueError → Result (List ℕ) IssueError
numbers_by (Ok numbers) = Ok numbers.items
numbers_by (Err error) = Err error

-- Numbers are issued for these targets: all of them or none. What is answered has the number of each. None is issued
-- exactly where they would pass the last one.
pub record Issues (past : Past) (targets : List Target) (last : ℕ) (answer : Result (List ℕ) IssueError) (after : Numbers)
    : Type 0 where
  pub stands : OnOk answer (StandsFor after (issued_all past targets))
  pub numbers : IfOk answer (λ numbers. map Some numbers ≡ map (number_of (issued_all past targets)) targets)
  pub exhausted : (answer ≡ Err Exhausted) ↔ (last + 1 < next_number (issued_all past targets))
