-- The numbers by which an editor refers to what a stop has to show (DAP specification, "Lifetime of Objects References").
--
-- A frame has an id, and a scope has a variables reference. Both are numbers of one row, which rise from 1: none is
-- issued twice. What a number refers to is its *target*. Within one stop a target has one number. When the stop ends, its
-- numbers are stale, and stay so.
--
-- All of this is said of the past: every number that was ever issued, with its target and the stop in which that was.
use Rattle.std.specs.Prelude.{◌≡◌, ℕ, ◌+◌, ◌==◌, Bool, true, false, ◌&&◌, if◌then◌else◌, List, [], ◌∷◌}
use Rattle.std.specs.Prelude.{Option, Some, None, Result, Ok, Err, refl}
use Rattle.variables.specs.declared.error.FindError.{FindError}
use Rattle.variables.specs.declared.error.FindError.TheVariants.{Unknown, Stale}
use Rattle.variables.specs.declared.target.Target.{Target}
use Rattle.variables.specs.declared.target.Target.TheVariants.{Frame, Registers, Stack}

-- a number that was issued, what it refers to, and in which stop it was issued
pub record Issued : Type 0 where
  pub number : ℕ
  pub target : Target
  pub stop : ℕ

-- which stop it is now, and all that was ever issued, the newest first
pub record Past : Type 0 where
  pub stop : ℕ
  pub issued : List Issued

-- before anything is issued
abbrev pub nothing_issued : Past
nothing_issued = record { stop = 0; issued = [] }

-- ---- what is asked of it

-- the next number: one more than the newest, and 1 at first
abbrev pub next_after : List Issued → ℕ
next_after [] = 1
next_after (newest ∷ earlier) = newest.number + 1

abbrev pub next_number : Past → ℕ
next_number past = next_after past.issued

-- whether two targets are one
abbrev pub is_same : Target → Target → Bool
is_same (Frame j) (Frame k) = j == k
is_same Registers Registers = true
is_same Stack Stack = true
is_same one other = false

-- the number that a target has in a stop, if it has one
abbrev pub number_among : ℕ → Target → List Issued → Option ℕ
number_among stop target [] = None
number_among stop target (i ∷ earlier) =
    if (i.stop == stop) && is_same i.target target then Some i.number else number_among stop target earlier

abbrev pub number_of : Past → Target → Option ℕ
number_of past target = number_among past.stop target past.issued

-- What a number refers to. It is unknown where it was never issued, and stale where that was in another stop.
abbrev pub found_among : ℕ → ℕ → List Issued → Result Target FindError
found_among stop number [] = Err Unknown
found_among stop number (i ∷ earlier) =
    if i.number == number then (if i.stop == stop then Ok i.target else Err Stale)
    else found_among stop number earlier

abbrev pub found : Past → ℕ → Result Target FindError
found past number = found_among past.stop number past.issued

-- ---- what becomes of it

abbrev pub unless_issued : Option ℕ → Past → Target → Past
unless_issued (Some number) past target = past
unless_issued None past target = record past {
  issued = record { number = next_number past; target = target; stop = past.stop } ∷ past.issued;
}

-- a target that has no number in this stop gets the next one
abbrev pub issued_one : Past → Target → Past
issued_one past target = unless_issued (number_of past target) past target

-- these targets, one after the other
abbrev pub issued_all : Past → List Target → Past
issued_all past [] = past
issued_all past (target ∷ others) = issued_all (issued_one past target) others

-- the stop ends
abbrev pub ended : Past → Past
ended past = record past { stop = past.stop + 1 }

-- a frame and its registers in one stop, and the frame again in the next
a_past : Past
a_past = issued_one (ended (issued_all nothing_issued (Frame 0 ∷ Registers ∷ Frame 0 ∷ []))) (Frame 0)

the_frame : number_of a_past (Frame 0) ≡ Some 3
unfolding a_past
the_frame = refl

the_third : found a_past 3 ≡ Ok (Frame 0)
unfolding a_past
the_third = refl

the_second : found a_past 2 ≡ Err Stale
unfolding a_past
the_second = refl

the_fourth : found a_past 4 ≡ Err Unknown
unfolding a_past
the_fourth = refl
