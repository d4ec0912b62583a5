-- Back, and forth again (DAP specification, `StepBackRequest`, `StepInRequest`; RISC-V Unprivileged ISA 20191213, chapter 2).
--
-- A hart has one move where it stands, and one answer to it: with the same registers, the same pc and the same memory it does
-- the same. So from as many moves back as one likes as many moves lead to where the machine is, and no others do: hart, memory
-- and calls are then the same, and each number that was printed on the way is printed again.
--
-- A move of the program is one of its hart, where it continues and an instruction retires; where it goes back, a move of the
-- program undoes one.
use Rattle.std.specs.Prelude.{◌≡◌, ℕ, ℤ, ◌≤◌, true, false, IfSome, List, [], ◌∷◌, length, Option, Some, None}
use Rattle.course.specs.Positions.{Position, gone_back}
use Rattle.debuggee.specs.Programs.{Program, moved, next_tick, stays}
use Rattle.rv32i.specs.declared.stepped.Stepped.{Stepped}
use Rattle.rv32i.specs.declared.stepped.Stepped.TheVariants.{Printed}
use Rattle.session.specs.Sessions.{Session}
use Rattle.stepping.specs.Goals.{turns_back}
use Rattle.stepping.specs.Leading.{MovesTo, back}
use Rattle.stepping.specs.Ticks.{Debugged, course_of, position_of}

-- ---- a move

-- the hart moves, and answers this
abbrev pub MovesSaying : Stepped → Position → Position → Type 0
MovesSaying answer before after = (move : MovesTo before after) × (move.answer ≡ answer)

-- the number that is printed, if one is
abbrev pub printed_by : Stepped → Option ℤ
printed_by (Printed number) = Some number
printed_by other = None

-- the next move of the program is one of its hart, and prints what that answers
abbrev pub IsMade : Program → Type 0
IsMade p = p.machine.check_due ≡ false → turns_back p.machine.goal ≡ false → stays (next_tick p).outcome ≡ false →
    (answer : Stepped) × (MovesSaying answer (position_of p.machine) (position_of (moved p).machine)
    × (printed_by answer ≡ (next_tick p).printed))

abbrev pub MovesAreMade : Session → Type 0
MovesAreMade s = IfSome s.now.debuggee.program IsMade

-- or it undoes the newest recorded one
abbrev pub IsUndone : Program → Type 0
IsUndone p = p.machine.check_due ≡ false → turns_back p.machine.goal ≡ true →
    course_of (moved p).machine ≡ gone_back (course_of p.machine)

abbrev pub MovesAreUndone : Session → Type 0
MovesAreUndone s = IfSome s.now.debuggee.program IsUndone

-- ---- many

-- as many moves as there are answers lead from one position to another; the last answer comes first
abbrev pub MakesSaying : List Stepped → Position → Position → Type 0
MakesSaying [] start now = now ≡ start
MakesSaying (answer ∷ answers) start now =
    (middle : Position) × (MakesSaying answers start middle × MovesSaying answer middle now)

-- k moves, answered so, lead from there to here; and whatever k moves lead to is here, and they are answered so.
pub record IsReached (k : ℕ) (there here : Position) : Type 0 where
  pub answers : List Stepped
  pub many : length answers ≡ k
  pub makes : MakesSaying answers there here
  pub unique : (others : List Stepped) (other : Position) → length others ≡ k → MakesSaying others there other →
      (other ≡ here) × (others ≡ answers)

-- so it is of a machine from each of its recorded positions
abbrev pub IsReachedAgain : Debugged → Type 0
IsReachedAgain d = (k : ℕ) → k ≤ length d.past → IsReached k (back k (course_of d)).now (position_of d)

abbrev pub BackAndForthAgain : Session → Type 0
BackAndForthAgain s = IfSome s.now.debuggee.program (λ p. IsReachedAgain p.machine)
