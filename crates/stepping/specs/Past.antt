-- What a debugged machine keeps of its past.
--
-- It keeps no instruction that has retired. But the calls that it keeps are those of all the instructions that have
-- retired since the program was loaded, and it has counted them. Where a move is undone, these are one less: the calls
-- are those of the others, also where a call was forgotten in that move.
use Rattle.std.specs.Prelude.{◌≡◌, ℕ, ◌⊎◌, List, [], ◌∷◌, ◌++◌, length, Some, Result, ⊤}
use Rattle.std.specs.declared.alloc.AllocError.{AllocError}
use Rattle.breakpoints.specs.Stops.{Lists}
use Rattle.image.specs.declared.Image.{Image}
use Rattle.rv32i.specs.Machine.{machine_of}
use Rattle.rv32i.specs.declared.instr.Instr.{Instr}
use Rattle.course.specs.Calls.{StandsFor}
use Rattle.stepping.specs.Loading.{IsLoaded}
use Rattle.course.specs.Marks.{Retired}
use Rattle.course.specs.Positions.{IsFetched, Position}
use Rattle.stepping.specs.Ticks.{Debugged, IsTick}
use Rattle.stepping.specs.declared.tick.Tick.{Tick}

-- the instruction that retired at a position is the one at its pc
abbrev pub RetiredAt : Position → Retired → Type 0
RetiredAt p one = (one.pc ≡ p.hart.pc) × IsFetched (machine_of p.hart p.memory) (Some one.instr)

-- before each of these moves, the newest first, the calls kept were those of the instructions that had retired then; and the
-- move retired one more
abbrev pub RemembersPast : List Position → List Retired → Type 0
RemembersPast [] retired = ⊤
RemembersPast (p ∷ past) retired = (before : List Retired) × (last : Retired)
    × ((retired ≡ before ++ last ∷ []) × StandsFor p.calls before × RemembersPast past before × RetiredAt p last)

-- these are all the instructions that have retired, each with its address
pub record Remembers (d : Debugged) (retired : List Retired) : Type 0 where
  pub calls : StandsFor d.calls retired
  pub count : length retired ≡ d.retired
  pub past : RemembersPast d.past retired

-- what a tick makes of them: nothing; the instruction at pc more; or, where a move is undone, the last one less
abbrev pub IsChanged : Debugged → List Retired → List Retired → Type 0
IsChanged before retired after = (after ≡ retired)
    ⊎ (((instr : Instr) × (IsFetched (machine_of before.hart before.memory) (Some instr)
    × (after ≡ retired ++ record { instr = instr; pc = before.hart.pc } ∷ [])))
    ⊎ ((last : Retired) × (retired ≡ after ++ last ∷ [])))

-- none has retired where a program was just loaded
abbrev pub LoadedRemembersNone : Type 0
LoadedRemembersNone =
    (image : Image) (size : ℕ) (lists : Lists) (d : Debugged) → IsLoaded image size lists d → Remembers d []

-- and each tick adds what retires in it, or takes away what it undoes
abbrev pub TicksRemember : Type 0
TicksRemember = (before after : Debugged) (answer : Result Tick AllocError) (retired : List Retired) →
    Remembers before retired → IsTick before answer after →
    (left : List Retired) × (IsChanged before retired left × Remembers after left)
