-- Runs: many ticks.
use Rattle.std.specs.Prelude.{◌≡◌, ℕ, zero, suc, ◌+◌, ◌^◌, ◌<◌, ◌≤◌, false, true, [], None, Ok}
use Rattle.course.specs.Positions.{UndoNeedsPage}
use Rattle.rv32i.specs.Machine.{MoveNeedsPage, machine_of}
use Rattle.stepping.specs.Goals.{turns_back}
use Rattle.stepping.specs.Plain.{IsPlain, plain_tick}
use Rattle.stepping.specs.Ticks.{Debugged, IsTick, seen, with_check}
use Rattle.stepping.specs.declared.tick.RunEnd.{RunEnd}
use Rattle.stepping.specs.declared.tick.RunEnd.TheVariants.{Spent, Ticked, NoMemory}
use Rattle.stepping.specs.declared.tick.Ran.{Ran}

-- this many ticks, one after the other, with nothing to report
abbrev pub Goes : ℕ → Debugged → Debugged → Type 0
Goes zero before after = after ≡ before
Goes (suc n) before after = (middle : Debugged)
    × (Goes n before middle × (IsTick middle (Ok plain_tick) after × (after.lists.logs ≡ [])))

-- An instruction has retired, and the machine is as its tick leaves it, except that the breakpoints were not looked at yet.
pub record HasMoved (before after : Debugged) : Type 0 where
  pub due : before.check_due ≡ false
  pub tick : IsTick before (Ok (record { printed = None; outcome = seen after })) (with_check after)

-- It may make `most` ticks: fewer than 2^62 instructions will have retired before each. One that goes back counts none.
abbrev pub MayGo : ℕ → Debugged → Type 0
MayGo most d = turns_back d.goal ≡ false → d.retired + most ≤ 2 ^ 62

-- Memory may be lacking for a tick only where it is a move that needs a page; or, where the run goes back, where a move is
-- recorded, it was a store, and a byte that is put back lies in a page of zeros.
pub record MayLackMemory (d : Debugged) : Type 0 where
  pub moves : d.check_due ≡ false
  pub needs : turns_back d.goal ≡ false → MoveNeedsPage (machine_of d.hart d.memory)
  pub back : turns_back d.goal ≡ true → UndoNeedsPage d.past d.memory

-- and what ended them: that these were as many as were asked for, a tick with something to report, or
-- that no memory was left for one more, which was not made
abbrev pub EndsRun : ℕ → ℕ → RunEnd → Debugged → Debugged → Type 0
EndsRun most went Spent middle after = (went ≡ most) × (after ≡ middle)
EndsRun most went (Ticked tick) middle after =
    (went < most) × ((IsPlain tick after → ⊥) × IsTick middle (Ok tick) after)
EndsRun most went NoMemory middle after = (went < most) × ((after ≡ middle) × MayLackMemory middle)

-- a run of at most `most` ticks
pub record IsRun (most : ℕ) (before : Debugged) (ran : Ran) (after : Debugged) : Type 0 where
  pub middle : Debugged
  pub goes : Goes ran.went before middle
  pub ends : EndsRun most ran.went ran.ending middle after
