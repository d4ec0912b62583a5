-- What holds of every run. Each of these statements is the contract of a function of the module `laws`.
--
-- Ticks stop where a run stops. Each tick belongs to one number of its run: in a first run the first tick for 0, which
-- is the check at the entry, and in any other for 1. A tick continues where no reason to stop applies at its number or at
-- a lower one. It stops, or says that the program has ended, exactly at the least number at which one applies, and for
-- the first reason there. Ticks of a run that goes back have laws of their own (`StoppingBack`).
use Rattle.std.specs.Prelude.{◌≡◌, ℕ, ℤ, zero, suc, ◌+◌, ◌<◌, ◌≤◌, ◌⊎◌, ◌↔◌, false, if◌then◌else◌, Option}
use Rattle.std.specs.Prelude.{Result, Ok, IsOk, ⊤}
use Rattle.std.specs.declared.alloc.AllocError.{AllocError}
use Rattle.rv32i.specs.Laws.{IsSignedWord}
use Rattle.stepping.specs.Goals.{turns_back}
use Rattle.stepping.specs.Runs.{IsRun}
use Rattle.stepping.specs.Stopping.{After, AppliesAt, Leaves, NoneBelow, StopsAt, place}
use Rattle.stepping.specs.Ticks.{Debugged, IsTick}
use Rattle.stepping.specs.declared.tick.RunEnd.{RunEnd}
use Rattle.stepping.specs.declared.tick.RunEnd.TheVariants.{Spent, Ticked, NoMemory}
use Rattle.stepping.specs.declared.tick.Outcome.{Outcome}
use Rattle.stepping.specs.declared.tick.Outcome.TheVariants.{Went, Stopped, Ended}
use Rattle.stepping.specs.declared.tick.Ran.{Ran}
use Rattle.stepping.specs.declared.tick.Tick.{Tick}

-- ---- where a run stops

-- A run stops at one number at most, for one reason.
abbrev pub StopIsUnique : Type 0
StopIsUnique = (n other : ℕ) (outcome another : Outcome) (start : Debugged) → StopsAt n outcome start →
    StopsAt other another start → (n ≡ other) × (outcome ≡ another)

-- The moves end before an instruction that traps or ends the program: the first two reasons.
abbrev pub MovesEnd : Type 0
MovesEnd = (n later : ℕ) (outcome : Outcome) (start after : Debugged) → place outcome ≤ 2 →
    AppliesAt (suc n) outcome start → n < later → After later start after → ⊥

-- A run may be left after any of its moves, as long as nothing has stopped it. From there its moves are counted anew,
-- and it stops where it would have.
abbrev pub CountsAnew : Type 0
CountsAnew = (moves n : ℕ) (outcome : Outcome) (start middle : Debugged) → After moves start middle →
    NoneBelow (suc moves) start → StopsAt n outcome middle ↔ StopsAt (moves + n) outcome start

-- ---- ticks

-- A machine has one tick: it settles what the tick answers, and what it leaves.
abbrev pub TickIsDeterministic : Type 0
TickIsDeterministic = (before after other : Debugged) (answer another : Result Tick AllocError) →
    IsTick before answer after → IsTick before another other → (answer ≡ another) × (after ≡ other)

-- Each tick of a machine has an answer: that a call found no memory for a page is none.
abbrev pub EachTickAnswers : Type 0
EachTickAnswers = (before after : Debugged) (answer : Result Tick AllocError) → IsTick before answer after → IsOk answer

-- an end has a code that is a signed number of 32 bits
abbrev pub HasSignedCode : Outcome → Type 0
HasSignedCode (Ended code) = IsSignedWord code
HasSignedCode (Stopped reason) = ⊤
HasSignedCode Went = ⊤

-- A tick that says that the program has ended says so with such a code.
abbrev pub EndsWithCodes : Type 0
EndsWithCodes = (before after : Debugged) (tick : Tick) → IsTick before (Ok tick) after → HasSignedCode tick.outcome

-- A machine has a tick: what it answers, and what it leaves.
pub record HasTick (d : Debugged) : Type 0 where
  pub tick : Tick
  pub after : Debugged
  pub is : IsTick d (Ok tick) after

-- Each machine has one.
abbrev pub EachMachineTicks : Type 0
EachMachineTicks = (d : Debugged) → HasTick d

-- a tick answers with this outcome, whatever was printed
abbrev pub AnswersWith : Outcome → Result Tick AllocError → Type 0
AnswersWith outcome answer = (printed : Option ℤ) × (answer ≡ Ok (record { printed = printed; outcome = outcome }))

-- this many ticks, each with the outcome `Went`
abbrev pub GoOn : ℕ → Debugged → Debugged → Type 0
GoOn zero start after = after ≡ start
GoOn (suc ticks) start after = (before : Debugged) × (answer : Result Tick AllocError)
    × (GoOn ticks start before × AnswersWith Went answer × IsTick before answer after)

-- the number of the tick that comes after this many
abbrev pub number_after : ℕ → Debugged → ℕ
number_after ticks start = if start.check_due then ticks else suc ticks

-- what a tick with this number says about its run, by its outcome and the machine after it
abbrev pub Says : ℕ → Outcome → Debugged → Debugged → Type 0
Says n Went start after = NoneBelow (suc n) start × After n start after
Says n (Stopped reason) start after = StopsAt n (Stopped reason) start × Leaves n (Stopped reason) start after
Says n (Ended code) start after = StopsAt n (Ended code) start × Leaves n (Ended code) start after

-- What a tick says is true.
abbrev pub TicksSayWhere : Type 0
TicksSayWhere = (ticks : ℕ) (start before after : Debugged) (tick : Tick) → turns_back start.goal ≡ false →
    GoOn ticks start before → IsTick before (Ok tick) after → Says (number_after ticks start) tick.outcome start after

-- Ticks say all of it: where a run stops at a number, those before it continue, and the one at it gives the reason.
abbrev pub RunsStopThere : Type 0
RunsStopThere = (ticks n : ℕ) (outcome : Outcome) (start before after : Debugged) (answer : Result Tick AllocError) →
    turns_back start.goal ≡ false → StopsAt n outcome start → GoOn ticks start before → IsTick before answer after →
    ((number_after ticks start < n) × AnswersWith Went answer)
    ⊎ ((number_after ticks start ≡ n) × AnswersWith outcome answer)

-- ---- many ticks in one call

-- what they say, by what ended them; where no memory was left for one more, it says nothing
abbrev pub EndingSays : ℕ → RunEnd → Debugged → Debugged → Type 0
EndingSays went Spent start after = NoneBelow (number_after went start) start
EndingSays went (Ticked tick) start after = Says (number_after went start) tick.outcome start after
EndingSays went NoMemory start after = NoneBelow (number_after went start) start

-- What they say is true.
abbrev pub RunsSayWhere : Type 0
RunsSayWhere = (most : ℕ) (ran : Ran) (start after : Debugged) → turns_back start.goal ≡ false →
    IsRun most start ran after → EndingSays ran.went ran.ending start after
