-- Whether what an editor knows is so.
--
-- Facts hold where each of them is so: how the machine runs, each breakpoint at its place in its list, each frame with
-- its number, address and name, each register and each byte. What is unknown holds. That the machine has ended, without
-- a code, holds also where it has ended with one.
use Rattle.std.specs.Prelude.{◌≡◌, ℕ, List, Option, Some, None, slice_get, ⊤}
use Rattle.facts.specs.Facts.{Facts}
use Rattle.facts.specs.declared.run.RunState.{RunState}
use Rattle.facts.specs.declared.run.RunState.TheVariants.{Unknown, Running, Stopped, Ended}

-- it has ended, in whatever way
abbrev pub HasEnded : RunState → Type 0
HasEnded Unknown = ⊥
HasEnded Running = ⊥
HasEnded Stopped = ⊥
HasEnded (Ended code) = ⊤

-- how the machine runs, if that is known
abbrev pub HoldsRun : RunState → RunState → Type 0
HoldsRun Unknown so = ⊤
HoldsRun Running so = so ≡ Running
HoldsRun Stopped so = so ≡ Stopped
HoldsRun (Ended None) so = HasEnded so
HoldsRun (Ended (Some code)) so = so ≡ Ended (Some code)

-- what is known at a place is so there
abbrev pub HoldsAt : {A : Type 0} → (ℕ → Option A) → (ℕ → Option A) → Type 0
HoldsAt known so = (place : ℕ) → (x : _) → known place ≡ Some x → so place ≡ Some x

-- each of what is known is so
pub record Holds (known so : Facts) : Type 0 where
  pub run : HoldsRun known.run so.run
  pub source : (path : List ℕ) → HoldsAt (slice_get (known.source path)) (slice_get (so.source path))
  pub instructions : HoldsAt (slice_get known.instructions) (slice_get so.instructions)
  pub functions : HoldsAt (slice_get known.functions) (slice_get so.functions)
  pub frame : HoldsAt known.frame so.frame
  pub register : HoldsAt known.register so.register
  pub byte : HoldsAt known.byte so.byte
