-- What an editor may know of the machine.
--
-- An editor sees the machine through messages alone. What they tell is a set of facts: whether the machine runs, which
-- breakpoints are set, and, of a machine that stands still, its frames, its registers and bytes of its memory. Whatever was
-- not told is unknown. A fact may be old: it says what the machine was when the message was made.
use Rattle.std.specs.Prelude.{ℕ, List, [], Bool, false, Option, None}
use Rattle.facts.specs.declared.breakpoint.BreakInfo.{BreakInfo}
use Rattle.facts.specs.declared.frame.FrameInfo.{FrameInfo}
use Rattle.facts.specs.declared.run.RunState.{RunState}
use Rattle.facts.specs.declared.run.RunState.TheVariants.{Unknown}

pub record Facts : Type 0 where
  -- whether the machine runs
  pub run : RunState
  -- whether a `launch` succeeded
  pub launched : Bool
  -- the breakpoints that are set in the source of a path, in order
  pub source : List ℕ → List BreakInfo
  -- the breakpoints that are set at instructions, in order
  pub instructions : List BreakInfo
  -- the breakpoints that are set at functions, in order
  pub functions : List BreakInfo
  -- the frames by index, the innermost is 0
  pub frame : ℕ → Option FrameInfo
  -- the values of the registers by number: 0 to 31, and 32 is pc
  pub register : ℕ → Option ℕ
  -- the bytes of memory by address
  pub byte : ℕ → Option ℕ

-- of none is anything known
abbrev pub unknown : {A : Type 0} → ℕ → Option A
unknown place = None

-- before anything was told
abbrev pub nothing_known : Facts
nothing_known = record {
  run = Unknown;
  launched = false;
  source = λ path. [];
  instructions = [];
  functions = [];
  frame = unknown;
  register = unknown;
  byte = unknown;
}
