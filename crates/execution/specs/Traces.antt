-- The last instructions of a run, told, the oldest first.
--
--   0xADDRESS TEXT reads 0xADDRESS; REGISTER = 0xVALUE NUMBER
--
-- A line has the address of the instruction and its disassembly; the address that it read or wrote, if it did; and the register that it
-- loaded, computed or stored, with its value after it, unless that is x0.
--
-- The machine goes back over the recorded moves, which are 65,536 at most, and forward again.
use Rattle.std.specs.Prelude.{◌≡◌, ℕ, zero, suc, ◌==◌, min, false, if◌then◌else◌, List, [], ◌++◌, length, codes}
use Rattle.std.specs.Prelude.{Option, Some, None, Result, Ok, Err, slice_index}
use Rattle.image.specs.Memory.{word_at}
use Rattle.image.specs.declared.fault.MemFault.{MemFault}
use Rattle.rv32i.specs.Encoding.{IsDecoding}
use Rattle.rv32i.specs.Names.{name_of}
use Rattle.rv32i.specs.Texts.{IsTextOf, address_text}
use Rattle.rv32i.specs.Undoing.{destination}
use Rattle.rv32i.specs.declared.hart.Hart.{Hart}
use Rattle.rv32i.specs.declared.instr.Instr.{Instr}
use Rattle.rv32i.specs.declared.instr.Instr.TheVariants.{Sb, Sh, Sw}
use Rattle.stepping.specs.Ticks.{Debugged, IsTick}
use Rattle.stepping.specs.declared.goal.Goal.{Goal}
use Rattle.stepping.specs.declared.goal.Goal.TheVariants.{Back, Go}
use Rattle.stepping.specs.declared.tick.Tick.{Tick}
use Rattle.execution.specs.Registers.{value_text}
use Rattle.execution.specs.Uses.{use_of}
use Rattle.execution.specs.declared.uses.Use.{Use}
use Rattle.execution.specs.declared.uses.Verb.{Verb}
use Rattle.execution.specs.declared.uses.Verb.TheVariants.{Reads, Writes, GoesTo}

-- ---- a line

-- the register that an instruction loads, computes or stores; x0 where there is none
abbrev pub shown_register : Instr → ℕ
shown_register (Sb rs1 rs2 imm) = rs2
shown_register (Sh rs1 rs2 imm) = rs2
shown_register (Sw rs1 rs2 imm) = rs2
shown_register other = destination other

abbrev pub register_part : ℕ → Hart → List ℕ
register_part reg hart = if reg == 0 then [] else codes "; " ++ name_of reg ++ codes " =" ++ value_text (slice_index hart.x reg)

-- the address that it reads or writes, if it does
abbrev pub address_by : Verb → ℕ → List ℕ
address_by Reads address = codes " reads " ++ address_text address
address_by Writes address = codes " writes " ++ address_text address
address_by GoesTo address = []

abbrev pub address_part : Option Use → List ℕ
address_part None = []
address_part (Some u) = address_by u.verb u.address

-- what an instruction does, by the hart before and after it
abbrev pub change : Instr → Hart → Hart → List ℕ
change instr before after = address_part (use_of instr before) ++ register_part (shown_register instr) after

unfoldable pub changes : Option Instr → Hart → Hart → List ℕ
changes None before after = []
changes (Some instr) before after = change instr before after

-- an instruction at its address
unfoldable pub place : ℕ → List ℕ → List ℕ
place pc text = address_text pc ++ codes " " ++ text

abbrev pub line : List ℕ → Option Instr → Hart → Hart → List ℕ
line text instr before after = place before.pc text ++ changes instr before after ++ codes "\n"

-- the word at an address, or 0 where there is none
abbrev pub word_or_zero : Result ℕ MemFault → ℕ
word_or_zero (Ok word) = word
word_or_zero (Err fault) = 0

abbrev pub word_here : Debugged → ℕ
word_here d = word_or_zero (word_at d.memory d.hart.pc)

-- the line of a word, by the hart before and after its instruction
pub record IsLine (word : ℕ) (before after : Hart) (told : List ℕ) : Type 0 where
  pub text : List ℕ
  pub is_text : IsTextOf word before.pc text
  pub instr : Option Instr
  pub decoded : IsDecoding word instr
  pub all : told ≡ line text instr before after

-- it stands after a text
abbrev pub AddsLine : ℕ → Hart → Hart → List ℕ → List ℕ → Type 0
AddsLine word before after text text' = (told : List ℕ) × IsLine word before after told × (text' ≡ text ++ told)

-- ---- the whole

-- a tick, whatever it says
abbrev pub Ticks : Debugged → Debugged → Type 0
Ticks before after = (tick : Tick) × IsTick before (Ok tick) after

-- a tick and its line, which stands after a text
abbrev pub Adds : Debugged → List ℕ → List ℕ → Debugged → Type 0
Adds before text text' after = Ticks before after × AddsLine (word_here before) before.hart after.hart text text'

-- this many ticks and their lines
abbrev pub Traced : ℕ → Debugged → List ℕ → Debugged → Type 0
Traced zero start told after = (told ≡ []) × (after ≡ start)
Traced (suc n) start told after = (before : Debugged) × (earlier : List ℕ) × Traced n start earlier before × Adds before earlier told after

-- a run begins with a goal
abbrev pub begun : Goal → Debugged → Debugged
begun goal d = record d { goal = goal; start = d.calls.depth; check_due = false }

-- this many moves are undone
abbrev pub WentBack : ℕ → Debugged → Debugged → Type 0
WentBack zero start after = after ≡ start
WentBack (suc n) start after = (before : Debugged) × WentBack n start before × Ticks (begun Back before) after

-- what is told of the last instructions, as many as are asked for and recorded
pub record IsTrace (count : ℕ) (now : Debugged) (told : List ℕ) : Type 0 where
  pub back : Debugged
  pub went_back : WentBack (min (length now.past) count) now back
  pub after : Debugged
  pub traced : Traced (min (length now.past) count) (begun Go back) told after
