-- Where a running program stands: a hart in its memory, and the calls that have not returned.
--
-- The instruction at an address *retires*, and then the next one is at another address, the registers and memory are as
-- the move says, and the calls have its marks; or it *halts*, and nothing has changed: it traps, it asks for the
-- environment, or it stores into a page of zeros for which no memory was left.
--
-- Where a program runs, the hart's own pc is not looked at: the address is told, and the next one is answered.
--
-- A *course* is such a position with its past: those before the last instructions that retired, the newest
-- first. 65,536 are kept at most, so that a debugger can go back.
use Rattle.std.specs.Prelude.{◌≡◌, ℕ, ◌+◌, ◌%◌, ◌<◌, ◌≤◌, if◌then◌else◌, List, [], ◌∷◌, length, take, Option, Some}
use Rattle.std.specs.Prelude.{None, Result, Ok, Err, MatchResult}
use Rattle.std.specs.declared.alloc.AllocError.{AllocError}
use Rattle.image.specs.Memory.{IsBlank, word_at}
use Rattle.rv32i.specs.Encoding.{IsDecoding}
use Rattle.rv32i.specs.Machine.{IsDecodedAtPc, IsMove, Machine, MoveNeedsPage, Store, effect_of, machine_of, store_of}
use Rattle.rv32i.specs.Machine.{trapped}
use Rattle.rv32i.specs.declared.hart.Hart.{Hart}
use Rattle.rv32i.specs.declared.instr.Instr.{Instr}
use Rattle.rv32i.specs.declared.instr.Instr.TheVariants.{Ecall, Ebreak}
use Rattle.rv32i.specs.declared.performing.Halt.{Halt}
use Rattle.rv32i.specs.declared.performing.Halt.TheVariants.{Stopped, NoMemory, Calls, Breaks}
use Rattle.rv32i.specs.declared.stepped.Stepped.{Stepped}
use Rattle.rv32i.specs.declared.stepped.Stepped.TheVariants.{Retired}
use Rattle.rv32i.specs.Undoing.{retires}
use Rattle.course.specs.Calls.{Kept, noted, nothing_kept}

-- a hart, memory, and the calls of the program that are kept
pub record Position : Type 0 where
  pub hart : Hart
  pub memory : List ℕ
  pub calls : Kept

-- a position, and those before the moves that are recorded, the newest first
pub record Course : Type 0 where
  pub now : Position
  pub past : List Position

-- before the first instruction
abbrev pub begun : Hart → List ℕ → Position
begun hart memory = record { hart = hart; memory = memory; calls = nothing_kept }

abbrev pub start_of : Hart → List ℕ → Course
start_of hart memory = record { now = begun hart memory; past = [] }

-- with another pc
abbrev pub position_at : ℕ → Position → Position
position_at pc p = record p { hart = record p.hart { pc = pc } }

-- the machine that stands there, but for its pc
abbrev pub machine_at : ℕ → Position → Machine
machine_at pc p = record { pc = pc; x = p.hart.x; memory = p.memory }

-- the instruction of the word at pc, or none where there is no word, or the word is illegal
abbrev pub IsFetched : Machine → Option Instr → Type 0
IsFetched m instr = MatchResult (word_at m.memory m.pc) (λ word. IsDecoding word instr) (λ fault. instr ≡ None)

-- the calls after an instruction, if one was fetched
abbrev pub noted_if : Kept → Option Instr → ℕ → Kept
noted_if calls None pc = calls
noted_if calls (Some instr) pc = noted calls instr pc

-- The instruction at an address retires, and the next one is at another: that is its move, and it leaves its marks on the
-- calls. The hart's own pc stays.
pub record Retires (at next : ℕ) (before after : Position) : Type 0 where
  pub instr : Instr
  pub decoded : IsDecodedAtPc (machine_at at before) (Some instr)
  pub moves : IsMove (machine_at at before) (record { answer = Ok Retired; machine = machine_at next after })
  pub aligned : next % 4 ≡ 0
  pub calls : after.calls ≡ noted before.calls instr at
  pub pc : after.hart.pc ≡ before.hart.pc

-- what it says that an instruction, or none, halts: it traps; it stores into a page of zeros for which no
-- memory was left; it is an environment call, or EBREAK, and was not carried out
abbrev pub Says : Halt → Option Instr → Machine → Type 0
Says (Stopped cause) instr m = IsMove m (trapped cause m)
Says NoMemory instr m = MoveNeedsPage m
Says Calls instr m = (instr ≡ Some Ecall) × IsMove m (effect_of Ecall m)
Says Breaks instr m = (instr ≡ Some Ebreak) × IsMove m (effect_of Ebreak m)

-- the instruction at an address halts
pub record Halts (at : ℕ) (halt : Halt) (p : Position) : Type 0 where
  pub instr : Option Instr
  pub fetched : IsFetched (machine_at at p) instr
  pub says : Says halt instr (machine_at at p)

-- what the instruction at an address does: it retires and the next one is answered, or it halts, and nothing has
-- changed
abbrev pub Goes : ℕ → Position → Result ℕ Halt → Position → Type 0
Goes at before (Ok next) after = Retires at next before after
Goes at before (Err halt) after = Halts at halt before × (after ≡ before)

-- ---- with the past

-- the past with a move more, of the instruction at an address
abbrev pub recorded : ℕ → Course → List Position
recorded at c = take 65536 (position_at at c.now ∷ c.past)

-- what the instruction at an address does: its move is recorded, if it retires
abbrev pub GoesOn : ℕ → Course → Result ℕ Halt → Course → Type 0
GoesOn at before (Ok next) after = Retires at next before.now after.now × (after.past ≡ recorded at before)
GoesOn at before (Err halt) after = Halts at halt before.now × (after ≡ before)

-- the past after a move to which the hart gives this answer
abbrev pub past_after : Result Stepped AllocError → Course → List Position
past_after answer c = if retires answer then recorded c.now.hart.pc c else c.past

-- the past after bytes were to be written: it is given up where they were
abbrev pub past_left : {A : Type 0} {E : Type 0} → Result A E → List Position → List Position
past_left (Ok value) past = []
past_left (Err error) past = past

-- the newest of the recorded moves is undone, if there is one
abbrev pub undone_to : List Position → Course → Course
undone_to [] c = c
undone_to (before ∷ past) c = record { now = before; past = past }

abbrev pub gone_back : Course → Course
gone_back c = undone_to c.past c

-- ---- memory for a move back

-- The instruction at pc stored, and one of the bytes over which it stored lies in a page of zeros in this memory.
pub record StoredInBlank (before : Machine) (memory : List ℕ) : Type 0 where
  pub instr : Instr
  pub decoded : IsDecodedAtPc before (Some instr)
  pub store : Store
  pub stores : store_of instr before ≡ Some store
  pub at : ℕ
  pub from : store.address ≤ at
  pub below : at < store.address + length store.bytes
  pub blank : IsBlank memory at

-- Memory may be lacking for a move that is undone only where one is recorded, and it was such a store: its bytes are put
-- back.
abbrev pub UndoNeedsPage : List Position → List ℕ → Type 0
UndoNeedsPage [] memory = ⊥
UndoNeedsPage (before ∷ past) memory = StoredInBlank (machine_of before.hart before.memory) memory
