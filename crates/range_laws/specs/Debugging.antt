-- A debugged machine in range, with its past.
--
-- Beside its hart and its memory a debugged machine has calls, no more than it keeps, each the address of the
-- instruction that called, and a size, which says where its memory ends and so what sp is when a program is loaded. What a debugger does
-- to it, a tick, bytes that are written, registers that are set, an image that is loaded anew, leaves all these words
-- and bytes. Breakpoints, their hits, the goal of a run and what was counted are no part of this.
--
-- The same is so of each position of its past, and the past leads to where the machine is: each position makes one move
-- to the next. So a move that is undone leaves a machine in range, too, and one from which as many moves lead here.
use Rattle.std.specs.Prelude.{ℕ, ◌+◌, ◌≤◌, List, [], length, Result, All}
use Rattle.std.specs.declared.alloc.AllocError.{AllocError}
use Rattle.breakpoints.specs.Stops.{Lists}
use Rattle.image.specs.Memory.{fault_at, first_address, memory_after, unless_fault, with_bytes}
use Rattle.image.specs.declared.Image.{Image}
use Rattle.rv32i.specs.Machine.{machine_of}
use Rattle.rv32i.specs.declared.hart.Hart.{Hart}
use Rattle.course.specs.Positions.{Position, past_left}
use Rattle.stepping.specs.Leading.{LeadTo}
use Rattle.stepping.specs.Loading.{loaded, reloaded}
use Rattle.stepping.specs.Ticks.{Debugged, IsTick, position_of}
use Rattle.stepping.specs.declared.tick.Tick.{Tick}
use Rattle.range_laws.specs.Machines.{AreBytes, AreRegisters, AreWords, InRange, IsWord}

-- a hart whose pc and registers are words
pub record HartInRange (hart : Hart) : Type 0 where
  pub pc : IsWord hart.pc
  pub x : AreRegisters hart.x

-- an image whose entry is a word, and whose bytes are bytes
pub record ImageInRange (image : Image) : Type 0 where
  pub entry : IsWord image.entry
  pub bytes : AreBytes image.bytes

-- calls that are kept: 256 addresses at most
pub record CallsInRange (calls : List ℕ) : Type 0 where
  pub words : AreWords calls
  pub few : length calls ≤ 256

-- a position whose hart, memory and calls are in range
pub record PositionInRange (p : Position) : Type 0 where
  pub machine : InRange (machine_of p.hart p.memory)
  pub calls : CallsInRange p.calls.calls

-- A debugged machine whose hart, memory and calls are in range, as they were before each of its recorded moves, which lead
-- here, 65,536 at most; and whose memory ends at an address.
pub record DebuggedInRange (d : Debugged) : Type 0 where
  pub machine : InRange (machine_of d.hart d.memory)
  pub calls : CallsInRange d.calls.calls
  pub end : IsWord (first_address + d.size)
  pub past : All PositionInRange d.past
  pub leads : LeadTo d.past (position_of d)
  pub few : length d.past ≤ 65536

-- Each tick leaves one.
abbrev pub TicksStayInRange : Type 0
TicksStayInRange = (before after : Debugged) (answer : Result Tick AllocError) → IsTick before answer after →
    DebuggedInRange before → DebuggedInRange after

-- So is a machine into which an image in range was loaded, where its memory ends at an address,
abbrev pub LoadedIsInRange : Type 0
LoadedIsInRange = (image : Image) (size : ℕ) (lists : Lists) → ImageInRange image → IsWord (first_address + size) →
    DebuggedInRange (loaded image size lists)

-- and one into which it is loaded anew.
abbrev pub ReloadedIsInRange : Type 0
ReloadedIsInRange =
    (image : Image) (d : Debugged) → ImageInRange image → DebuggedInRange d → DebuggedInRange (reloaded image d)

-- the machine after bytes are written from an address on, without its past, or as it was where one of the addresses has
-- no byte
abbrev pub written : ℕ → List ℕ → Debugged → Debugged
written address bytes d = let fault = fault_at d.memory 1 address (length bytes) in record d {
  memory = memory_after fault (with_bytes d.memory address bytes) d.memory;
  past = past_left (unless_fault fault (tt {0})) d.past;
}

-- Bytes that are written leave it in range,
abbrev pub WritesStayInRange : Type 0
WritesStayInRange = (d : Debugged) (address : ℕ) (bytes : List ℕ) → AreBytes bytes → DebuggedInRange d →
    DebuggedInRange (written address bytes d)

-- and so does a hart in range in place of its own.
abbrev pub HartsStayInRange : Type 0
HartsStayInRange = (d : Debugged) (hart : Hart) → HartInRange hart → DebuggedInRange d →
    DebuggedInRange (record d { hart = hart; past = [] })
