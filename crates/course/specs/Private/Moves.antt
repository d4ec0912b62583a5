-- What undoes a move, so that its past need not be kept.
--
-- A move of the hart is undone by what it wrote over. Of the calls a move made one, or one returned with it, or both:
-- so it is undone by that, and by the call that was kept no longer, since it returned, or since 256 newer ones are kept.
use Rattle.std.specs.Prelude.{◌≡◌, ℕ, ◌+◌, ◌-◌, ◌^◌, ◌<◌, ◌≤◌, false, List, [], ◌∷◌, ◌++◌, reverse, take, drop, length, slice_index, true, Option, Some, None, Result, Ok, Err, ⊤}
use Rattle.circular_buffer.specs.Buffer.{Buffer, keep_last}
use Rattle.rv32i.specs.Machine.{IsDecodedAtPc, Machine, Store, machine_of, store_of}
use Rattle.std.specs.Int.{to_le_bytes, w32}
use Rattle.image.specs.Memory.{NeedsPage, bytes_at, fault_at}
use Rattle.rv32i.specs.Undoing.{IsKept, destination, stored, undone}
use Rattle.rv32i.specs.declared.instr.Instr.{Instr}
use Rattle.rv32i.specs.declared.undo.Undo.{Undo}
use Rattle.rv32i.specs.declared.performing.Halt.{Halt}
use Rattle.rv32i.proofs.Zero.{undone_zero}
use Rattle.course.specs.Calls.{Kept}
use Rattle.course.specs.Private.Words.{stores_in}
use Rattle.course.specs.Positions.{Course, Halts, Position, Retires, position_at}
use Rattle.course.specs.declared.calls.Called.{Called}
use Rattle.course.specs.declared.calls.Called.TheVariants.{Nothing, Pushed, PushedOut, Popped, PoppedFrom, Swapped, SwappedFrom}
use Rattle.course.specs.declared.moves.Deed.{Deed}
use Rattle.course.specs.declared.moves.Kind.{Kind}
use Rattle.course.specs.declared.moves.Kind.TheVariants as kind
use Rattle.course.specs.declared.moves.Move.{Move}

-- ---- of the calls

-- the calls before a move, by what it did to them
abbrev pub unnoted : Called → Kept → Kept
unnoted Nothing kept = kept
unnoted Pushed kept = record { depth = kept.depth - 1; calls = drop 1 kept.calls }
unnoted (PushedOut oldest) kept =
    record { depth = kept.depth - 1; calls = keep_last 256 (drop 1 kept.calls ++ oldest ∷ []) }
unnoted Popped kept = record { depth = kept.depth + 1; calls = kept.calls }
unnoted (PoppedFrom newest) kept = record { depth = kept.depth + 1; calls = take 256 (newest ∷ kept.calls) }
unnoted Swapped kept = record { depth = kept.depth; calls = drop 1 kept.calls }
unnoted (SwappedFrom newest) kept =
    record { depth = kept.depth; calls = take 256 (newest ∷ drop 1 kept.calls) }

-- a call, by the oldest that is kept no longer, if there is one; a return from a call that was open, by what was kept
-- of it; and a return that calls
abbrev pub pushed : Option ℕ → Called
pushed None = Pushed
pushed (Some oldest) = PushedOut oldest

abbrev pub popped : Option ℕ → Called
popped None = Popped
popped (Some newest) = PoppedFrom newest

abbrev pub swapped : Option ℕ → Called
swapped None = Swapped
swapped (Some newest) = SwappedFrom newest

-- no more calls are kept than may be, nor than are open, and these can be counted
pub record CanBeKept (kept : Kept) : Type 0 where
  pub deep : length kept.calls ≤ kept.depth
  pub few : length kept.calls ≤ 256
  pub counted : kept.depth < 2 ^ 64

-- ---- what is kept

-- of an instruction at an address, which writes over this, and does that; and of one that changes pc alone
abbrev pub kept : ℕ → ℕ → Deed → Move
kept pc was deed = record { pc = pc; was = was; deed = deed }

abbrev pub kept_of_pc : ℕ → Move
kept_of_pc pc = kept pc 0 (record { at = 0; register = 0; kind = kind.Nothing })

-- where it stored
abbrev pub placed : ℕ → Move → Move
placed at move = record move { deed = record move.deed { at = at } }

-- what it did to the calls
abbrev pub with_deed : ℕ → Kind → Move → Move
with_deed at kind move = record move { deed = record { at = at; register = move.deed.register; kind = kind } }

abbrev pub with_called : Called → Move → Move
with_called Nothing move = move
with_called Pushed move = with_deed 0 kind.Pushed move
with_called (PushedOut oldest) move = with_deed oldest kind.PushedOut move
with_called Popped move = with_deed 0 kind.Popped move
with_called (PoppedFrom newest) move = with_deed newest kind.PoppedFrom move
with_called Swapped move = with_deed 0 kind.Swapped move
with_called (SwappedFrom newest) move = with_deed newest kind.SwappedFrom move

-- what undoes it of the hart and of memory
abbrev pub undo_of : Move → ℕ → ℕ → Undo
undo_of move address count = record {
  pc = move.pc;
  value = move.was;
  address = address;
  bytes = to_le_bytes w32 move.was;
  register = move.deed.register;
  count = count;
}

abbrev pub undo_by : Kind → Move → Undo
undo_by kind.StoredByte move = undo_of move move.deed.at 1
undo_by kind.StoredHalf move = undo_of move move.deed.at 2
undo_by kind.StoredWord move = undo_of move move.deed.at 4
undo_by other move = undo_of move 0 0

abbrev pub undo_in : Move → Undo
undo_in move = undo_by move.deed.kind move

-- one of the bytes that it puts back lies in a page of zeros
abbrev pub PutsInBlank : Undo → List ℕ → Type 0
PutsInBlank u memory = NeedsPage 1 memory u.address (length (take u.count u.bytes))

-- and what it did to the calls
abbrev pub called_by : Kind → ℕ → Called
called_by kind.Pushed at = Pushed
called_by kind.PushedOut at = PushedOut at
called_by kind.Popped at = Popped
called_by kind.PoppedFrom at = PoppedFrom at
called_by kind.Swapped at = Swapped
called_by kind.SwappedFrom at = SwappedFrom at
called_by other at = Nothing

abbrev pub called_in : Move → Called
called_in move = called_by move.deed.kind move.deed.at

-- A store of `count` bytes to an address writes over these, if it does not trap.
abbrev pub AreOver : List ℕ → ℕ → ℕ → List ℕ → Type 0
AreOver bytes address count memory = fault_at memory count address count ≡ None
    → take count bytes ≡ bytes_at memory address count

-- An instruction writes over this: the value of a register, or the bytes of a store.
pub record IsOver (was : ℕ) (i : Instr) (x memory : List ℕ) : Type 0 where
  pub value : stores_in i ≡ false → was ≡ slice_index x (destination i)
  pub bytes : stores_in i ≡ true → AreOver (to_le_bytes w32 was) (stored i x).address (stored i x).count memory

-- It puts back as many bytes as this instruction stores, and where it does.
pub record StoredBy (i : Instr) (m : Machine) (u : Undo) : Type 0 where
  pub store : Store
  pub stores : store_of i m ≡ Some store
  pub address : u.address ≡ store.address
  pub count : u.count ≡ length store.bytes

-- It undoes the move of this instruction, and did nothing to the calls.
pub record IsKeptBy (move : Move) (i : Instr) (m : Machine) : Type 0 where
  pub undo : Undo
  pub kept : IsKept i m undo
  pub same : (after : Machine) → undone (undo_in move) after ≡ undone undo after
  pub called : called_in move ≡ Nothing
  pub alone : stores_in i ≡ false → undo_in move ≡ undo_of move 0 0
  pub place : 1 ≤ (undo_in move).count → StoredBy i m (undo_in move)

-- ---- of a position

abbrev pub machine_in : Position → Machine
machine_in p = machine_of p.hart p.memory

-- the position before a move
abbrev pub unmade : Move → Position → Position
unmade move p = let m = undone (undo_in move) (machine_in p) in record {
  hart = record { pc = m.pc; x = m.x; zero = undone_zero (undo_in move) (machine_in p) p.hart.zero };
  memory = m.memory;
  calls = unnoted (called_in move) p.calls;
}

abbrev pub CanBeUnmade : Move → Position → Type 0
CanBeUnmade move p = CanBeKept (unmade move p).calls

-- What puts bytes back is of a store, which the instruction at pc was.
abbrev pub IsOfStore : Move → Position → Type 0
IsOfStore move before = 1 ≤ (undo_in move).count
    → (i : Instr) × (IsDecodedAtPc (machine_in before) (Some i) × StoredBy i (machine_in before) (undo_in move))

-- An instruction at an address retires, the next one is at this one, and what is kept of its move undoes it.
pub record IsMade (at next : ℕ) (before : Position) (made : Move) (after : Position) : Type 0 where
  pub retires : Retires at next before after
  pub undoes : unmade made after ≡ position_at at before
  pub stored : IsOfStore made (position_at at before)
  pub kept : CanBeKept before.calls

-- ---- what is recorded, the newest first, 65,536 at most

-- by those that were handed on and those after them, each the oldest first
abbrev pub logged : List Move → List Move → List Move
logged ring newest = take 65536 (reverse (ring ++ newest))

-- those that were handed on, and those after them
pub record Log : Type 0 where
  pub ring : List Move
  pub newest : List Move

abbrev pub moves_of : Log → List Move
moves_of log = logged log.ring log.newest

-- the newest ones may be handed on to the ring: that changes nothing of what is recorded
pub record HandsOn (ring : Buffer Move) (newest : List Move) (to : Buffer Move) (after : List Move) : Type 0 where
  pub same : logged to.items after ≡ logged ring.items newest
  pub capacity : to.capacity ≡ 65536
  pub few : length ring.items ≤ 65536 → length to.items ≤ 65536

-- A move is put down behind all others; before, the newest ones may have been handed on.
abbrev pub put_last : Move → Log → Log
put_last made log = record log { newest = log.newest ++ made ∷ [] }

pub record Puts (made : Move) (before after : Log) : Type 0 where
  pub roomy : Log
  pub same : moves_of roomy ≡ moves_of before
  pub is : after ≡ put_last made roomy

-- It is taken back, or it is known what more it did.
abbrev pub TakesBack : Log → Log → Type 0
TakesBack before after = (made : Move) (log : Log) → before ≡ put_last made log → after ≡ log

abbrev pub Amends : (Move → Move) → Log → Log → Type 0
Amends more before after = (made : Move) (log : Log) → before ≡ put_last made log → after ≡ put_last (more made) log

-- with a move more
abbrev pub with_move : Move → List Move → List Move
with_move made moves = take 65536 (made ∷ moves)

abbrev pub GoesBy : ℕ → Position → List Move → Result ℕ Halt → Position → List Move → Type 0
GoesBy at before moves (Ok next) after more = (made : Move) × (IsMade at next before made after × (more ≡ with_move made moves))
GoesBy at before moves (Err halt) after more = Halts at halt before × ((after ≡ before) × (more ≡ moves))

-- it is recorded what a jump did to the calls
pub record NotesJump (before after : Kept) (log more : Log) : Type 0 where
  pub called : Called
  pub back : unnoted called after ≡ before
  pub notes : Amends (with_called called) log more

-- ---- of a course

-- the positions before each of these moves; the newest led here
abbrev pub past_of : List Move → Position → List Position
past_of [] p = []
past_of (move ∷ moves) p = unmade move p ∷ past_of moves (unmade move p)

-- each of them has calls that can be kept, and what is kept of its move is of a store where it puts bytes back
abbrev pub AllAreKept : List Move → Position → Type 0
AllAreKept [] p = ⊤
AllAreKept (move ∷ moves) p =
    CanBeUnmade move p × (IsOfStore move (unmade move p) × AllAreKept moves (unmade move p))

-- a position with its past, by what is kept
abbrev pub course_of : Position → List Move → Course
course_of now moves = record { now = now; past = past_of moves now }
