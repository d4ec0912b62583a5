-- Words that are remembered decoded. No public contract says which these are.
--
-- There are 16,384 places, as many as 16 pages have words, and a word is remembered at the place of its address. What is
-- remembered there names that address, since the words of other pages have the same place; what names an address of
-- another place is none.
use Rattle.std.specs.Prelude.{◌≡◌, ◌≢◌, ℕ, ◌+◌, ◌*◌, ◌/◌, ◌%◌, ◌<◌, ◌≤◌, ◌⊎◌, Bool, true, false, nat_lt, not, ◌==◌, ◌&&◌}
use Rattle.std.specs.Prelude.{if◌then◌else◌, List, length, slice_index, slice_index_or, slice_set, None, Result}
use Rattle.std.specs.Prelude.{Ok, Err}
use Rattle.image.specs.Memory.{word_at}
use Rattle.rv32i.specs.Encoding.{Encodes}
use Rattle.rv32i.specs.Machine.{IsMove, sum, trapped}
use Rattle.rv32i.specs.Undoing.{destination}
use Rattle.rv32i.specs.declared.instr.Instr.{Instr}
use Rattle.rv32i.specs.declared.instr.Instr.TheVariants.{Sb, Sh, Sw, Jal, Jalr, Ecall}
use Rattle.rv32i.specs.declared.stepped.Cause.{Cause}
use Rattle.course.specs.Calls.{Kept, with_mark}
use Rattle.course.specs.Marks.{Mark, is_link}
use Rattle.course.specs.declared.entry.Entry.{Entry}
use Rattle.course.specs.declared.moves.Deed.{Deed}
use Rattle.course.specs.declared.moves.Kind.{Kind}
use Rattle.course.specs.declared.moves.Kind.TheVariants as kind
use Rattle.course.specs.Positions.{IsFetched}

-- the place of an address: its page modulo 16, and the word in it
abbrev pub place_of : ℕ → ℕ
place_of at = at / 4 % 16384

-- whether an instruction stores
abbrev pub stores_in : Instr → Bool
stores_in (Sb rs1 rs2 imm) = true
stores_in (Sh rs1 rs2 imm) = true
stores_in (Sw rs1 rs2 imm) = true
stores_in instr = false

-- whether it changes registers and pc alone: it neither stores nor leaves marks on the calls
abbrev pub is_plain : Instr → Bool
is_plain (Sb rs1 rs2 imm) = false
is_plain (Sh rs1 rs2 imm) = false
is_plain (Sw rs1 rs2 imm) = false
is_plain (Jal rd offset) = not (is_link rd)
is_plain (Jalr rd rs1 imm) = not (is_link rd) && not (is_link rs1)
is_plain instr = true

-- whether it returns, and whether it calls, by its marks: it returns first
abbrev pub pops_in : Instr → Bool
pops_in (Jalr rd rs1 imm) = is_link rs1 && not (is_link rd && (rd == rs1))
pops_in instr = false

abbrev pub pushes_in : Instr → Bool
pushes_in (Jal rd offset) = is_link rd
pushes_in (Jalr rd rs1 imm) = is_link rd
pushes_in instr = false

-- a mark that is left, or is not
abbrev pub with_mark_if : Bool → Mark → Kept → Kept
with_mark_if true mark kept = with_mark kept mark
with_mark_if false mark kept = kept

-- where it stores, by the registers
abbrev pub stored_at : Instr → List ℕ → ℕ
stored_at (Sb rs1 rs2 imm) x = sum (slice_index x rs1) imm
stored_at (Sh rs1 rs2 imm) x = sum (slice_index x rs1) imm
stored_at (Sw rs1 rs2 imm) x = sum (slice_index x rs1) imm
stored_at instr x = 0

-- what it will have done, as far as it is known before: the register that it writes, and how many bytes it stores
abbrev pub kind_of : Instr → Kind
kind_of (Sb rs1 rs2 imm) = kind.StoredByte
kind_of (Sh rs1 rs2 imm) = kind.StoredHalf
kind_of (Sw rs1 rs2 imm) = kind.StoredWord
kind_of other = kind.Nothing

abbrev pub deed_of : Instr → Deed
deed_of instr = record { at = 0; register = destination instr; kind = kind_of instr }

-- what is remembered of an instruction at an address
abbrev pub entry_of : ℕ → Instr → Entry
entry_of at instr = record { pc = at; is_plain = is_plain instr; stores = stores_in instr; pops = pops_in instr; pushes = pushes_in instr; deed = deed_of instr; instr = instr }

-- at this place nothing is remembered: the address is one of the next place
abbrev pub elsewhere : ℕ → ℕ
elsewhere place = 4 * place + 4

abbrev pub nothing_at : ℕ → Entry
nothing_at place = entry_of (elsewhere place) Ecall

-- this is remembered rightly
pub record Knows (memory : List ℕ) (entry : Entry) : Type 0 where
  pub word : ℕ
  pub there : word_at memory entry.pc ≡ Ok word
  pub encodes : Encodes entry.instr word
  pub plain : entry.is_plain ≡ is_plain entry.instr
  pub stores : entry.stores ≡ stores_in entry.instr
  pub pops : entry.pops ≡ pops_in entry.instr
  pub pushes : entry.pushes ≡ pushes_in entry.instr
  pub deed_is : entry.deed ≡ deed_of entry.instr

-- the address is none of those from one on up to another
abbrev pub Spares : ℕ → ℕ → ℕ → Type 0
Spares from to at = (at < from) ⊎ (to ≤ at)

-- what is remembered is right, and of none of the addresses from one on up to another
pub record AreKnown (memory : List ℕ) (from to : ℕ) (entries : List Entry) : Type 0 where
  pub knows : (k : ℕ) (d : Entry) → k < length entries → place_of (slice_index_or entries k d).pc ≡ k
      → Knows memory (slice_index_or entries k d)
  pub spares : (k : ℕ) (d : Entry) → k < length entries → place_of (slice_index_or entries k d).pc ≡ k
      → Spares from to (slice_index_or entries k d).pc

-- what is remembered is right, and there is room for more
pub record IsCached (memory : List ℕ) (entries : List Entry) (room : ℕ) : Type 0 where
  pub known : AreKnown memory 0 0 entries
  pub roomy : 16384 ≤ room

-- the word at an address is forgotten, if it is remembered at its place
abbrev pub forgotten_at : ℕ → ℕ → List Entry → List Entry
forgotten_at place at entries = if nat_lt place (length entries)
    then (if (slice_index_or entries place (nothing_at 0)).pc == at
    then slice_set entries place (record (slice_index_or entries place (nothing_at 0)) { pc = elsewhere place })
    else entries)
    else entries

abbrev pub forgotten : ℕ → List Entry → List Entry
forgotten at entries = forgotten_at (place_of at) at entries

-- there are at least `count` places: those that were made have nothing
pub record Makes (count : ℕ) (before after : List Entry) : Type 0 where
  pub enough : count ≤ length after
  pub same : (k : ℕ) (d : Entry) → k < length before → slice_index_or after k d ≡ slice_index_or before k d
  pub nothing : (k : ℕ) (d : Entry) → length before ≤ k → k < length after → place_of (slice_index_or after k d).pc ≢ k

-- an entry is put at its place, and places may be made before, which have nothing
pub record Remembers (entry : Entry) (before after : List Entry) : Type 0 where
  pub made : List Entry
  pub makes : Makes (place_of entry.pc + 1) before made
  pub put : after ≡ slice_set made (place_of entry.pc) entry

-- no instruction can be fetched from an address: that is this trap
pub record Traps (memory : List ℕ) (at : ℕ) (cause : Cause) : Type 0 where
  pub fetched : (x : List ℕ) → IsFetched (record { pc = at; x = x; memory = memory }) None
  pub moves : (x : List ℕ) → IsMove (record { pc = at; x = x; memory = memory })
      (trapped cause (record { pc = at; x = x; memory = memory }))

-- the instruction at an address, or the trap
abbrev pub Fetches : List ℕ → ℕ → Result Instr Cause → Type 0
Fetches memory at (Ok instr) = (word : ℕ) × ((word_at memory at ≡ Ok word) × Encodes instr word)
Fetches memory at (Err cause) = Traps memory at cause

-- the word at an address is remembered at its place, and all else rightly if it was before
pub record IsReady (memory : List ℕ) (at : ℕ) (before after : List Entry) : Type 0 where
  pub fits : place_of at < length after
  pub named : (d : Entry) → (slice_index_or after (place_of at) d).pc ≡ at
  pub known : AreKnown memory 0 0 before → AreKnown memory 0 0 after

abbrev pub Readies : List ℕ → ℕ → List Entry → Result (Unit {0}) Cause → List Entry → Type 0
Readies memory at before (Ok u) after = IsReady memory at before after
Readies memory at before (Err cause) after = Traps memory at cause × (after ≡ before)
