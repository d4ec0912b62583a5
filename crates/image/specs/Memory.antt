-- The memory of the machine (RISC-V Unprivileged ISA 20191213, sections 1.4 and 2.6).
--
-- Memory is a finite map from address to byte. The addresses that have a byte follow each other from 0x00010000 on,
-- so the map is written as the list of its bytes in the order of their addresses: the byte at 0x00010000 + k is the
-- k-th of the list. All other addresses have none, and an access to one of these is a fault.
--
-- Memory is made of pages of 4,096 bytes. Whether a page takes room yet is nothing that a reader of memory can tell: a
-- byte that was never written is 0. A write may find no room for a page, and then nothing is written; that can only be a
-- page whose bytes are all still 0.
--
-- A halfword is 2 bytes and a word is 4, little-endian: the byte at the lowest address has the least weight. A halfword
-- lies at a multiple of 2, a word at a multiple of 4; that is looked at before anything else.
use Rattle.std.specs.Prelude.{◌≡◌, ℕ, ◌+◌, ◌-◌, ◌*◌, ◌/◌, ◌%◌, ◌<◌, ◌≤◌, Bool, ◌==◌, nat_le, nat_lt, if◌then◌else◌, ◌&&◌, ◌||◌}
use Rattle.std.specs.Prelude.{not, List, [], ◌∷◌, ◌++◌, length, take, drop, slice_get, Option, Some, None, Result, Ok}
use Rattle.std.specs.Prelude.{Err, refl}
use Rattle.image.specs.declared.fault.MemFault.{MemFault}
use Rattle.image.specs.declared.fault.MemFault.TheVariants.{Misaligned, Outside, NoMemory}

-- the lowest address that has a byte
abbrev pub first_address : ℕ
first_address = 65536

-- the byte at an address, where it has one
abbrev pub byte_at : List ℕ → ℕ → Option ℕ
byte_at memory address = if nat_lt address first_address then None else slice_get memory (address - first_address)

-- whether each of `count` addresses from this one on has a byte
abbrev pub has_bytes : List ℕ → ℕ → ℕ → Bool
has_bytes memory address count = (count == 0)
    || (nat_le first_address address && nat_le (address + count) (first_address + length memory))

-- `count` bytes from an address on, where each is there
abbrev pub bytes_at : List ℕ → ℕ → ℕ → List ℕ
bytes_at memory address count = take count (drop (address - first_address) memory)

-- memory with these bytes from an address on, and its own bytes everywhere else
abbrev pub with_bytes : List ℕ → ℕ → List ℕ → List ℕ
with_bytes memory address bytes = take (address - first_address) memory ++ bytes ++
    drop (address - first_address + length bytes) memory

-- what little-endian bytes are worth
abbrev pub little_endian : List ℕ → ℕ
little_endian [] = 0
little_endian (byte ∷ bytes) = byte + 256 * little_endian bytes

-- the bytes of a halfword, the least significant first
abbrev pub halfword_bytes : ℕ → List ℕ
halfword_bytes halfword = halfword % 256 ∷ halfword / 256 % 256 ∷ []

-- the bytes of a word, the least significant first
abbrev pub word_bytes : ℕ → List ℕ
word_bytes word = word % 256 ∷ word / 256 % 256 ∷ word / 65536 % 256 ∷ word / 16777216 % 256 ∷ []

word_bytes_of : word_bytes 0x02010000 ≡ 0 ∷ 0 ∷ 1 ∷ 2 ∷ []
word_bytes_of = refl

-- Why an access of `count` bytes is refused: its address is no multiple of what it has to be, or one of the bytes is
-- not there. The first of these, if there is one.
abbrev pub fault_at : List ℕ → ℕ → ℕ → ℕ → Option MemFault
fault_at memory aligned address count = if not (address % aligned == 0) then Some Misaligned
    else if has_bytes memory address count then None else Some Outside

-- a value, or the fault that came first
abbrev pub unless_fault : {A : Type 0} → Option MemFault → A → Result A MemFault
unless_fault None value = Ok value
unless_fault (Some fault) value = Err fault

-- the halfword at an address, or the fault
abbrev pub halfword_at : List ℕ → ℕ → Result ℕ MemFault
halfword_at memory address = unless_fault (fault_at memory 2 address 2) (little_endian (bytes_at memory address 2))

-- the word at an address, or the fault
abbrev pub word_at : List ℕ → ℕ → Result ℕ MemFault
word_at memory address = unless_fault (fault_at memory 4 address 4) (little_endian (bytes_at memory address 4))

-- the memory after a write, or what it was where there is a fault
abbrev pub memory_after : Option MemFault → List ℕ → List ℕ → List ℕ
memory_after None written kept = written
memory_after (Some fault) written kept = kept

-- Bytes are written from an address on, at a multiple of what that has to be, or a fault is answered and nothing is.
pub record Writes (aligned : ℕ) (before : List ℕ) (address : ℕ) (bytes : List ℕ) (answer : Result (Unit {0}) MemFault)
    (after : List ℕ) : Type 0 where
  pub answers : answer ≡ unless_fault (fault_at before aligned address (length bytes)) tt
  pub leaves :
      after ≡ memory_after (fault_at before aligned address (length bytes)) (with_bytes before address bytes) before

-- ---- room

-- each byte of the page of an address is 0
abbrev pub IsBlank : List ℕ → ℕ → Type 0
IsBlank memory address = (other : ℕ) → other / 4096 ≡ address / 4096 → byte_at memory other ≡ Some 0

-- Bytes could be written from an address on, but for the room of a page: there is no fault, and one of the bytes lies
-- in a page of zeros.
pub record NeedsPage (aligned : ℕ) (memory : List ℕ) (address count : ℕ) : Type 0 where
  pub no_fault : fault_at memory aligned address count ≡ None
  pub at : ℕ
  pub from : address ≤ at
  pub below : at < address + count
  pub blank : IsBlank memory at

-- The same, or no room was left for a page, and nothing is written.
abbrev pub WritesOrLacks : ℕ → List ℕ → ℕ → List ℕ → Result (Unit {0}) MemFault → List ℕ → Type 0
WritesOrLacks aligned before address bytes (Err NoMemory) after =
    NeedsPage aligned before address (length bytes) × (after ≡ before)
WritesOrLacks aligned before address bytes answer after = Writes aligned before address bytes answer after
