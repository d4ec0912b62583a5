-- Memory is a map. Each of these statements is the contract of a function of the module `laws`.
use Rattle.std.specs.Prelude.{◌≡◌, ℕ, ◌+◌, ◌/◌, ◌%◌, ◌<◌, ◌≤◌, ◌↔◌, true, List, length, replicate, slice_get, Some, IsSome}
use Rattle.image.specs.Memory.{byte_at, bytes_at, fault_at, has_bytes, with_bytes}
use Rattle.image.specs.declared.fault.MemFault.TheVariants.{NoMemory}

-- An address has a byte exactly where it lies from 0x00010000 on and below the end of memory.
abbrev pub BytesLieFromFirst : Type 0
BytesLieFromFirst = (memory : List ℕ) (address : ℕ) → IsSome (byte_at memory address) ↔
    ((0x10000 ≤ address) × (address < 0x10000 + length memory))

-- Addresses are found to have bytes exactly where each of them has one.
abbrev pub EachHasByte : Type 0
EachHasByte = (memory : List ℕ) (address count : ℕ) → (has_bytes memory address count ≡ true) ↔
    ((k : ℕ) → k < count → IsSome (byte_at memory (address + k)))

-- In new memory each byte is 0.
abbrev pub NewIsZero : Type 0
NewIsZero = (size address : ℕ) → 0x10000 ≤ address → address < 0x10000 + size →
    byte_at (replicate size 0) address ≡ Some 0

-- No access is refused for want of memory by its address: that comes from the growth of a page alone.
abbrev pub TakesNoMemory : Type 0
TakesNoMemory = (memory : List ℕ) (aligned address count : ℕ) →
    fault_at memory aligned address count ≡ Some NoMemory → ⊥

-- `count` bytes at a multiple of `count` lie in one page.
abbrev pub LieInOnePage : ℕ → Type 0
LieInOnePage count = (address k : ℕ) → address % count ≡ 0 → k < count →
    (address + k) / 4096 ≡ address / 4096

-- What is read from an address on is the bytes there, one after the other.
abbrev pub ReadsBytes : Type 0
ReadsBytes = (memory : List ℕ) (address count k : ℕ) → has_bytes memory address count ≡ true → k < count →
    slice_get (bytes_at memory address count) k ≡ byte_at memory (address + k)

-- After a write each of its addresses has its byte.
abbrev pub WritesBytes : Type 0
WritesBytes = (memory : List ℕ) (address k : ℕ) (bytes : List ℕ) → has_bytes memory address (length bytes) ≡ true →
    k < length bytes → byte_at (with_bytes memory address bytes) (address + k) ≡ slice_get bytes k

-- Every other address has the byte that it had, or still none: one below the bytes written,
abbrev pub KeepsBelow : Type 0
KeepsBelow = (memory : List ℕ) (address other : ℕ) (bytes : List ℕ) → has_bytes memory address (length bytes) ≡ true →
    other < address → byte_at (with_bytes memory address bytes) other ≡ byte_at memory other

-- and one after them.
abbrev pub KeepsAbove : Type 0
KeepsAbove = (memory : List ℕ) (address other : ℕ) (bytes : List ℕ) → has_bytes memory address (length bytes) ≡ true →
    address + length bytes ≤ other → byte_at (with_bytes memory address bytes) other ≡ byte_at memory other
