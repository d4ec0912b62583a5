-- What `readMemory` answers (DAP specification, `ReadMemoryRequest`).
--
-- The bytes are those from the address on that the reference and the offset come to; no more than 65,536 are asked for.
-- The first of them has to lie in memory. Where none is asked for, the address need only be a number of 32 bits. Where
-- memory ends before the last of them, the answer has the bytes up to its end, and says how many are missing.
use Rattle.std.specs.Prelude.{◌≡◌, ℕ, ◌-◌, ◌==◌, min, nat_lt, pos, Bool, ◌||◌, if◌then◌else◌, List, [], ◌∷◌, length}
use Rattle.std.specs.Prelude.{Option, Some, None, is_some, Result, Ok, Err, codes, refl}
use Rattle.image.specs.Memory.{byte_at, bytes_at}
use Rattle.protocol.specs.declared.read_memory.ReadMemoryArguments.{ReadMemoryArguments}
use Rattle.protocol.specs.declared.refusal.Refusal.{Refusal}
use Rattle.protocol.specs.declared.refusal.Refusal.TheVariants.{BadMemoryReference, OutsideMemory, TooMuch}
use Rattle.replies.specs.declared.response.ResponseBody.{ResponseBody}
use Rattle.replies.specs.declared.response.ResponseBody.TheVariants.{ReadMemory}
use Rattle.numerals.specs.MemoryReferences.{offset_by}
use Rattle.numerals.specs.Words.{word_of}

-- ---- where reading begins

-- whether reading this many bytes can begin at an address, even if not all of them are there
abbrev pub can_begin : List ℕ → ℕ → ℕ → Bool
can_begin memory count address = (count == 0) || is_some (byte_at memory address)

abbrev pub start_at : List ℕ → ℕ → Option ℕ → Result ℕ Refusal
start_at memory count None = Err OutsideMemory
start_at memory count (Some address) = if can_begin memory count address then Ok address else Err OutsideMemory

abbrev pub start_by : List ℕ → ReadMemoryArguments → Option ℕ → Result ℕ Refusal
start_by memory arguments None = Err BadMemoryReference
start_by memory arguments (Some reference) =
    if nat_lt 65536 arguments.count then Err TooMuch
    else start_at memory arguments.count (offset_by arguments.offset (Some reference))

-- the address of the first byte, or the refusal
abbrev pub start : List ℕ → ReadMemoryArguments → Result ℕ Refusal
start memory arguments = start_by memory arguments (word_of arguments.memory_reference)

-- ---- what is read

-- at most this many bytes from an address on; no address has more than 32 bits
abbrev pub bytes_from : List ℕ → ℕ → ℕ → List ℕ
bytes_from memory count address = bytes_at memory address (min count (4294967296 - address))

abbrev pub body_at : List ℕ → ℕ → ℕ → ResponseBody
body_at memory count address = ReadMemory (record {
  address = address;
  bytes = bytes_from memory count address;
  unreadable_bytes = count - length (bytes_from memory count address);
})

abbrev pub read : List ℕ → ℕ → Result ℕ Refusal → Result ResponseBody Refusal
read memory count (Ok address) = Ok (body_at memory count address)
read memory count (Err refusal) = Err refusal

-- the answer
abbrev pub read_memory : List ℕ → ReadMemoryArguments → Result ResponseBody Refusal
read_memory memory arguments = read memory arguments.count (start memory arguments)

memory_ends : read_memory (1 ∷ 2 ∷ 3 ∷ []) (record { memory_reference = codes "0x00010001"; offset = pos 0; count = 8 })
    ≡ Ok (ReadMemory (record { address = 65537; bytes = 2 ∷ 3 ∷ []; unreadable_bytes = 6 }))
memory_ends = refl

no_bytes_anywhere : read_memory (1 ∷ []) (record { memory_reference = codes "7"; offset = pos 1; count = 0 })
    ≡ Ok (ReadMemory (record { address = 8; bytes = []; unreadable_bytes = 0 }))
no_bytes_anywhere = refl

a_byte_outside : read_memory (1 ∷ []) (record { memory_reference = codes "65536"; offset = pos 1; count = 1 })
    ≡ Err OutsideMemory
a_byte_outside = refl

a_bad_reference_first : read_memory [] (record { memory_reference = codes "sp"; offset = pos 0; count = 65537 })
    ≡ Err BadMemoryReference
a_bad_reference_first = refl
