-- What `writeMemory` answers (DAP specification, `WriteMemoryRequest`), and what it writes.
--
-- The bytes are written from the address on that the reference and the offset come to; no more than 65,536 are given. The
-- first of them has to go into memory. Where none is given, the address need only be a number of 32 bits. Where memory ends
-- before the last of them, none is written, or, if the request allows that, those that fit.
use Rattle.std.specs.Prelude.{◌≡◌, ℕ, ◌==◌, nat_lt, Bool, false, true, if◌then◌else◌, List, [], ◌∷◌, length}
use Rattle.std.specs.Prelude.{Option, Some, None, Result, Ok, Err, codes, pos, refl}
use Rattle.protocol.specs.declared.refusal.Refusal.{Refusal}
use Rattle.protocol.specs.declared.refusal.Refusal.TheVariants.{BadMemoryReference, OutsideMemory, TooMuch}
use Rattle.protocol.specs.declared.write_memory.WriteMemoryArguments.{WriteMemoryArguments}
use Rattle.replies.specs.declared.response.ResponseBody.TheVariants.{WriteMemory}
use Rattle.answers.specs.ReadMemory.{bytes_from, start_at}
use Rattle.numerals.specs.MemoryReferences.{offset_by}
use Rattle.numerals.specs.Words.{word_of}
use Rattle.answers.specs.declared.write_memory.Writing.{Writing}

-- ---- where writing begins

abbrev pub start_by : List ℕ → WriteMemoryArguments → Option ℕ → Result ℕ Refusal
start_by memory arguments None = Err BadMemoryReference
start_by memory arguments (Some reference) =
    if nat_lt 65536 (length arguments.bytes) then Err TooMuch
    else start_at memory (length arguments.bytes) (offset_by arguments.offset (Some reference))

-- the address of the first byte, or the refusal
abbrev pub start : List ℕ → WriteMemoryArguments → Result ℕ Refusal
start memory arguments = start_by memory arguments (word_of arguments.memory_reference)

-- ---- what is written

-- how many of this many bytes fit into memory from an address on: as many as can be read there
abbrev pub fitting : List ℕ → ℕ → ℕ → ℕ
fitting memory count address = length (bytes_from memory count address)

-- this many of the bytes are written from an address on
abbrev pub writing_of : ℕ → ℕ → Writing
writing_of address count =
    record { body = WriteMemory (record { bytes_written = count }); address = address; count = count }

-- what is written from there on; `partial`: the request allows that not all is
abbrev pub written_at : List ℕ → Bool → ℕ → ℕ → Result Writing Refusal
written_at memory partial count address =
    if fitting memory count address == count then Ok (writing_of address count)
    else if partial then Ok (writing_of address (fitting memory count address))
    else Err OutsideMemory

abbrev pub written : List ℕ → WriteMemoryArguments → Result ℕ Refusal → Result Writing Refusal
written memory arguments (Ok address) = written_at memory arguments.allow_partial (length arguments.bytes) address
written memory arguments (Err refusal) = Err refusal

-- the answer, and which bytes are written where
abbrev pub write_memory : WriteMemoryArguments → List ℕ → Result Writing Refusal
write_memory arguments memory = written memory arguments (start memory arguments)

past_the_end : write_memory (record { memory_reference = codes "0x00010001"; offset = pos 0; bytes = 7 ∷ 8 ∷ []; allow_partial = false })
    (1 ∷ 2 ∷ []) ≡ Err OutsideMemory
past_the_end = refl

what_fits : write_memory (record { memory_reference = codes "0x00010001"; offset = pos 0; bytes = 7 ∷ 8 ∷ []; allow_partial = true })
    (1 ∷ 2 ∷ []) ≡ Ok (writing_of 65537 1)
what_fits = refl

nothing_anywhere : write_memory (record { memory_reference = codes "7"; offset = pos 0; bytes = []; allow_partial = false }) []
    ≡ Ok (writing_of 7 0)
nothing_anywhere = refl
