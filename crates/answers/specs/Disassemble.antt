-- What `disassemble` answers (DAP specification, `DisassembleRequest`, `DisassembledInstruction`).
--
-- An instruction has 4 bytes. The k-th of those that are asked for, from 0, is at the place that the reference, the
-- offset and 4 for each instruction before it come to, which may be any whole number. Where that is the address of a
-- word of memory, the entry has the word and its disassembly; else it says that it has none, at the place modulo
-- 2^32. No more than 4,096 are asked for.
use Rattle.std.specs.Prelude.{◌≡◌, ℕ, ℤ, zero, suc, pos, neg_ℤ, ◌+ℤ◌, ◌*ℤ◌, ◌^◌, nat_lt, if◌then◌else◌, List, [], ◌∷◌}
use Rattle.std.specs.Prelude.{Option, Some, None, Result, Ok, Err, refl, unsigned_abs}
use Rattle.std.specs.Int.{int_rem_euclid}
use Rattle.std.specs.Result.{result_ok}
use Rattle.image.specs.Memory.{word_at}
use Rattle.protocol.specs.declared.disassemble.DisassembleArguments.{DisassembleArguments}
use Rattle.protocol.specs.declared.refusal.Refusal.{Refusal}
use Rattle.protocol.specs.declared.refusal.Refusal.TheVariants.{BadMemoryReference, TooMuch}
use Rattle.message_parts.specs.declared.disassemble.Instruction.{Instruction}
use Rattle.message_parts.specs.declared.disassemble.Instruction.TheVariants.{Valid, Invalid}
use Rattle.replies.specs.declared.response.ResponseBody.{ResponseBody}
use Rattle.replies.specs.declared.response.ResponseBody.TheVariants.{Disassemble}
use Rattle.numerals.specs.MemoryReferences.{address_of}
use Rattle.numerals.specs.Words.{word_of}
use Rattle.answers.specs.Texts.{text_at}

-- ---- where it begins

-- the place of the first instruction
abbrev pub first_place : ℕ → ℤ → ℤ → ℤ
first_place reference offset instructions = (pos reference +ℤ offset) +ℤ (pos 4 *ℤ instructions)

abbrev pub start_by : DisassembleArguments → Option ℕ → Result ℤ Refusal
start_by arguments None = Err BadMemoryReference
start_by arguments (Some reference) =
    if nat_lt 4096 arguments.instruction_count then Err TooMuch
    else Ok (first_place reference arguments.offset arguments.instruction_offset)

-- the place of the first instruction, or the refusal
abbrev pub start : DisassembleArguments → Result ℤ Refusal
start arguments = start_by arguments (word_of arguments.memory_reference)

-- ---- what is at a place

-- the word at an address, where there is one: in memory, at a multiple of 4
abbrev pub word_in : List ℕ → Option ℕ → Option ℕ
word_in memory None = None
word_in memory (Some address) = result_ok (word_at memory address)

-- a place modulo 2^32
abbrev pub wrapped : ℤ → ℕ
wrapped place = unsigned_abs (int_rem_euclid place (pos (2 ^ 32)))

abbrev pub entry_by : ℕ → Option ℕ → Instruction
entry_by address None = Invalid address
entry_by address (Some word) = Valid address (text_at word address) word

-- what is at a place
abbrev pub entry : List ℕ → ℤ → Instruction
entry memory place = entry_by (wrapped place) (word_in memory (address_of place))

-- this many entries from a place on
abbrev pub entries_from : List ℕ → ℤ → ℕ → List Instruction
entries_from memory place zero = []
entries_from memory place (suc count) = entry memory place ∷ entries_from memory (place +ℤ pos 4) count

-- ---- the answer

abbrev pub body_at : List ℕ → ℕ → ℤ → ResponseBody
body_at memory count place = Disassemble (record { instructions = entries_from memory place count })

abbrev pub disassembled : List ℕ → ℕ → Result ℤ Refusal → Result ResponseBody Refusal
disassembled memory count (Ok place) = Ok (body_at memory count place)
disassembled memory count (Err refusal) = Err refusal

abbrev pub disassemble : List ℕ → DisassembleArguments → Result ResponseBody Refusal
disassemble memory arguments = disassembled memory arguments.instruction_count (start arguments)

two_before_memory : entries_from [] (first_place 65536 (pos 0) (neg_ℤ (pos 2))) 2
    ≡ Invalid 0xfff8 ∷ Invalid 0xfffc ∷ []
two_before_memory = refl

places_below_0_wrap : wrapped (neg_ℤ (pos 4)) ≡ 0xfffffffc
places_below_0_wrap = refl
