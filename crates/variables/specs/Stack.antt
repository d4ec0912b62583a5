-- The words of the stack as variables (DAP specification, `Variable`).
--
-- The list begins at the stack pointer (x2) and goes up: `sp+0`, `sp+4` and on, each the little-endian word at that
-- address. It ends before the first word with a byte outside memory, and has at most 64 words. The stack pointer
-- need be no multiple of 4. Addresses have 32 bits, and sums wrap.
use Rattle.std.specs.Prelude.{ℕ, ◌*◌, Bool, List, ◌++◌, map, slice_index}
use Rattle.std.specs.Prelude.{codes}
use Rattle.std.specs.List.{range_with_len, take_while}
use Rattle.std.specs.Fmt.{decimal}
use Rattle.image.specs.Memory.{bytes_at, has_bytes, little_endian}
use Rattle.message_parts.specs.declared.variables.Variable.{Variable}
use Rattle.rv32i.specs.Machine.{sum}
use Rattle.rv32i.specs.declared.hart.Hart.{Hart}

-- the name of the word `offset` bytes above the stack pointer
abbrev pub name_at : ℕ → List ℕ
name_at offset = codes "sp+" ++ decimal offset

-- whether all four bytes of the word `offset` bytes above the stack pointer lie in memory
abbrev pub has_word : List ℕ → ℕ → ℕ → Bool
has_word memory sp offset = has_bytes memory (sum sp offset) 4

-- that word
abbrev pub word : List ℕ → ℕ → ℕ → Variable
word memory sp offset =
    record { name = name_at offset; value = little_endian (bytes_at memory (sum sp offset) 4) }

-- the words of these numbers above the stack pointer, up to the first that does not lie in memory
abbrev pub words : List ℕ → ℕ → List ℕ → List Variable
words memory sp numbers =
    map (word memory sp) (take_while (has_word memory sp) (map (λ number. 4 * number) numbers))

-- the list
unfoldable pub stack_words : Hart → List ℕ → List Variable
stack_words hart memory = words memory (slice_index hart.x 2) (range_with_len 0 64)
