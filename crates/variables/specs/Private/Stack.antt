-- For private clauses alone, beside `Stack`.
use Rattle.std.specs.Prelude.{ℕ, if◌then◌else◌, List, Option, Some, None}
use Rattle.image.specs.Memory.{bytes_at, has_bytes, little_endian}
use Rattle.variables.specs.Stack.{word}

-- the word at any address, if it lies in memory
abbrev pub word_anywhere : List ℕ → ℕ → Option ℕ
word_anywhere memory address =
    if has_bytes memory address 4 then Some (little_endian (bytes_at memory address 4)) else None
