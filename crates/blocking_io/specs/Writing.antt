-- What a writer has of bytes that were to be written.
use Rattle.std.specs.Prelude.{ℕ, ◌<◌, List, length, take, Option}
use Rattle.std.specs.Io.KnownBytes.{Appends}

-- The first of them were written, and not all.
pub record IsPartWritten (before after : Option (List ℕ)) (bytes : List ℕ) : Type 0 where
  pub count : ℕ
  pub short : count < length bytes
  pub appended : Appends before after (take count bytes)
