-- The image of a text is in range.
--
-- Its bytes are cut out of words, or are zeros. Its entry is an address in memory, where nothing is wrong with the text:
-- no line then ends after memory, which ends at an address of 32 bits.
use Rattle.std.specs.Prelude.{◌≡◌, ℕ, None, List}
use Rattle.assembler.specs.Assembled.{assembled}
use Rattle.assembler.specs.Placed.{error_of}
use Rattle.range_laws.specs.Debugging.{ImageInRange}

-- It is, of each text with which nothing is wrong.
abbrev pub AssembledIsInRange : Type 0
AssembledIsInRange = (text : List ℕ) (size : ℕ) → error_of text size ≡ None → ImageInRange (assembled text)
