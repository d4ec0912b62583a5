-- An image of a text, and which error is reported of a text that has none.
--
-- A text is read, then its lines are placed, then each statement is made into bytes. What is wrong with a text is the
-- first line in error of the first of these passes that has one.
--
-- "Placed text size image" is a check of a finished image, without regard to how it was made: no pass finds anything
-- wrong, and the image's bytes are parts, one for each line in order, each right for what the line states at its
-- address. The words of instructions are related to these by the table of encodings.
--
-- Memory of some size ends as far above the first address. An address is a number of 32 bits, and so is the end of
-- memory: a size that would put the end beyond the greatest such number puts it there.
use Rattle.std.specs.Prelude.{◌≡◌, ℕ, ◌+◌, ◌-◌, ◌^◌, min, List, [], length, Option, Some, None, Result, Ok, Err}
use Rattle.image.specs.Memory.{first_address}
use Rattle.image.specs.declared.Image.{Image}
use Rattle.assembler.specs.declared.error.AsmError.{AsmError}
use Rattle.assembler.specs.declared.program.Source.{Source}
use Rattle.assembler.specs.Contents.{content_error, AreParts}
use Rattle.assembler.specs.Errors.{first_of}
use Rattle.assembler.specs.Places.{entry_of, labels_in, place_error, Place, places, rows_in}
use Rattle.assembler.specs.Program.{read_text}

-- the lines of a program, each with its address
abbrev pub placed : List Source → List Place
placed program = places first_address program

-- where memory of a size ends
abbrev pub memory_end : ℕ → ℕ
memory_end size = min (first_address + size) (2 ^ 32 - 1)

-- what is wrong with a text that was read, for a size of memory
abbrev pub error_by : ℕ → Result (List Source) AsmError → Option AsmError
error_by size (Err error) = Some error
error_by size (Ok program) = first_of (place_error (memory_end size) [] (placed program))
    (content_error (labels_in (placed program)) (placed program))

-- what is wrong with a text, if anything
abbrev pub error_of : List ℕ → ℕ → Option AsmError
error_of text size = error_by size (read_text text)

-- An image that is right for a text.
pub record Placed (text : List ℕ) (size : ℕ) (image : Image) : Type 0 where
  pub right : error_of text size ≡ None
  pub program : List Source
  pub read : read_text text ≡ Ok program
  pub bytes : AreParts (labels_in (placed program)) (placed program) image.bytes
  pub entry : image.entry ≡ entry_of (labels_in (placed program)) (rows_in (placed program))
  pub rows : image.lines.rows ≡ rows_in (placed program)
  pub labels : image.lines.labels ≡ labels_in (placed program)
  pub end : image.lines.end ≡ first_address + length image.bytes

-- two images with the same bytes, entry and line table
pub record SameImage (image other : Image) : Type 0 where
  pub bytes : image.bytes ≡ other.bytes
  pub entry : image.entry ≡ other.entry
  pub lines : image.lines ≡ other.lines

-- A text has at most one image for a size of memory.
abbrev pub PlacedIsUnique : Type 0
PlacedIsUnique = (text : List ℕ) (size : ℕ) (image other : Image) → Placed text size image → Placed text size other →
    SameImage image other
