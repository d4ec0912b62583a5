-- The image of a text as a function of it.
--
-- `Placed` checks a finished image: its bytes are parts, one for each line, each right for what the line states at its
-- address. Here the parts are made: an instruction is its word, computed, and its bytes; data is itself. A text
-- with nothing wrong has one image, and this is it. Of a text with which something is wrong, what is computed means
-- nothing: a statement without a content has no bytes, and a text that cannot be read has no lines.
use Rattle.std.specs.Prelude.{◌≡◌, ℕ, ◌+◌, ◌%◌, ◌≤◌, ◌<◌, ◌^◌, All, None, List, [], ◌∷◌, ◌++◌, length, Result, Ok, Err}
use Rattle.image.specs.Memory.{first_address, word_bytes}
use Rattle.image.specs.Lines.{Label, Row, Table, line_in, start_of}
use Rattle.image.specs.declared.Image.{Image}
use Rattle.rv32i.specs.Words.{word_of}
use Rattle.rv32i.specs.declared.instr.Instr.{Instr}
use Rattle.assembler.specs.declared.error.AsmError.{AsmError}
use Rattle.assembler.specs.declared.program.Source.{Source}
use Rattle.assembler.specs.Contents.{Code, Contained, content_at, Plain}
use Rattle.assembler.specs.Placed.{error_of, placed, Placed}
use Rattle.assembler.specs.Places.{entry_of, labels_in, Place, rows_in}
use Rattle.assembler.specs.Program.{read_text}

-- the bytes of instructions: the word of each, in order, the least significant byte first
abbrev pub code_bytes : List Instr → List ℕ
code_bytes [] = []
code_bytes (instruction ∷ others) = word_bytes (word_of instruction) ++ code_bytes others

-- the bytes of what a statement puts into memory
abbrev pub part_of : Contained → List ℕ
part_of (Ok (Code instructions)) = code_bytes instructions
part_of (Ok (Plain plain)) = plain
part_of (Err kind) = []

-- the bytes of lines at their addresses, one after the other
abbrev pub parts_of : List Label → List Place → List ℕ
parts_of labels [] = []
parts_of labels (place ∷ others) = part_of (content_at labels place.address place.source.line.statement)
    ++ parts_of labels others

-- the line table of lines at their addresses, for `count` bytes
abbrev pub table_of : List Place → ℕ → Table
table_of list count = record { rows = rows_in list; labels = labels_in list; end = first_address + count }

-- the image of lines at their addresses
abbrev pub image_of : List Place → Image
image_of list = record {
  bytes = parts_of (labels_in list) list;
  entry = entry_of (labels_in list) (rows_in list);
  lines = table_of list (length (parts_of (labels_in list) list));
}

-- the image of a program, if there is one
abbrev pub image_by : Result (List Source) AsmError → Image
image_by (Ok program) = image_of (placed program)
image_by (Err error) = image_of []

-- the image of a text
unfoldable pub assembled : List ℕ → Image
assembled text = image_by (read_text text)

-- An image that is right for a text is the image of that text.
abbrev pub PlacedIsAssembled : Type 0
PlacedIsAssembled = (text : List ℕ) (size : ℕ) (image : Image) → Placed text size image → image ≡ assembled text

-- Where nothing is wrong with a text, the image of that text is right for it.
abbrev pub AssembledIsPlaced : Type 0
AssembledIsPlaced =
    (text : List ℕ) (size : ℕ) → error_of text size ≡ None → Placed text size (assembled text)

-- an image that a memory of a size has room for, and whose entry is at a multiple of 4
pub record IsLoadable (size : ℕ) (image : Image) : Type 0 where
  pub fits : length image.bytes ≤ size
  pub aligned : image.entry % 4 ≡ 0

-- An image that is right for a text can be loaded into memory of the size that it is right for.
abbrev pub PlacedIsLoadable : Type 0
PlacedIsLoadable = (text : List ℕ) (size : ℕ) (image : Image) → Placed text size image → IsLoadable size image

-- a row of a line table, whose line and first address have 32 bits
abbrev pub IsNarrowRow : Row → Type 0
IsNarrowRow row = (line_in row < 2 ^ 32) × (start_of row < 2 ^ 32)

-- The line table of a text with which nothing is wrong has such rows.
abbrev pub AssembledIsNarrow : Type 0
AssembledIsNarrow = (text : List ℕ) (size : ℕ) → error_of text size ≡ None → All IsNarrowRow (assembled text).lines.rows
