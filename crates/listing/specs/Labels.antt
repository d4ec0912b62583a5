-- The labels of a text, a line for each, in the order of the text.
--
-- As text a line has the label's address in eight hexadecimal digits, what stands there, two blanks, and the name, with a
-- line feed at the end. What stands there is `code` with the number of the line that it came from, `data`, or `end` where
-- the image has ended. As JSON (RFC 8259) it is an object, compact, with the same in its members.
use Rattle.std.specs.Prelude.{◌≡◌, ℕ, ◌+◌, nat_lt, List, [], ◌∷◌, ◌++◌, length, Option, Some, None, codes, if◌then◌else◌, refl}
use Rattle.std.specs.Fmt.{decimal}
use Rattle.serde_json.specs.Data.{Data, member, no_members, number, object, string, unsigned}
use Rattle.serde_json.specs.Written.{compact_text}
use Rattle.image.specs.Lines as table
use Rattle.image.specs.Lines.{Label}
use Rattle.image.specs.Memory.{first_address}
use Rattle.image.specs.declared.Image.{Image}
use Rattle.rv32i.specs.Texts.{eight_digits}
use Rattle.assembler.specs.Placed.{Placed}
use Rattle.listing.specs.declared.naming.LabelForm.{LabelForm}
use Rattle.listing.specs.declared.naming.LabelForm.TheVariants as form
use Rattle.listing.specs.declared.naming.Place.{Place}
use Rattle.listing.specs.declared.naming.Place.TheVariants.{Code, Data as DataThere, End}

-- what stands at an address of an image, or after it
abbrev pub place_by : Option ℕ → ℕ → ℕ → Place
place_by (Some line) address end = Code line
place_by None address end = if nat_lt address end then DataThere else End

abbrev pub place_of : Image → ℕ → Place
place_of image address = place_by (table.line_of image.lines address) address (first_address + length image.bytes)

-- the same in words
abbrev pub place_text : Place → List ℕ
place_text (Code line) = codes "code " ++ decimal line
place_text DataThere = codes "data"
place_text End = codes "end"

-- a label as JSON
abbrev pub label_data : Place → List ℕ → ℕ → Data
label_data (Code line) name address = object (member (codes "address") (number (unsigned address))
    (member (codes "kind") (string (codes "code")) (member (codes "line") (number (unsigned line))
    (member (codes "name") (string name) no_members))))
label_data DataThere name address = object (member (codes "address") (number (unsigned address))
    (member (codes "kind") (string (codes "data")) (member (codes "name") (string name) no_members)))
label_data End name address = object (member (codes "address") (number (unsigned address))
    (member (codes "kind") (string (codes "end")) (member (codes "name") (string name) no_members)))

-- the line of a label
abbrev pub line_of : LabelForm → Image → Label → List ℕ
line_of form.Text image label = eight_digits label.1 ++ codes " " ++ place_text (place_of image label.1) ++ codes "  "
    ++ label.0 ++ codes "\n"
line_of form.Json image label = compact_text (label_data (place_of image label.1) label.0 label.1) ++ codes "\n"

-- if there is one
abbrev pub line_if : LabelForm → Image → Option Label → List ℕ
line_if f image None = []
line_if f image (Some label) = line_of f image label

-- the lines of labels
abbrev pub lines_for : LabelForm → Image → List Label → List ℕ
lines_for f image [] = []
lines_for f image (label ∷ labels) = line_of f image label ++ lines_for f image labels

-- The lines of the labels of a text: those of the image that is right for it.
pub record HasLabels (f : LabelForm) (text lines : List ℕ) : Type 0 where
  pub image : Image
  pub placed : Placed text 1048576 image
  pub lines_are : lines ≡ lines_for f image image.lines.labels
