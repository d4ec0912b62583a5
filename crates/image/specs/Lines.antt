-- The line table of an image: which source line the code at an address came from, and where the labels are.
--
-- An image is the bytes of memory from 0x00010000 on, up to its end. A source line that has code has a row: the line's
-- number, the address of its first instruction, and how many words its code takes. Rows rise, in lines and in
-- addresses, and do not overlap; between two of them there may be a gap, as data leaves one. A label is a name with an
-- address; labels stand in the order of the text, and their addresses may be any.
use Rattle.std.specs.Prelude.{◌≡◌, ℕ, ◌+◌, ◌-◌, ◌*◌, ◌%◌, ◌<◌, ◌≤◌, Bool, ◌==◌, nat_le, nat_lt, ◌&&◌, if◌then◌else◌}
use Rattle.std.specs.Prelude.{List, [], ◌∷◌, map, filter, find, All, AllPairs, Option, Some, None, option_map, String}
use Rattle.std.specs.Prelude.{string_bytes, refl}
use Rattle.std.specs.List.{list_all, list_any}
use Rattle.std.specs.Str.{bytes_eq}
use Rattle.image.specs.Memory.{first_address}

-- a row: line, address of its first instruction, words
abbrev pub Row : Type 0
Row = ℕ × ℕ × ℕ

-- a row's line
abbrev pub line_in : Row → ℕ
line_in row = row.0

-- where its code starts
abbrev pub start_of : Row → ℕ
start_of row = row.1

-- how many words that takes
abbrev pub words_in : Row → ℕ
words_in row = row.2

-- the address after a row's last word
abbrev pub end_of : Row → ℕ
end_of row = start_of row + 4 * words_in row

-- a label: the bytes of its name, and its address
abbrev pub Label : Type 0
Label = List ℕ × ℕ

-- a label's address
abbrev pub place_of : Label → ℕ
place_of label = label.1

-- the labels of a map from names to addresses, in its order
abbrev pub labels_of : {Z : Type 0} → List (String Z × ℕ) → List Label
labels_of entries = map (λ entry. (string_bytes entry.0, entry.1)) entries

-- Rows that a line table can have: each has a word at least and lies in the image, at a multiple of 4; of any two, the
-- later one has the greater line, and starts where the earlier one ends or after that.
pub record RowsRise (rows : List Row) (end : ℕ) : Type 0 where
  pub words : All (λ row. 1 ≤ words_in row) rows
  pub aligned : All (λ row. start_of row % 4 ≡ 0) rows
  pub from_first : All (λ row. first_address ≤ start_of row) rows
  pub to_end : All (λ row. end_of row ≤ end) rows
  pub lines : AllPairs (λ row later. line_in row < line_in later) rows
  pub places : AllPairs (λ row later. end_of row ≤ start_of later) rows

-- what a line table holds; `end` is the address after the image's last byte
pub record Table : Type 0 where
  pub rows : List Row
  pub labels : List Label
  pub end : ℕ

-- whether an address lies in a row's code
abbrev pub covers : ℕ → Row → Bool
covers address row = nat_le (start_of row) address && nat_lt address (end_of row)

-- the line whose code an address lies in
abbrev pub line_of : Table → ℕ → Option ℕ
line_of table address = option_map line_in (find (covers address) table.rows)

-- where a line's code starts
abbrev pub address_of : Table → ℕ → Option ℕ
address_of table line = option_map start_of (find (λ row. line_in row == line) table.rows)

-- the first line from this one on that has code, and where that starts
abbrev pub bind : Table → ℕ → Option (ℕ × ℕ)
bind table line = option_map (λ row. (line_in row, start_of row)) (find (λ row. nat_le line (line_in row)) table.rows)

-- whether a line's code starts at an address
abbrev pub starts : Table → ℕ → Bool
starts table address = list_any (λ row. start_of row == address) table.rows

-- the labels that are not above an address
abbrev pub up_to : ℕ → List Label → List Label
up_to address labels = filter (λ label. nat_le (place_of label) address) labels

-- the first of some labels that has the greatest address among them
abbrev pub first_greatest : List Label → Option Label
first_greatest labels = find (λ label. list_all (λ other. nat_le (place_of other) (place_of label)) labels) labels

-- whether an address lies in the image
abbrev pub in_image : Table → ℕ → Bool
in_image table address = nat_le first_address address && nat_lt address table.end

-- The name that an address in the image goes by: of the labels that are not above it the one with the greatest address,
-- the first in the text where several have that, and how many bytes the address is above the label.
abbrev pub label_at : Table → ℕ → Option (List ℕ × ℕ)
label_at table address = if in_image table address
    then option_map (λ label. (label.0, address - place_of label)) (first_greatest (up_to address table.labels))
    else None

-- the address of the label of a name
abbrev pub label_address : Table → List ℕ → Option ℕ
label_address table name = option_map place_of (find (λ label. bytes_eq name label.0) table.labels)

-- Line 3 has two words at 0x10000, and line 5 one at 0x1000c; "a" and "b" are the first address, "c" is 0x10008.
example : Table
example = record {
  rows = (3, 65536, 2) ∷ (5, 65548, 1) ∷ [];
  labels = (97 ∷ [], 65536) ∷ (99 ∷ [], 65544) ∷ (98 ∷ [], 65536) ∷ [];
  end = 65556;
}

line_inside : line_of example 65543 ≡ Some 3
unfolding example
line_inside = refl

line_in_a_gap : line_of example 65544 ≡ None
unfolding example
line_in_a_gap = refl

bound_to_the_next : bind example 4 ≡ Some (5, 65548)
unfolding example
bound_to_the_next = refl

first_of_two_labels : label_at example 65540 ≡ Some (97 ∷ [], 4)
unfolding example
first_of_two_labels = refl

no_label_at_the_end : label_at example 65556 ≡ None
unfolding example
no_label_at_the_end = refl

address_of_a_name : label_address example (99 ∷ []) ≡ Some 65544
unfolding example
address_of_a_name = refl

name_of_no_label : label_address example (100 ∷ []) ≡ None
unfolding example
name_of_no_label = refl
