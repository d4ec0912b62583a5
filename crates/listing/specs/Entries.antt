-- The listing of an image: a line for each instruction, in the order of their addresses.
--
-- An instruction stands at a multiple of 4 that the image's line table gives a source line. Its line of the listing is
-- its address and its word, each in eight hexadecimal digits, and the disassembly of the word at that address, divided
-- by single spaces, with a line feed at the end. A word that is no instruction is written as a `.word`.
use Rattle.std.specs.Prelude.{◌≡◌, ℕ, zero, suc, ◌+◌, ◌/◌, is_some, List, [], ◌∷◌, ◌++◌, length, filter, codes, refl}
use Rattle.image.specs.Lines.{line_of, Table}
use Rattle.image.specs.Memory.{bytes_at, first_address, little_endian}
use Rattle.image.specs.declared.Image.{Image}
use Rattle.rv32i.specs.Texts.{eight_digits, IsTextOf}

-- this many addresses from one on, 4 apart
abbrev pub words_from : ℕ → ℕ → List ℕ
words_from address zero = []
words_from address (suc count) = address ∷ words_from (address + 4) count

-- those of them to which a table gives a line
abbrev pub listed : Table → List ℕ → List ℕ
listed table addresses = filter (λ address. is_some (line_of table address)) addresses

-- the addresses of an image that are listed
abbrev pub addresses_in : Image → List ℕ
addresses_in image = listed image.lines (words_from first_address (length image.bytes / 4))

-- a line of a listing
abbrev pub entry : ℕ → ℕ → List ℕ → List ℕ
entry address word text = eight_digits address ++
    (codes " " ++ (eight_digits word ++ (codes " " ++ (text ++ codes "\n"))))

first_entry : entry 0x10000 0x73 (codes "ecall") ≡ codes "00010000 00000073 ecall\n"
first_entry = refl

-- the word at an address
abbrev pub word_in : List ℕ → ℕ → ℕ
word_in bytes address = little_endian (bytes_at bytes address 4)

-- The line of a listing for the word at an address.
pub record IsEntry (bytes : List ℕ) (address : ℕ) (line : List ℕ) : Type 0 where
  pub text : List ℕ
  pub is_text : IsTextOf (word_in bytes address) address text
  pub is_line : line ≡ entry address (word_in bytes address) text

-- The lines for some addresses, in order.
abbrev pub AreEntries : List ℕ → List ℕ → List ℕ → Type 0
AreEntries bytes [] lines = lines ≡ []
AreEntries bytes (address ∷ others) lines = (line : List ℕ) × (rest : List ℕ) × IsEntry bytes address line
    × AreEntries bytes others rest × (lines ≡ line ++ rest)

-- A listing of an image.
abbrev pub IsListing : Image → List ℕ → Type 0
IsListing image lines = AreEntries image.bytes (addresses_in image) lines
