-- How the code goes over the lines of a header part.
use Rattle.std.specs.Prelude.{◌≡◌, ℕ, ◌<◌, List, [], Option, Some, None, Result, Err, if◌then◌else◌}
use Rattle.framing.specs.Headers.{Field, names_length, end_of}
use Rattle.framing.specs.Reading.{lines_of, number_in, length_or_fault}
use Rattle.byte_strings.specs.Blanks.{trimmed}
use Rattle.framing.specs.declared.error.FrameError.{FrameError}
use Rattle.framing.specs.declared.error.FrameError.TheVariants.{NoLength, TwoLengths}
use Rattle.framing.specs.declared.header.Lengths.{Lengths}
use Rattle.framing.specs.declared.header.Lengths.TheVariants.{No, One, More}

-- the lines that are left
abbrev pub lines_after : Option (List ℕ) → List (List ℕ)
lines_after None = []
lines_after (Some text) = lines_of text

-- what is known of the length after one more length field
abbrev pub one_more : Lengths → Field → Lengths
one_more No f = One (number_in (trimmed f.value))
one_more (One n) f = More
one_more More f = More

-- what is known of the length after one more field
abbrev pub with_length : Lengths → Field → Lengths
with_length lengths f = if names_length f.name then one_more lengths f else lengths

-- the length that is known, or the fault
abbrev pub length_within : ℕ → Lengths → Result ℕ FrameError
length_within limit No = Err NoLength
length_within limit (One n) = length_or_fault limit n
length_within limit More = Err TwoLengths

-- the first end of a header part, if there is one, is not among the first bytes
abbrev pub EndsPast : ℕ → List ℕ → Type 0
EndsPast searched bytes = (size : ℕ) → end_of bytes ≡ Some size → searched < size
