-- What a stream says, as a function of all its bytes.
--
-- `Frames` says what frames are, as statements. Here the same is computed, for layers that continue from the
-- bodies: a stream has one reading, which is its whole bodies in order and its tail. The tail is the part
-- of the next frame that has come, or the fault that the stream has there.
use Rattle.std.specs.Prelude.{◌≡◌, ℕ, zero, suc, ◌+◌, ◌-◌, ◌==◌, nat_lt, nat_le, if◌then◌else◌, ◌&&◌, not, List, []}
use Rattle.std.specs.Prelude.{◌∷◌, ◌++◌, length, take, drop, position, Option, Some, None, Result, Ok, Err, codes, refl}
use Rattle.std.specs.List.{list_all}
use Rattle.std.specs.Char.{is_ascii_digit}
use Rattle.std.specs.Str.Parse.{digits_value}
use Rattle.framing.specs.Headers.{Field, is_name, is_value, length_fields, end_of, end_of_line}
use Rattle.byte_strings.specs.Blanks.{trimmed}
use Rattle.framing.specs.declared.error.FrameError.{FrameError}
use Rattle.framing.specs.declared.error.FrameError.TheVariants.{Header, NoLength, TwoLengths, BadLength, TooLong}
use Rattle.framing.specs.declared.error.FrameError.TheVariants.{HeaderTooLong}
use Rattle.framing.specs.declared.start.Start.{Start}
use Rattle.framing.specs.declared.start.Start.TheVariants.{Waits, Breaks, Begins}

-- the field of these two parts, if they can be one
abbrev pub field_of : List ℕ → List ℕ → Option Field
field_of name value = if is_name name && is_value value then Some (record { name = name; value = value }) else None

-- the field on a line, which is parted at its first colon
abbrev pub field_at : List ℕ → Option ℕ → Option Field
field_at line None = None
field_at line (Some i) = field_of (take i line) (drop (i + 1) line)

-- the field on a line, if it is one
abbrev pub field_in : List ℕ → Option Field
field_in line = field_at line (position (λ b. b == 58) line)

-- the field before the others, where there are both
abbrev pub with_field : Option Field → Option (List Field) → Option (List Field)
with_field (Some f) (Some fields) = Some (f ∷ fields)
with_field (Some f) None = None
with_field None fields = None

-- the fields on the lines, if each line has one
abbrev pub fields_in : List (List ℕ) → Option (List Field)
fields_in [] = Some []
fields_in (line ∷ lines) = with_field (field_in line) (fields_in lines)

-- c before the first line
abbrev pub onto_first : ℕ → List (List ℕ) → List (List ℕ)
onto_first c [] = (c ∷ []) ∷ []
onto_first c (line ∷ lines) = (c ∷ line) ∷ lines

-- the lines of a text, which is parted at each CR LF
abbrev pub lines_of : List ℕ → List (List ℕ)
lines_of [] = [] ∷ []
lines_of (c ∷ []) = (c ∷ []) ∷ []
lines_of (c ∷ d ∷ text) = if (c == 13) && (d == 10) then [] ∷ lines_of text else onto_first c (lines_of (d ∷ text))

-- the number that 1 to 10 digits are
abbrev pub number_in : List ℕ → Option ℕ
number_in text = if not (length text == 0) && nat_le (length text) 10 && list_all is_ascii_digit text
    then Some (digits_value 10 text) else None

-- the length that a number is, if it is one and within the limit, or the fault
abbrev pub length_or_fault : ℕ → Option ℕ → Result ℕ FrameError
length_or_fault limit None = Err BadLength
length_or_fault limit (Some n) = if nat_le n limit then Ok n else Err TooLong

-- the length that these fields say, where they are all those named `Content-Length`
abbrev pub length_among : ℕ → List Field → Result ℕ FrameError
length_among limit [] = Err NoLength
length_among limit (f ∷ []) = length_or_fault limit (number_in (trimmed f.value))
length_among limit (f ∷ g ∷ fields) = Err TwoLengths

-- the length that a header part says, by what its lines are
abbrev pub length_by : ℕ → Option (List Field) → Result ℕ FrameError
length_by limit None = Err Header
length_by limit (Some fields) = length_among limit (length_fields fields)

-- the length that a header part says; the text is the part without the CR LF CR LF at its end
abbrev pub content_length : ℕ → List ℕ → Result ℕ FrameError
content_length limit text = length_by limit (fields_in (lines_of text))

-- the size of a header part, where its end is found and it is not too long
abbrev pub size_by : Option ℕ → Option ℕ
size_by None = None
size_by (Some size) = if nat_le size 4096 then Some size else None

-- the size in bytes of the header part that these bytes begin with, if it is whole and not too long
abbrev pub size_of : List ℕ → Option ℕ
size_of bytes = size_by (end_of bytes)

-- how a frame starts, by the length that its header part says
abbrev pub start_by : ℕ → Result ℕ FrameError → Start
start_by size (Ok n) = Begins size n
start_by size (Err fault) = Breaks fault

-- how a frame starts, by the size of its header part, if that is whole
abbrev pub start_at : ℕ → List ℕ → Option ℕ → Start
start_at limit bytes None = if nat_lt (length bytes) 4096 then Waits else Breaks HeaderTooLong
start_at limit bytes (Some size) = start_by size (content_length limit (take (size - 4) bytes))

-- how the first frame in these bytes starts
unfoldable pub start_of : ℕ → List ℕ → Start
start_of limit bytes = start_at limit bytes (size_of bytes)

-- what a stream ends with: part of a frame, or a fault
pub data Tail : Type 0 where
  Partial : List ℕ → Tail
  Faulty : FrameError → Tail

-- the reading of a stream
pub record Reading : Type 0 where
  pub bodies : List (List ℕ)
  pub tail : Tail

-- a reading after one more body
abbrev pub with_body : List ℕ → Reading → Reading
with_body body r = record { bodies = body ∷ r.bodies; tail = r.tail }

-- a reading after more bodies
abbrev pub with_bodies : List (List ℕ) → Reading → Reading
with_bodies bodies r = record { bodies = bodies ++ r.bodies; tail = r.tail }

-- the reading of bytes whose first frame has this start, by the reading of what follows
abbrev pub reading_by : (List ℕ → Reading) → List ℕ → Start → Reading
reading_by others bytes Waits = record { bodies = []; tail = Partial bytes }
reading_by others bytes (Breaks fault) = record { bodies = []; tail = Faulty fault }
reading_by others bytes (Begins size n) = if nat_lt (length bytes) (size + n)
    then record { bodies = []; tail = Partial bytes }
    else with_body (take n (drop size bytes)) (others (drop (size + n) bytes))

-- the reading of a stream with at most this many frames
abbrev pub reading_within : ℕ → ℕ → List ℕ → Reading
reading_within zero limit bytes = record { bodies = []; tail = Partial bytes }
reading_within (suc frames) limit bytes = reading_by (reading_within frames limit) bytes (start_of limit bytes)

-- the reading of a stream, whose frames are no more than its bytes
unfoldable pub reading_of : ℕ → List ℕ → Reading
reading_of limit bytes = reading_within (length bytes) limit bytes

-- A frame and part of another: names in letters of either case, blanks round the value, other fields.
frames : List ℕ
frames = codes "content-length:  2" ++ end_of_line ++ codes "X-A: b" ++ end_of_line ++ end_of_line
    ++ codes "{}Content-Le"

frames_are_read : reading_of 9 frames ≡ record { bodies = codes "{}" ∷ []; tail = Partial (codes "Content-Le") }
unfolding frames reading_of start_of
frames_are_read = refl

-- no length
no_length : reading_of 9 (codes "X: 1" ++ end_of_line ++ end_of_line) ≡ record { bodies = []; tail = Faulty NoLength }
unfolding reading_of start_of
no_length = refl

-- a length above the limit
too_long : reading_of 9 (codes "Content-Length: 10" ++ end_of_line ++ end_of_line)
    ≡ record { bodies = []; tail = Faulty TooLong }
unfolding reading_of start_of
too_long = refl
