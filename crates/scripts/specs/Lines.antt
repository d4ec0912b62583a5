-- What a line of a script says.
--
-- A line is one event, or what is watched. It is one word, or a word, one space and what belongs to it:
--
--     connect        an editor connects
--     send JSON      a frame of this body comes, in one piece
--     bytes HEX      these bytes come, in one piece: pairs of hexadecimal digits of either case, at least one
--     turn           a request is answered, with no file
--     turn FILE      the same, with what the file at this path holds
--     slice N        the program is given time for N moves
--     hold           the program is to stand still
--     sent N         N of the waiting bytes were sent
--     drop           the connection ends
--     watch C N      the first N bytes for the connection C are watched
--     watch C all    all of them are
--
-- JSON and FILE are all that follows the space, and not empty; FILE is UTF-8. Numbers are decimal digits; those of `slice`
-- and C have at most 32 bits, the others 64. Nothing else is a line: no other space, and no blank line.
use Rattle.std.specs.Prelude.{◌≡◌, ℕ, ◌+◌, ◌==◌, nat_lt, ◌^◌, if◌then◌else◌, ◌&&◌, not, List, length, take, drop}
use Rattle.std.specs.Prelude.{bytes_eq, Option, Some, None, codes, refl}
use Rattle.std.specs.Char.{is_digit}
use Rattle.std.specs.List.{list_all, position}
use Rattle.std.specs.Result.{result_ok}
use Rattle.std.specs.Str.{is_utf8}
use Rattle.std.specs.Str.Parse.{digits_value}
use Rattle.framing.specs.Frames.{minimal_frame}
use Rattle.hex.specs.Hex.{decode_of}
use Rattle.numerals.specs.Numerals.{numeral}
use Rattle.scripts.specs.declared.step.Step.{Step}
use Rattle.scripts.specs.declared.step.Step.TheVariants.{Connect, Recv, Turn, Slice, Hold, Sent, DropConnection}
use Rattle.scripts.specs.declared.watch.Cut.{Cut}
use Rattle.scripts.specs.declared.watch.Cut.TheVariants.{At, All}
use Rattle.scripts.specs.declared.watch.Watch.{Watch}

-- ---- words and numbers

-- what follows a word, if a line begins with it
abbrev pub after : List ℕ → List ℕ → Option (List ℕ)
after word line = if bytes_eq (take (length word) line) word then Some (drop (length word) line) else None

-- a number that 32 bits hold
abbrev pub small : List ℕ → Option ℕ
small digits = result_ok (numeral 10 digits)

-- a number that 64 bits hold
abbrev pub fitting : ℕ → Option ℕ
fitting n = if nat_lt n (2 ^ 64) then Some n else None

abbrev pub wide : List ℕ → Option ℕ
wide digits =
    if not (length digits == 0) && list_all (λ c. is_digit c 10) digits then fitting (digits_value 10 digits) else None

-- ---- events

-- a frame of a body that is not empty
abbrev pub sending : List ℕ → Option Step
sending json = if length json == 0 then None else Some (Recv (minimal_frame json))

-- the bytes that digits write
abbrev pub piece : Option (List ℕ) → Option Step
piece None = None
piece (Some bytes) = Some (Recv bytes)

abbrev pub coming : List ℕ → Option Step
coming digits = if length digits == 0 then None else piece (result_ok (decode_of digits))

-- with the file at a path
abbrev pub with_path : List ℕ → Option Step
with_path path = if is_utf8 path then Some (Turn (Some path)) else None

abbrev pub turning : List ℕ → Option Step
turning file = if length file == 0 then None else with_path file

-- a number of moves
abbrev pub moves : Option ℕ → Option Step
moves None = None
moves (Some count) = Some (Slice count)

abbrev pub slicing : List ℕ → Option Step
slicing digits = moves (small digits)

-- a number of bytes
abbrev pub taken : Option ℕ → Option Step
taken None = None
taken (Some count) = Some (Sent count)

abbrev pub taking : List ℕ → Option Step
taking digits = taken (wide digits)

-- what a line says that begins with a word, else what it says otherwise
abbrev pub or : (List ℕ → Option Step) → Option (List ℕ) → Option Step → Option Step
or says (Some argument) otherwise = says argument
or says None otherwise = otherwise

-- a line with a number
abbrev pub with_number : List ℕ → Option Step
with_number line = or slicing (after (codes "slice ") line) (or taking (after (codes "sent ") line) None)

-- a line with an argument
abbrev pub with_argument : List ℕ → Option Step
with_argument line =
    or sending (after (codes "send ") line)
    (or coming (after (codes "bytes ") line)
    (or turning (after (codes "turn ") line) (with_number line)))

-- the event that a line is, if it is one
abbrev pub step_of : List ℕ → Option Step
step_of line =
    if bytes_eq line (codes "connect") then Some Connect
    else if bytes_eq line (codes "turn") then Some (Turn None)
    else if bytes_eq line (codes "hold") then Some Hold
    else if bytes_eq line (codes "drop") then Some DropConnection
    else with_argument line

-- ---- what is watched

-- a number of bytes
abbrev pub at : Option ℕ → Option Cut
at None = None
at (Some count) = Some (At count)

abbrev pub cut_of : List ℕ → Option Cut
cut_of word = if bytes_eq word (codes "all") then Some All else at (wide word)

abbrev pub watching : Option ℕ → Option Cut → Option Watch
watching (Some connection) (Some cut) = Some (record { connection = connection; cut = cut })
watching None cut = None
watching (Some connection) None = None

-- a connection, and how much of what it gets: the two words stand round the first space
abbrev pub words_round : List ℕ → Option ℕ → Option Watch
words_round text (Some end) = watching (small (take end text)) (cut_of (drop (end + 1) text))
words_round text None = None

abbrev pub two_words : List ℕ → Option Watch
two_words text = words_round text (position (λ b. b == 32) text)

abbrev pub watched : Option (List ℕ) → Option Watch
watched (Some text) = two_words text
watched None = None

-- what a line watches, if it does
abbrev pub watch_of : List ℕ → Option Watch
watch_of line = watched (after (codes "watch ") line)

-- ---- examples

a_frame : step_of (codes "send {}") ≡ Some (Recv (minimal_frame (codes "{}")))
a_frame = refl

moves_are_numbers : step_of (codes "slice 100") ≡ Some (Slice 100)
moves_are_numbers = refl

one_space : step_of (codes "slice  100") ≡ None
one_space = refl

a_prefix : watch_of (codes "watch 1 1137") ≡ Some (record { connection = 1; cut = At 1137 })
a_prefix = refl

all_of_it : watch_of (codes "watch 2 all") ≡ Some (record { connection = 2; cut = All })
all_of_it = refl
