-- How events are written, each as the line that says it.
--
-- A piece that is the smallest frame of a body is written as `send` and that body, if a line can end with it, and any
-- other as `bytes` in lower case. Numbers have no leading zeros. No line says a piece of no bytes, nor a turn with a file
-- whose path no line can end with.
use Rattle.std.specs.Prelude.{◌≡◌, ℕ, ◌+◌, ◌-◌, ◌==◌, Bool, true, if◌then◌else◌, ◌&&◌, not, List, [], ◌∷◌, ◌++◌, length, drop}
use Rattle.std.specs.Prelude.{bytes_eq, Option, Some, None, codes, decimal, option_copied, position, slice_index, refl}
use Rattle.std.specs.Fmt.{digits}
use Rattle.std.specs.List.{list_all}
use Rattle.framing.specs.Frames.{minimal_frame}
use Rattle.hex.specs.Hex.{encode_lower, encode_with}
use Rattle.scripts.specs.declared.step.Step.{Step}
use Rattle.scripts.specs.declared.step.Step.TheVariants.{Connect, Recv, Turn, Slice, Hold, Sent, DropConnection}
use Rattle.scripts.specs.declared.writing.StepRef.{StepRef}
use Rattle.scripts.specs.declared.writing.StepRef.TheVariants as lent

-- the event that is lent
abbrev pub lent_step : StepRef → Step
lent_step lent.Connect = Connect
lent_step (lent.Recv piece) = Recv piece.now
lent_step (lent.Turn path) = Turn (option_copied path)
lent_step (lent.Slice moves) = Slice moves
lent_step lent.Hold = Hold
lent_step (lent.Sent count) = Sent count
lent_step lent.DropConnection = DropConnection

-- no line feed is among these bytes
abbrev pub in_one_line : List ℕ → Bool
in_one_line text = list_all (λ b. not (b == 10)) text

-- a line can end with this text: there is some, of one line, and without a carriage return at its end
abbrev pub can_end_line : List ℕ → Bool
can_end_line text = not (length text == 0) && not (slice_index text (length text - 1) == 13) && in_one_line text

-- ---- pieces

-- what comes after the first two lines of a piece: in a smallest frame, these are its header part
abbrev pub after_header : List ℕ → Option ℕ → List ℕ
after_header piece None = []
after_header piece (Some end) = drop (end + 3) piece

abbrev pub body_if : List ℕ → List ℕ → Option (List ℕ)
body_if piece body = if can_end_line body && bytes_eq (minimal_frame body) piece then Some body else None

-- the body that a piece is the smallest frame of, if it is one and a line can end with the body
abbrev pub body_in : List ℕ → Option (List ℕ)
body_in piece = body_if piece (after_header piece (position (λ b. b == 10) piece))

abbrev pub piece_line : List ℕ → Option (List ℕ) → List ℕ
piece_line piece (Some body) = codes "send " ++ body
piece_line piece None = codes "bytes " ++ encode_lower piece

-- ---- lines

-- whether a line says an event
abbrev pub has_line : Step → Bool
has_line (Recv piece) = not (length piece == 0)
has_line (Turn (Some path)) = can_end_line path
has_line other = true

-- the line that says it, without its line feed
abbrev pub line_of : Step → List ℕ
line_of Connect = codes "connect"
line_of (Recv piece) = piece_line piece (body_in piece)
line_of (Turn None) = codes "turn"
line_of (Turn (Some path)) = codes "turn " ++ path
line_of (Slice moves) = codes "slice " ++ decimal moves
line_of Hold = codes "hold"
line_of (Sent count) = codes "sent " ++ decimal count
line_of DropConnection = codes "drop"

-- what is written of it, if a line says it
abbrev pub written : Step → Option (List ℕ)
written step = if has_line step then Some (line_of step ++ 10 ∷ []) else None

-- what is written of events, one after the other
abbrev pub text_of : List Step → List ℕ
text_of [] = []
text_of (step ∷ steps) = line_of step ++ 10 ∷ text_of steps

-- the line that says that all for a connection is watched
abbrev pub watch_all : ℕ → List ℕ
watch_all connection = codes "watch " ++ decimal connection ++ codes " all"

-- ---- examples

some_lines : text_of (Connect ∷ Slice 12 ∷ Recv (1 ∷ 255 ∷ []) ∷ []) ≡ codes "connect\nslice 12\nbytes 01ff\n"
unfolding digits encode_with
some_lines = refl
