-- What is due on a connection, and what its rounds do to a session.
--
-- What is to be done next is decided anew in each round: while bytes wait, they are sent; when all is said, the
-- connection ends; a request that waits is answered, with the file that it wants, if it wants one; a program that runs
-- is given time for 100,000 moves; and else a piece is received. So nothing waits unsent while a wait for bytes may last.
--
-- A round is an event of the session, or two where a program is held after its time. How a round goes over a wire,
-- `Drives` says.
--
-- What a request is answered with is what a read of the file that it wants gave (`Files`).
use Rattle.std.specs.Prelude.{◌≡◌, ℕ, ◌+◌, nat_lt, nat_le, Bool, true, false, if◌then◌else◌, List, [], ◌∷◌, ◌++◌}
use Rattle.std.specs.Prelude.{length, take, Option, Some, None, IsOk, ◌⊎◌}
use Rattle.session.specs.declared.event.Event.{Event}
use Rattle.session.specs.declared.event.Event.TheVariants.{Connect, Recv, Turn, Slice, Hold, Sent, DropConnection}
use Rattle.session.specs.Acts.{Seen}
use Rattle.session.specs.Effects.{BreaksOff, sliced}
use Rattle.session.specs.Kept.{Kept, Stands}
use Rattle.session.specs.Outcomes.{is_finished, wanted_on}
use Rattle.session.specs.Sessions.{Session, Effect, Answer as answer_of, histories}
use Rattle.session.specs.Slices.{is_runnable}
use Rattle.transport.specs.Files.{FileRead, IsShort}

-- ---- files

-- the file that an answer is given: none where it wants none, and else what a read of the path that it wants gave
abbrev pub IsGiven : Option (List ℕ) → Option (List ℕ) → Type 0
IsGiven None file = file ≡ None
IsGiven (Some path) file = IsShort file

-- the read that gave a file, by the path that is wanted, if one is
abbrev pub read_for : Option (List ℕ) → Option (List ℕ) → List FileRead
read_for None file = []
read_for (Some path) file = record { path = path; gave = file } ∷ []

-- the path of the file that the next answer in a session wants
abbrev pub wanted : Session → Option (List ℕ)
wanted s = wanted_on s.now s.now.link

-- ---- slices of a program

-- the moves for which a program is given time in one round
unfoldable pub moves_granted : ℕ
moves_granted = 100000

-- a program is held once it made that many moves
abbrev pub most_moves : ℕ
most_moves = 10000000

-- a number of moves, counted no further than those after which a program is held
abbrev pub counted : ℕ → ℕ
counted n = if nat_le most_moves n then most_moves else n

-- how many moves a program makes in its slice
abbrev pub moves_made : Session → ℕ
moves_made s = (sliced histories moves_granted s).moved

-- what is left of a session when the program is held, or is not
abbrev pub held_after : Bool → Session → Session
held_after true s = Effect s Hold
held_after false s = s

-- ---- one round

-- what is to be done next
pub data Due : Type 0 where
  Send : Due
  Leave : Due
  Answer : Due
  Run : Due
  Receive : Due

-- what is due, by what is seen of a session
abbrev pub due : Seen → Due
due seen =
    if nat_lt 0 seen.waits then Send
    else if is_finished seen then Leave
    else if nat_lt 0 (length seen.now.arrivals.pending) then Answer
    else if is_runnable seen.now then Run
    else Receive

-- what is due in a session with its past
abbrev pub due_in : Session → Due
due_in s = due (histories.see s)

-- a round after which driving continues: an event; or the program got a slice, and was held then or not
pub data Round : Type 0 where
  Did : Event → Round
  Ran : Bool → Round

-- The event is one that the session takes; without a connection there is none.
abbrev pub IsTaken : Session → Event → Type 0
IsTaken s e = (s.now.link ≡ None) ⊎ IsOk (answer_of s e)

-- the session after a round
abbrev pub after_round : Session → Round → Session
after_round s (Did e) = Effect s e
after_round s (Ran holds) = held_after holds (Effect s (Slice moves_granted))

-- how many moves the program made since bytes came, after an event
abbrev pub since_event : ℕ → Event → ℕ
since_event since (Recv piece) = 0
since_event since Connect = since
since_event since (Turn file) = since
since_event since (Slice n) = since
since_event since Hold = since
since_event since (Sent n) = since
since_event since DropConnection = since

-- how many moves the program made since bytes came, after a round
abbrev pub since_round : ℕ → Session → Round → ℕ
since_round since s (Did e) = since_event since e
since_round since s (Ran holds) = counted (since + moves_made s)

-- the bytes that an event received
abbrev pub received_by : Event → List ℕ
received_by (Recv piece) = piece
received_by Connect = []
received_by (Turn file) = []
received_by (Slice n) = []
received_by Hold = []
received_by (Sent n) = []
received_by DropConnection = []

-- the bytes that a round received
abbrev pub received_in : Round → List ℕ
received_in (Did e) = received_by e
received_in (Ran holds) = []

-- the bytes that an event sent
abbrev pub sent_by : Session → Event → List ℕ
sent_by s (Sent n) = take n s.waiting
sent_by s Connect = []
sent_by s (Recv piece) = []
sent_by s (Turn file) = []
sent_by s (Slice n) = []
sent_by s Hold = []
sent_by s DropConnection = []

-- the bytes that a round sent
abbrev pub sent_in : Session → Round → List ℕ
sent_in s (Did e) = sent_by s e
sent_in s (Ran holds) = []

-- the reads of files that an event was given
abbrev pub reads_by : Session → Event → List FileRead
reads_by s (Turn file) = read_for (wanted s) file
reads_by s Connect = []
reads_by s (Recv piece) = []
reads_by s (Slice n) = []
reads_by s Hold = []
reads_by s (Sent n) = []
reads_by s DropConnection = []

-- the reads of files that a round was given
abbrev pub reads_in : Session → Round → List FileRead
reads_in s (Did e) = reads_by s e
reads_in s (Ran holds) = []

-- ---- one round after the other

-- the session after rounds
abbrev pub after_rounds : Session → List Round → Session
after_rounds s [] = s
after_rounds s (r ∷ rounds) = after_rounds (after_round s r) rounds

-- how many moves the program made since bytes came, after rounds
abbrev pub since_rounds : ℕ → Session → List Round → ℕ
since_rounds since s [] = since
since_rounds since s (r ∷ rounds) = since_rounds (since_round since s r) (after_round s r) rounds

-- the bytes that rounds received
abbrev pub received : List Round → List ℕ
received [] = []
received (r ∷ rounds) = received_in r ++ received rounds

-- the bytes that rounds sent
abbrev pub sent : Session → List Round → List ℕ
sent s [] = []
sent s (r ∷ rounds) = sent_in s r ++ sent (after_round s r) rounds

-- the reads of files that rounds were given
abbrev pub reads : Session → List Round → List FileRead
reads s [] = []
reads s (r ∷ rounds) = reads_in s r ++ reads (after_round s r) rounds

-- ---- the end

-- a program that is given time, and no memory is left: to tell what it does, or for a page
abbrev pub RunsOut : Session → Kept → Type 0
RunsOut s new = (moved : ℕ) × BreaksOff histories moves_granted moved s (λ t. Stands new t)
