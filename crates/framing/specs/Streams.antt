-- A stream that comes in pieces, and the value that an unframer is.
--
-- Of a stream the value keeps the limit, the bodies that wait to be lent, and the tail, which is part of a frame or
-- the fault. So a new piece continues from the tail alone, and still the bodies are those of the whole stream,
-- however it was cut.
--
-- It keeps the bodies and the tail from before the last piece too. So that piece can be taken back, with its fault and
-- the loans since. Then there is no piece to take back until another one comes.
use Rattle.std.specs.Prelude.{◌≡◌, ℕ, zero, suc, List, [], ◌∷◌, ◌++◌, Option, Some, None, Result, Ok, Err, refl}
use Rattle.framing.specs.Frames.{Framed, Fault}
use Rattle.framing.specs.Reading.{Tail, Reading, reading_of}
use Rattle.framing.specs.Reading.Tail.{Partial, Faulty}
use Rattle.framing.specs.declared.error.FrameError.{FrameError}
use Rattle.framing.specs.declared.error.FrameError.TheVariants.{NoMemory}

-- what `retract` goes back to: what was kept before the last piece
pub record Before : Type 0 where
  pub waiting : List (List ℕ)
  pub tail : Tail

-- what is kept of a stream, and what was kept before its last piece, if there is a piece to take back
pub record Unframed : Type 0 where
  pub limit : ℕ
  pub waiting : List (List ℕ)
  pub tail : Tail
  pub before : Option Before

-- before anything came
abbrev pub nothing_fed : ℕ → Unframed
nothing_fed limit = record { limit = limit; waiting = []; tail = Partial []; before = None }

-- the reading of the part of the next frame that has come, and a piece
abbrev pub reading_after : ℕ → Tail → List ℕ → Reading
reading_after limit (Partial rest) piece = reading_of limit (rest ++ piece)
reading_after limit (Faulty fault) piece = record { bodies = []; tail = Faulty fault }

-- what is kept after a piece with this reading: new bodies wait after the others, and the piece can be taken back
abbrev pub with_reading : Unframed → Reading → Unframed
with_reading kept r = record {
  limit = kept.limit;
  waiting = kept.waiting ++ r.bodies;
  tail = r.tail;
  before = Some (record { waiting = kept.waiting; tail = kept.tail });
}

-- what is kept after a piece
abbrev pub fed : Unframed → List ℕ → Unframed
fed kept piece = with_reading kept (reading_after kept.limit kept.tail piece)

-- the fault that a tail is, if it is one
abbrev pub fault_of : Tail → Option FrameError
fault_of (Partial rest) = None
fault_of (Faulty fault) = Some fault

-- `feed` takes the piece, and answers the fault of the stream so far, if it has one. Without memory nothing changes.
abbrev pub Feeds : {T : Type 0} → Unframed → List ℕ → Result T FrameError → Unframed → Type 0
Feeds old piece (Ok _) new = (new ≡ fed old piece) × (fault_of new.tail ≡ None)
Feeds old piece (Err NoMemory) new = new ≡ old
Feeds old piece (Err fault) new = (new ≡ fed old piece) × (fault_of new.tail ≡ Some fault)

-- the first body that waits
abbrev pub first_of : List (List ℕ) → Option (List ℕ)
first_of [] = None
first_of (body ∷ bodies) = Some body

-- the bodies after the first that waits
abbrev pub others_of : List (List ℕ) → List (List ℕ)
others_of [] = []
others_of (body ∷ bodies) = bodies

-- what is kept after the first body that waits was lent
abbrev pub lent_from : Unframed → Unframed
lent_from kept = record { limit = kept.limit; waiting = others_of kept.waiting; tail = kept.tail; before = kept.before }

-- what is kept after this many loans
abbrev pub lent_times : ℕ → Unframed → Unframed
lent_times zero kept = kept
lent_times (suc loans) kept = lent_times loans (lent_from kept)

-- the bodies that waited before the last piece; without a piece to take back, those of now
abbrev pub waiting_before : List (List ℕ) → Option Before → List (List ℕ)
waiting_before waiting None = waiting
waiting_before waiting (Some b) = b.waiting

-- the tail from before the last piece; without a piece to take back, that of now
abbrev pub tail_before : Tail → Option Before → Tail
tail_before tail None = tail
tail_before tail (Some b) = b.tail

-- what is kept after the last piece was taken back: what was kept before it. No piece is left to take back.
abbrev pub retracted : Unframed → Unframed
retracted kept = record {
  limit = kept.limit;
  waiting = waiting_before kept.waiting kept.before;
  tail = tail_before kept.tail kept.before;
  before = None;
}

-- A piece is taken back after a loan: what is left is what was kept before it.
goes_back : (kept : Unframed) (piece : List ℕ) → retracted (lent_from (fed kept piece)) ≡ record kept { before = None }
goes_back kept piece = refl

-- a tail as a statement: the rest is the partial tail and has no fault, or it has the fault
abbrev pub TailIs : ℕ → List ℕ → Tail → Type 0
TailIs limit rest (Partial bytes) = (rest ≡ bytes) × ((fault : FrameError) → Fault limit rest fault → ⊥)
TailIs limit rest (Faulty fault) = Fault limit rest fault

-- A reading as statements: the stream is frames of its bodies, in order, and a rest as its tail says.
pub record Reads (limit : ℕ) (stream : List ℕ) (reading : Reading) : Type 0 where
  pub rest : List ℕ
  pub framed : Framed limit stream reading.bodies rest
  pub tail : TailIs limit rest reading.tail

-- A stream has a fault: its rest has it.
pub record HasFault (limit : ℕ) (stream : List ℕ) (fault : FrameError) : Type 0 where
  pub bodies : List (List ℕ)
  pub rest : List ℕ
  pub framed : Framed limit stream bodies rest
  pub has : Fault limit rest fault

-- all that was ever fed, and the bodies that were ever lent
pub record Stream : Type 0 where
  pub fed : List ℕ
  pub lent : List (List ℕ)

-- the stream on which nothing came
abbrev pub nothing_came : Stream
nothing_came = record { fed = []; lent = [] }

-- the stream after a piece
abbrev pub with_piece : Stream → List ℕ → Stream
with_piece s piece = record { fed = s.fed ++ piece; lent = s.lent }

-- the stream after a body was lent, if there was one
abbrev pub with_lent : Stream → Option (List ℕ) → Stream
with_lent s None = s
with_lent s (Some body) = record { fed = s.fed; lent = s.lent ++ body ∷ [] }

-- What is kept represents a stream: its bodies are those lent and then those that wait, and its tail is the one kept.
pub record StandsFor (kept : Unframed) (s : Stream) : Type 0 where
  pub reads : reading_of kept.limit s.fed ≡ record { bodies = s.lent ++ kept.waiting; tail = kept.tail }

-- What was kept before the last piece represents a stream in the same way. Without a piece to take back, what is kept
-- does.
pub record StandsBefore (kept : Unframed) (s : Stream) : Type 0 where
  pub reads : reading_of kept.limit s.fed
      ≡ record { bodies = s.lent ++ waiting_before kept.waiting kept.before; tail = tail_before kept.tail kept.before }

-- `feed` for a stream: what is kept then represents the stream with the piece. An error is the fault of that stream;
-- without an error it has none. Without memory what is kept represents the earlier stream.
abbrev pub Takes : {T : Type 0} → Unframed → Stream → List ℕ → Result T FrameError → Unframed → Type 0
Takes old s piece (Ok _) new = StandsFor new (with_piece s piece)
    × ((fault : FrameError) → HasFault old.limit (s.fed ++ piece) fault → ⊥)
Takes old s piece (Err NoMemory) new = StandsFor new s
Takes old s piece (Err fault) new = StandsFor new (with_piece s piece) × HasFault old.limit (s.fed ++ piece) fault

-- The piece can be taken back: what was kept before it represents the stream without it. Without memory no piece was
-- taken, and what could be taken back still can.
abbrev pub Remembers : {T : Type 0} → Unframed → Stream → Result T FrameError → Unframed → Type 0
Remembers old s (Ok _) new = StandsFor old s → StandsBefore new s
Remembers old s (Err NoMemory) new = StandsBefore old s → StandsBefore new s
Remembers old s (Err fault) new = StandsFor old s → StandsBefore new s

-- this holds for each stream that the value represented
pub record TakesPiece {T : Type 0} (old : Unframed) (piece : List ℕ) (result : Result T FrameError) (new : Unframed)
    : Type 0 where
  pub to_each : (s : Stream) → StandsFor old s → Takes old s piece result new
  pub before : (s : Stream) → Remembers old s result new

-- the stream to go back to after a body was lent: the one from before the last piece, on which the body was not lent, or
-- the one with the body lent where there is no piece to take back
abbrev pub before_lent : Option Before → Stream → Option (List ℕ) → Stream
before_lent None s body = with_lent s body
before_lent (Some _) s body = s

-- `next_body` for each stream that the value represented: what is kept then represents the stream with the body lent.
-- The last piece can still be taken back, and the body with it.
pub record LendsBody (old : Unframed) (body : Option (List ℕ)) (new : Unframed) : Type 0 where
  pub to_each : (s : Stream) → StandsFor old s → StandsFor new (with_lent s body)
  pub before : (s : Stream) → StandsBefore old s → StandsBefore new (before_lent old.before s body)

-- `retract` for each stream represented before the last piece: what is kept then represents it, and there is no other
-- to go back to
pub record TakesBack (old new : Unframed) : Type 0 where
  pub to_each : (s : Stream) → StandsBefore old s → StandsFor new s × StandsBefore new s
