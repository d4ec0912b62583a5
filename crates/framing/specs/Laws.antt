-- What holds of every stream. Each of these statements is the contract of a function of the module `laws`.
use Rattle.std.specs.Prelude.{◌≡◌, ℕ, ◌^◌, ◌<◌, ◌≤◌, List, ◌++◌, length}
use Rattle.framing.specs.Frames.{Frame, Framed, Fault, minimal_frame}
use Rattle.framing.specs.Reading.{Reading, reading_of, with_body, with_bodies}
use Rattle.framing.specs.Streams.{Reads, Unframed, Stream, StandsFor, reading_after, fed, lent_times, retracted}
use Rattle.framing.specs.declared.error.FrameError.{FrameError}

-- The reading of a stream is its bodies, its rest and its fault by the statements.
abbrev pub ReadingIsRight : Type 0
ReadingIsRight = (limit : ℕ) (stream : List ℕ) → Reads limit stream (reading_of limit stream)

-- No other reading is.
abbrev pub ReadingIsUnique : Type 0
ReadingIsUnique = (limit : ℕ) (stream : List ℕ) (reading : Reading) → Reads limit stream reading
    → reading ≡ reading_of limit stream

-- A stream has no other bodies and no other rest.
abbrev pub FramesAreUnique : Type 0
FramesAreUnique = (limit : ℕ) (stream : List ℕ) (bodies others : List (List ℕ)) (rest left : List ℕ)
    → Framed limit stream bodies rest → Framed limit stream others left → (bodies ≡ others) × (rest ≡ left)

-- A rest has no other fault.
abbrev pub FaultIsUnique : Type 0
FaultIsUnique = (limit : ℕ) (rest : List ℕ) (fault other : FrameError) → Fault limit rest fault → Fault limit rest other
    → fault ≡ other

-- However a stream is cut, its reading is that of the prefix, continued from its tail.
abbrev pub CutsDoNotMatter : Type 0
CutsDoNotMatter =
    (limit : ℕ) (prefix after : List ℕ)
    → reading_of limit (prefix ++ after)
    ≡ with_bodies (reading_of limit prefix).bodies (reading_after limit (reading_of limit prefix).tail after)

-- The smallest frame of a body within the limit is a frame of it, and is read as it, whatever follows.
abbrev pub FramesAreRead : Type 0
FramesAreRead = (limit : ℕ) (body more : List ℕ) → limit < 2 ^ 32 → length body ≤ limit
    → Frame limit (minimal_frame body) body
    × (reading_of limit (minimal_frame body ++ more) ≡ with_body body (reading_of limit more))

-- What is kept of a stream: the bodies that were lent and those that wait are the stream's, in order and no others,
-- and the tail is its tail.
abbrev pub BodiesAreRight : Type 0
BodiesAreRight = (kept : Unframed) (s : Stream) → StandsFor kept s
    → Reads kept.limit s.fed (record { bodies = s.lent ++ kept.waiting; tail = kept.tail })

-- Whatever a piece brought, and however many bodies were lent since: what is left after it was taken back represents
-- all that was fed before it, with the bodies that were lent before it.
abbrev pub RetractGoesBack : Type 0
RetractGoesBack = (kept : Unframed) (s : Stream) (piece : List ℕ) (loans : ℕ) → StandsFor kept s
    → StandsFor (retracted (lent_times loans (fed kept piece))) s

-- No piece is taken back after one that was, however many bodies were lent since.
abbrev pub RetractsOnce : Type 0
RetractsOnce = (kept : Unframed) (loans : ℕ)
    → retracted (lent_times loans (retracted kept)) ≡ lent_times loans (retracted kept)
