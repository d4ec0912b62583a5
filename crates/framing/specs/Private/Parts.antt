-- How the code holds a stream.
--
-- It holds bytes, and two places in them: from the first to the second stand whole frames, whose bodies wait, and from
-- the second on the part of the next frame that has come. How that one starts is held too.
use Rattle.std.specs.Prelude.{◌≡◌, ℕ, ◌+◌, ◌-◌, ◌≤◌, Bool, true, false, nat_lt, if◌then◌else◌, List, [], length}
use Rattle.std.specs.Prelude.{take, drop, Option, Some, None}
use Rattle.framing.specs.Reading.{Tail, start_of, reading_of}
use Rattle.framing.specs.Reading.Tail.{Partial, Faulty}
use Rattle.framing.specs.Streams.{Before}
use Rattle.framing.specs.declared.error.FrameError.TheVariants.{NoMemory}
use Rattle.framing.specs.declared.start.Start.{Start}
use Rattle.framing.specs.declared.start.Start.TheVariants.{Waits, Breaks, Begins}
use Rattle.framing.specs.declared.state.Mark.{Mark}

-- the content of a frame with this start, and the bytes after it, if the frame is whole
abbrev pub parts_of : Start → List ℕ → Option (List ℕ × List ℕ)
parts_of Waits bytes = None
parts_of (Breaks fault) bytes = None
parts_of (Begins size n) bytes = if nat_lt (length bytes) (size + n) then None
    else Some (take n (drop size bytes), drop (size + n) bytes)

-- the tail of a stream whose next frame has this start and is not whole
abbrev pub tail_by : Start → List ℕ → Tail
tail_by Waits rest = Partial rest
tail_by (Breaks fault) rest = Faulty fault
tail_by (Begins size n) rest = Partial rest

-- whether there is no next frame
abbrev pub is_broken : Start → Bool
is_broken Waits = false
is_broken (Breaks fault) = true
is_broken (Begins size n) = false

-- the bytes from a place to a later one
abbrev pub range : List ℕ → ℕ → ℕ → List ℕ
range bytes from to = take (to - from) (drop from bytes)

-- the bodies that wait, where these are the places of the first frame that waits and of the next frame
abbrev pub waiting_in : ℕ → List ℕ → ℕ → ℕ → List (List ℕ)
waiting_in limit bytes place done = (reading_of limit (range bytes place done)).bodies

-- what a mark goes back to: its places in the bytes that were there
abbrev pub before_by : ℕ → List ℕ → Option Mark → Option Before
before_by limit bytes None = None
before_by limit bytes (Some m) = Some (record {
  waiting = waiting_in limit (take m.size bytes) m.place m.done;
  tail = tail_by m.start (drop m.done (take m.size bytes));
})

-- The frame that these bytes begin, if any, has this start. Out of memory is no fault of a stream.
pub record Starts (limit : ℕ) (start : Start) (rest : List ℕ) : Type 0 where
  pub so : is_broken start ≡ false → start ≡ start_of limit rest
  pub no_other : start ≡ Breaks NoMemory → ⊥

-- Two places in the bytes: between them are whole frames, the first with the start `first`, and after them the part of
-- the next frame that has come, with the start `start`.
pub record Holds (limit : ℕ) (bytes : List ℕ) (place done : ℕ) (first start : Start) : Type 0 where
  pub place_within : place ≤ done
  pub done_within : done ≤ length bytes
  pub whole : (reading_of limit (range bytes place done)).tail ≡ Partial []
  pub first_is : first ≡ start_of limit (range bytes place done)
  pub starts : Starts limit start (drop done bytes)

-- what a mark goes back to is such, if there is one
abbrev pub MarkHolds : ℕ → List ℕ → Option Mark → Type 0
MarkHolds limit bytes None = Unit {0}
MarkHolds limit bytes (Some m) = Holds limit (take m.size bytes) m.place m.done m.first m.start

-- What is held fits together, now and as it was at the mark.
pub record Fits (limit : ℕ) (bytes : List ℕ) (place done : ℕ) (first start : Start) (mark : Option Mark)
    : Type 0 where
  pub holds : Holds limit bytes place done first start
  pub mark_holds : MarkHolds limit bytes mark

-- how the first of the whole frames starts after more bytes came, where the first of those that were there has this start:
-- as that, or, where there was none, as the bytes that came, if they make a frame whole
abbrev pub first_by : Start → Start → Bool → Start
first_by Waits start is_whole = if is_whole then start else Waits
first_by (Breaks fault) start is_whole = if is_whole then start else Waits
first_by (Begins size n) start is_whole = Begins size n

-- Bytes are whole frames, and then what is left of the next frame, which is not whole and has this start.
pub record Parts (limit : ℕ) (bytes : List ℕ) (start : Start) (left : ℕ) : Type 0 where
  pub within : left ≤ length bytes
  pub starts : start ≡ start_of limit (drop (length bytes - left) bytes)
  pub whole : (reading_of limit (take (length bytes - left) bytes)).tail ≡ Partial []
  pub no_more : parts_of start (drop (length bytes - left) bytes) ≡ None
