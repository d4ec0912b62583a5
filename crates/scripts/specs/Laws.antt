-- What holds of every recording. Each of these statements is the contract of a function of the module `laws`.
use Rattle.std.specs.Prelude.{◌≡◌, ℕ, ◌<◌, ◌^◌, true, List, [], ◌∷◌, ◌++◌, length, take, Some, None, Ok, codes}
use Rattle.std.specs.Str.{is_utf8}
use Rattle.framing.specs.Frames.{minimal_frame}
use Rattle.hex.specs.Hex.{IsBytes}
use Rattle.scripts.specs.Recordings.{recorded_of}
use Rattle.scripts.specs.Scripts.{script_of}
use Rattle.scripts.specs.Writing.{can_end_line, has_line, in_one_line, line_of, text_of, watch_all}
use Rattle.scripts.specs.declared.step.Step.{Step}
use Rattle.scripts.specs.declared.step.Step.TheVariants.{Recv, Turn, Slice, Sent}
use Rattle.scripts.specs.declared.watch.Cut.TheVariants.{All}
use Rattle.scripts.specs.declared.watch.Watch.{Watch}

-- what a program's events are: of bytes, UTF-8 and numbers of 32 and of 64 bits
abbrev pub IsInRange : Step → Type 0
IsInRange (Recv piece) = IsBytes piece
IsInRange (Turn (Some path)) = is_utf8 path ≡ true
IsInRange (Slice moves) = moves < 2 ^ 32
IsInRange (Sent count) = count < 2 ^ 64
IsInRange other = Unit {0}

-- events that lines say
abbrev pub HaveLines : List Step → Type 0
HaveLines [] = Unit {0}
HaveLines (step ∷ steps) = (IsInRange step × (has_line step ≡ true)) × HaveLines steps

-- all for this connection is watched
abbrev pub all_for : ℕ → Watch
all_for connection = record { connection = connection; cut = All }

-- Events that were written are read back, and what comes after the last line feed says nothing.
abbrev pub EventsAreReadBack : Type 0
EventsAreReadBack = (steps : List Step) (cut : List ℕ) → HaveLines steps → in_one_line cut ≡ true
    → recorded_of (text_of steps ++ cut) ≡ Ok (steps, None)

-- Wherever what was written of events is cut, it reads as the first of them.
abbrev pub CutLinesSayNothing : Type 0
CutLinesSayNothing = (steps : List Step) (cut : List ℕ) (count : ℕ) → HaveLines steps → in_one_line cut ≡ true
    → (kept : List Step) × (more : List Step) × (steps ≡ kept ++ more)
    × (recorded_of (take count (text_of steps ++ cut)) ≡ Ok (kept, None))

-- With a last line that says that all for a connection is watched, it is a script of these events, and a recording of them.
abbrev pub LastLinesMakeScripts : Type 0
LastLinesMakeScripts = (steps : List Step) (connection : ℕ) → HaveLines steps → connection < 2 ^ 32
    → (script_of (text_of steps ++ (watch_all connection ++ 10 ∷ [])) ≡ Ok (steps, all_for connection))
    × (recorded_of (text_of steps ++ (watch_all connection ++ 10 ∷ [])) ≡ Ok (steps, Some (all_for connection)))

-- The smallest frame of a body that a line can end with is written as `send` and that body.
abbrev pub FramesAreSent : Type 0
FramesAreSent = (body : List ℕ) → length body < 2 ^ 64 → can_end_line body ≡ true
    → line_of (Recv (minimal_frame body)) ≡ codes "send " ++ body
