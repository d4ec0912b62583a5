-- What a script gets while events are told, and when that ends.
--
-- An event's line is written when it is told, but a slice waits for those that follow it. A text that a turn was given
-- is kept before the line that names it is written. Where a line is not written whole, an event has none, a copy is not
-- kept or no memory is left, the recording has ended: nothing more is written. It has ended after its last line too.
use Rattle.std.specs.Prelude.{◌≡◌, ◌⊎◌, ℕ, ◌+◌, ◌<◌, Bool, true, false, List, [], ◌∷◌, ◌++◌, length, take, Option, Some, None}
use Rattle.std.specs.Io.KnownBytes.{Appends, Keeps}
use Rattle.scripts.specs.Copies.{Adds, KnownCopies, copy_if, path_of}
use Rattle.scripts.specs.Joining.{due, slice_of, waits}
use Rattle.scripts.specs.declared.progress.Progress.{Progress}
use Rattle.scripts.specs.Writing.{has_line, text_of, watch_all}
use Rattle.scripts.specs.declared.step.Step.{Step}
use Rattle.scripts.specs.declared.step.Step.TheVariants.{Turn}

-- what a script holds, where it is known
abbrev pub Script : Type 0
Script = Option (List ℕ)

-- The events that are due were written, and that is how far the recording has come; or it has ended, and a part of their
-- lines was written, but nothing where the event that is told has no line.
abbrev pub Goes : Bool → List Step → Progress → Option Progress → Script → Script → Type 0
Goes has_line steps next (Some after) old new = (has_line ≡ true) × (after ≡ next) × Appends old new (text_of steps)
Goes has_line steps next None old new = (0 < length steps)
    × (count : ℕ) × Appends old new (take count (text_of steps)) × (has_line ≡ false → count ≡ 0)

-- an event is told, by how far the recording had come and has come then
abbrev pub Tells : Step → Option Progress → Option Progress → Script → Script → Type 0
Tells step None after old new = (after ≡ None) × Keeps old new
Tells step (Some p) after old new =
    Goes (has_line step) (due step p.waiting) (record p { waiting = waits step p.waiting }) after old new

-- A turn that was given a text is told: the text is kept under the next number, and then a turn with the file of that
-- path is told; or it is not kept, and the recording has ended.
abbrev pub TellsTurn : List ℕ → Option Progress → Option Progress → Script → Script → KnownCopies → KnownCopies → Type 0
TellsTurn text None after old new copies copies' = (after ≡ None) × Keeps old new × Adds copies copies' []
TellsTurn text (Some p) after old new copies copies' = let number = p.copies + 1 in
    (Adds copies copies' (copy_if number text true)
    × Tells (Turn (Some (path_of number))) (Some (record p { copies = number })) after old new)
    ⊎ ((after ≡ None) × Keeps old new × Adds copies copies' [])

-- what is still to be written at the end: the slice that waits, and the last line
abbrev pub ending : Progress → ℕ → List ℕ
ending p connection = text_of (slice_of p.waiting) ++ (watch_all connection ++ 10 ∷ [])

-- the end is written, whole or not
abbrev pub Finishes : ℕ → Bool → Option Progress → Script → Script → Type 0
Finishes connection is_whole None old new = (is_whole ≡ false) × Keeps old new
Finishes connection true (Some p) old new = Appends old new (ending p connection)
Finishes connection false (Some p) old new = (count : ℕ) × (count < length (ending p connection))
    × Appends old new (take count (ending p connection))
