-- For private clauses alone, beside `Telling`.
use Rattle.std.specs.Prelude.{◌≡◌, ℕ, ◌+◌, true, List, [], take, Option, Some, None}
use Rattle.std.specs.Io.KnownBytes.{Appends, Keeps}
use Rattle.scripts.specs.Copies.{Adds, KnownCopies, copy_if}
use Rattle.scripts.specs.declared.progress.Progress.{Progress}
use Rattle.scripts.specs.Telling.{Script}

-- these lines were written, if there are some
abbrev pub WritesLines : Option (List ℕ) → Progress → Option Progress → Script → Script → Type 0
WritesLines None next after old new = (after ≡ None) × Keeps old new
WritesLines (Some text) next (Some after) old new = (after ≡ next) × Appends old new text
WritesLines (Some text) next None old new = (count : ℕ) × Appends old new (take count text)

-- a text is kept, and counted
abbrev pub KeepsText : List ℕ → Progress → Option Progress → KnownCopies → KnownCopies → Type 0
KeepsText text p (Some counted) old new = (counted ≡ record p { copies = p.copies + 1 })
    × Adds old new (copy_if (p.copies + 1) text true)
KeepsText text p None old new = Adds old new []
