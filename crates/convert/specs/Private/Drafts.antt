-- How what is written grows: each line of a text gives one line at least, or the lines that others gave stay.
use Rattle.std.specs.Prelude.{◌<◌, ◌≤◌, vec_len}
use Rattle.convert.specs.declared.draft.Draft.{Draft}

-- a line is written, or several are
abbrev pub AddsLine : Draft → Draft → Type 0
AddsLine old new = vec_len old.origins < vec_len new.origins

-- none is taken away
abbrev pub KeepsLines : Draft → Draft → Type 0
KeepsLines old new = vec_len old.origins ≤ vec_len new.origins
