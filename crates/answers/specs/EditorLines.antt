-- Lines as the editor counts them and as the image does. The editor's first line is 0 or 1, as it
-- said; the image's is 1.
use Rattle.std.specs.Prelude.{◌≡◌, ℕ, ◌+◌, ◌-◌, min, refl}

-- a line as the image counts it, of an editor whose first line is `base`; what 32 bits do not hold
-- is no editor's line
abbrev pub line_in_image : ℕ → ℕ → ℕ
line_in_image base line = min (line + (1 - base)) 4294967295

-- a line of the image as the editor counts it
abbrev pub line_in_editor : ℕ → ℕ → ℕ
line_in_editor base line = line - (1 - base)

lines_from_0 : line_in_editor 0 (line_in_image 0 7) ≡ 7
lines_from_0 = refl
