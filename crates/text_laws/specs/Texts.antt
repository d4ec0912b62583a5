-- Texts: UTF-8 of a length, and texts of printed characters that a JSON text has as they are (RFC 8259, section 7).
use Rattle.std.specs.Prelude.{◌≢◌, ℕ, ◌≤◌, All, List, length}
use Rattle.std.specs.Str.{IsUtf8}

-- a text of at most this many bytes
abbrev pub IsTextWithin : ℕ → List ℕ → Type 0
IsTextWithin most text = IsUtf8 text × (length text ≤ most)

-- a space or a printed character of ASCII, and neither a quote nor a backslash
abbrev pub IsPlainByte : ℕ → Type 0
IsPlainByte b = (32 ≤ b) × (b ≤ 126) × (b ≢ 34) × (b ≢ 92)

-- a text of such bytes
abbrev pub IsPlain : List ℕ → Type 0
IsPlain text = All IsPlainByte text
