-- How a line is spelled: names, and prefixes.
--
-- A name is a letter, `_` or `.`, and then letters, digits, `_`, `.` and `$`. Labels are names, and so are mnemonics
-- and the names of directives.
use Rattle.std.specs.Prelude.{ℕ, Bool, false, ◌==◌, if◌then◌else◌, ◌&&◌, ◌||◌, List, [], ◌∷◌, length, take}
use Rattle.std.specs.Prelude.{drop, Option, Some, None}
use Rattle.std.specs.List.{list_all}
use Rattle.std.specs.Str.{bytes_eq}
use Rattle.std.specs.Char.{is_ascii_digit, is_ascii_alphabetic}

-- a byte that a name may begin with
abbrev pub begins_name : ℕ → Bool
begins_name b = is_ascii_alphabetic b || ((b == 95) || (b == 46))

-- a byte that a name may have
abbrev pub is_name_byte : ℕ → Bool
is_name_byte b = begins_name b || (is_ascii_digit b || (b == 36))

-- a name
abbrev pub is_name : List ℕ → Bool
is_name [] = false
is_name (b ∷ bytes) = begins_name b && list_all is_name_byte bytes

-- a text without its prefix, if it has that prefix
abbrev pub stripped : List ℕ → List ℕ → Option (List ℕ)
stripped prefix text = if bytes_eq (take (length prefix) text) prefix then Some (drop (length prefix) text) else None

-- what stands beside a text in a table
abbrev pub named : {A : Type 0} → List (List ℕ × A) → List ℕ → Option A
named [] text = None
named ((name, a) ∷ rows) text = if bytes_eq text name then Some a else named rows text
