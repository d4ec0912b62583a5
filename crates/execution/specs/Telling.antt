-- Where and why a machine stopped, in the form in which compilers tell errors (GNU Coding Standards, "Formatting
-- Error Messages"):
--
--   FILE:LINE: WHY at 0xADDRESS (LABEL+BYTES)
--   the line itself
--
-- and where it can be seen what the program did wrong
--
--   FILE:LINE: WHY: FAULT
--   the line itself
--   at 0xADDRESS (LABEL+BYTES)
--
-- The line is the one whose code stands at the address; its number and the line itself are left out where none does. The label is
-- the one that the address goes by; `+BYTES` is left out at the label itself, and all in brackets where there is no label.
--
-- A program without `_start` begins at its first line. That it began at a label, and not at `main`, is told with its name.
use Rattle.std.specs.Prelude.{ℕ, zero, suc, not, ◌==◌, ◌&&◌, List, [], ◌++◌, Option, Some, None, codes, if◌then◌else◌, is_some}
use Rattle.std.specs.Fmt.{decimal}
use Rattle.std.specs.Str.{bytes_eq}
use Rattle.image.specs.Lines.{Table, label_address, label_at}
use Rattle.rv32i.specs.Texts.{address_text}

-- a line's number after a colon, if there is one
abbrev pub number_of : Option ℕ → List ℕ
number_of None = []
number_of (Some line) = codes ":" ++ decimal line

-- how many bytes above a label
abbrev pub above : ℕ → List ℕ
above zero = []
above (suc n) = codes "+" ++ decimal (suc n)

-- the label that an address goes by
abbrev pub label_of : Option (List ℕ × ℕ) → List ℕ
label_of None = []
label_of (Some label) = codes " (" ++ label.0 ++ above label.1 ++ codes ")"

-- where a machine stands
abbrev pub place : Table → ℕ → List ℕ
place table pc = codes "at " ++ address_text pc ++ label_of (label_at table pc)

-- where and why it stopped: file, number and text of the line, what happened, and what the program did wrong
pub record Stopped : Type 0 where
  pub file : List ℕ
  pub line : Option ℕ
  pub source : Option (List ℕ)
  pub why : List ℕ
  pub fault : Option (List ℕ)

-- a line with its line feed, if there is one
abbrev pub shown : Option (List ℕ) → List ℕ
shown None = []
shown (Some line) = line ++ codes "\n"

-- what follows why it stopped: what was wrong, the line, and where it stands
abbrev pub rest : Option (List ℕ) → List ℕ → Option (List ℕ) → List ℕ
rest None place source = codes " " ++ place ++ codes "\n" ++ shown source
rest (Some fault) place source = codes ": " ++ fault ++ codes "\n" ++ shown source ++ place ++ codes "\n"

abbrev pub stop_text : Stopped → Table → ℕ → List ℕ
stop_text stop table pc = stop.file ++ number_of stop.line ++ codes ": " ++ stop.why ++ rest stop.fault (place table pc) stop.source

-- ---- where it began

-- a label at an address, if it is another than `main`
abbrev pub other_than_main : Option (List ℕ × ℕ) → Option (List ℕ)
other_than_main None = None
other_than_main (Some label) = if (label.1 == 0) && not (bytes_eq label.0 (codes "main")) then Some label.0 else None

abbrev pub odd_beginning : Table → ℕ → Option (List ℕ)
odd_beginning table entry = if is_some (label_address table (codes "_start")) then None else other_than_main (label_at table entry)

abbrev pub beginning_text : List ℕ → List ℕ → ℕ → List ℕ
beginning_text file label line = file ++ (codes ": no _start: it began at " ++ (label ++ (codes ", line " ++ (decimal line ++ codes "\n"))))
