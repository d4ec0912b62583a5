-- What holds of every line: nothing that is typed is lost, and nothing is made up.
--
-- Blanks apart, a line is its word and then what belongs to it, in the order in which the head of `Lines` has it: each text
-- as it was typed, each number as digits that write it, with `if`, `hit`, `*` and `=` where something stands after them.
use Rattle.std.specs.Prelude.{◌≡◌, ◌⊎◌, ℕ, not, true, false, List, [], ◌++◌, Option, Some, None, Ok, codes}
use Rattle.std.specs.List.{filter}
use Rattle.byte_strings.specs.Blanks.{is_blank}
use Rattle.numerals.specs.Numerals.{numeral}
use Rattle.prompt.specs.Lines.{line_of}
use Rattle.prompt.specs.Parts.{Placed}
use Rattle.prompt.specs.Words.{word_of}
use Rattle.prompt.specs.declared.line.Line.{Line}
use Rattle.prompt.specs.declared.line.Line.TheVariants as l
use Rattle.prompt.specs.declared.line.Stop.{Stop}
use Rattle.prompt.specs.declared.place.Place.{Place}
use Rattle.prompt.specs.declared.place.Place.TheVariants as place
use Rattle.prompt.specs.declared.words.Word.{Word}
use Rattle.prompt.specs.declared.words.Word.TheVariants as w

-- the bytes of a text that are no blanks
abbrev pub ink : List ℕ → List ℕ
ink text = filter (λ b. not (is_blank b)) text

-- ---- what arguments are written as, blanks apart

abbrev pub WritesText : Placed → List ℕ → Type 0
WritesText text bytes = bytes ≡ ink text.text

abbrev pub WritesNumber : ℕ → List ℕ → Type 0
WritesNumber n bytes = (digits : List ℕ) × ((numeral 10 digits ≡ Ok n) × (bytes ≡ ink digits))

abbrev pub WritesPlace : Place → List ℕ → Type 0
WritesPlace (place.Line n) bytes = WritesNumber n bytes
WritesPlace (place.Label text) bytes = WritesText text bytes
WritesPlace (place.Address text) bytes = bytes ≡ codes "*" ++ ink text.text

-- what may be absent, with what stands before it
abbrev pub WritesIf : {A : Type 0} → (A → List ℕ → Type 0) → List ℕ → Option A → List ℕ → Type 0
WritesIf writes before None bytes = bytes ≡ []
WritesIf writes before (Some a) bytes = (rest : List ℕ) × (writes a rest × (bytes ≡ before ++ rest))

-- no number means once
abbrev pub WritesTimes : ℕ → List ℕ → Type 0
WritesTimes n bytes = ((bytes ≡ []) × (n ≡ 1)) ⊎ WritesNumber n bytes

-- a breakpoint
pub record WritesStop (stop : Stop) (bytes : List ℕ) : Type 0 where
  pub place : List ℕ
  pub condition : List ℕ
  pub hits : List ℕ
  pub written_place : WritesPlace stop.place place
  pub written_condition : WritesIf WritesText (codes "if") stop.condition condition
  pub written_hits : WritesIf WritesNumber (codes "hit") stop.hits hits
  pub all : bytes ≡ place ++ condition ++ hits

-- one after the other
abbrev pub WritesBoth : (List ℕ → Type 0) → (List ℕ → Type 0) → List ℕ → Type 0
WritesBoth first second bytes = (a : List ℕ) × ((b : List ℕ) × (first a × (second b × (bytes ≡ a ++ b))))

-- what belongs to the word of a line
abbrev pub Writes : Line → List ℕ → Type 0
Writes l.Again bytes = ⊥
Writes l.Comment bytes = ⊥
Writes (l.Plain plain) bytes = bytes ≡ []
Writes (l.Move motion n) bytes = WritesTimes n bytes
Writes (l.Help word) bytes = WritesIf WritesText [] word bytes
Writes (l.Break stop) bytes = WritesStop stop bytes
Writes (l.Log p text) bytes = WritesBoth (WritesPlace p) (WritesText text) bytes
Writes (l.Delete n) bytes = WritesIf WritesNumber [] n bytes
Writes (l.Change direction e) bytes = WritesText e bytes
Writes (l.Print e) bytes = WritesText e bytes
Writes (l.Display e) bytes = WritesText e bytes
Writes (l.Undisplay n) bytes = WritesIf WritesNumber [] n bytes
Writes (l.Set target value) bytes = bytes ≡ ink target.text ++ codes "=" ++ ink value.text
Writes (l.Registers names) bytes = WritesIf WritesText [] names bytes
Writes (l.Examine unit e n) bytes = WritesBoth (WritesText e) (WritesIf WritesNumber [] n) bytes
Writes (l.Disassemble p n) bytes = WritesBoth (WritesIf WritesPlace [] p) (WritesIf WritesNumber [] n) bytes
Writes (l.List p) bytes = WritesIf WritesPlace [] p bytes

-- the words that ask for it
abbrev pub AsksFor : Word → Line → Type 0
AsksFor word (l.Plain plain) = word ≡ w.Plain plain
AsksFor word (l.Move motion n) = word ≡ w.Motion motion
AsksFor word (l.Help name) = word ≡ w.Help
AsksFor word (l.Break stop) = ((word ≡ w.Break) × (stop.is_temporary ≡ false)) ⊎ ((word ≡ w.Tbreak) × (stop.is_temporary ≡ true))
AsksFor word (l.Log p text) = word ≡ w.Log
AsksFor word (l.Delete n) = word ≡ w.Delete
AsksFor word (l.Change direction e) = word ≡ w.Change direction
AsksFor word (l.Print e) = word ≡ w.Print
AsksFor word (l.Display e) = word ≡ w.Display
AsksFor word (l.Undisplay n) = word ≡ w.Undisplay
AsksFor word (l.Set target value) = (word ≡ w.Print) ⊎ (word ≡ w.Set)
AsksFor word (l.Registers names) = word ≡ w.Registers
AsksFor word (l.Examine unit e n) = word ≡ w.Examine unit
AsksFor word (l.Disassemble p n) = word ≡ w.Disassemble
AsksFor word (l.List p) = word ≡ w.List
AsksFor word other = ⊥

-- a line is a word, and what belongs to it
pub record IsSaid (line : Line) (bytes : List ℕ) : Type 0 where
  pub name : List ℕ
  pub word : Word
  pub rest : List ℕ
  pub named : word_of name ≡ Some word
  pub asks : AsksFor word line
  pub writes : Writes line rest
  pub all : bytes ≡ ink name ++ rest

abbrev pub IsWhole : Line → List ℕ → Type 0
IsWhole l.Again bytes = bytes ≡ []
IsWhole l.Comment bytes = (rest : List ℕ) × (bytes ≡ codes "#" ++ rest)
IsWhole line bytes = IsSaid line bytes

-- Whatever is read of a line is all that stands on it.
abbrev pub NothingIsLost : Type 0
NothingIsLost = (text : List ℕ) (line : Line) → line_of text ≡ Ok line → IsWhole line (ink text)
