-- What files give: a read of a path gives what the file there holds, or says that it cannot be read.
--
-- A file may hold one thing now and another later. So nothing is said of what a file holds, but of the reads: files may say
-- which reads they have answered, in order, and what each gave; where they do not say so, nothing is claimed of them. A read
-- that found no memory gave nothing, and is none of these.
use Rattle.std.specs.Prelude.{◌≡◌, ℕ, ◌≤◌, List, [], ◌∷◌, ◌++◌, length, Option, Some, None, Result, Ok, Err, ⊤}
use Rattle.transport.specs.declared.files.FileFault.{FileFault}
use Rattle.transport.specs.declared.files.FileFault.TheVariants.{Unreadable, NoMemory}

-- a read that was answered: the path, and what the file there holds, or nothing where it cannot be read or is too long
pub record FileRead : Type 0 where
  pub path : List ℕ
  pub gave : Option (List ℕ)

-- the reads that files have answered so far, where they are known
abbrev pub KnownReads : Type 0
KnownReads = Option (List FileRead)

-- what is known, reads or else, grows by these
abbrev pub Records : {X : Type 0} → Option (List X) → Option (List X) → List X → Type 0
Records None new more = ⊤
Records (Some past) None more = ⊥
Records (Some past) (Some now) more = now ≡ past ++ more

-- the read of a path, by what it answered
abbrev pub read_of : List ℕ → Result (List ℕ) FileFault → List FileRead
read_of path (Ok text) = record { path = path; gave = Some text } ∷ []
read_of path (Err Unreadable) = record { path = path; gave = None } ∷ []
read_of path (Err NoMemory) = []

-- the same, where it answered with a file, or that it found no memory
abbrev pub read_at : {E : Type 0} → List ℕ → Result (Option (List ℕ)) E → List FileRead
read_at path (Ok file) = record { path = path; gave = file } ∷ []
read_at path (Err error) = []

-- the most bytes that the text of a file may have
abbrev pub longest_text : ℕ
longest_text = 1048576

-- a text is not too long
abbrev pub IsShort : Option (List ℕ) → Type 0
IsShort None = Unit {0}
IsShort (Some text) = length text ≤ longest_text
