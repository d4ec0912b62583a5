-- A machine with a program that was just loaded.
use Rattle.std.specs.Prelude.{◌≡◌, ◌↔◌, ℕ, ◌+◌, ◌%◌, ◌≤◌, false, [], length, map, refl, replicate, slice_set}
use Rattle.breakpoints.specs.Stops.{Lists, reset}
use Rattle.image.specs.Memory.{first_address, with_bytes}
use Rattle.image.specs.declared.Image.{Image}
use Rattle.rv32i.specs.declared.hart.Hart.{Hart}
use Rattle.course.specs.Calls.{nothing_kept}
use Rattle.stepping.specs.Ticks.{Debugged}
use Rattle.stepping.specs.declared.goal.Goal.TheVariants.{Go}

-- a size that memory can have, which has room for an image, whose entry is at a multiple of 4
pub record CanBeLoaded (image : Image) (size : ℕ) : Type 0 where
  pub whole : size % 4096 ≡ 0
  pub some : 4096 ≤ size
  pub few : size ≤ 16777216
  pub fits : length image.bytes ≤ size
  pub aligned : image.entry % 4 ≡ 0

-- The machine is as the image says: pc at the entry, sp at the end of memory, all other registers and all other bytes
-- 0. No instruction has retired, no move is recorded, and it runs without a goal.
pub record IsLoaded (image : Image) (size : ℕ) (lists : Lists) (d : Debugged) : Type 0 where
  pub pc : d.hart.pc ≡ image.entry
  pub x : d.hart.x ≡ slice_set (replicate 32 0) 2 (first_address + size)
  pub memory : d.memory ≡ with_bytes (replicate size 0) first_address image.bytes
  pub size_is : d.size ≡ size
  pub calls : d.calls ≡ nothing_kept
  pub lists_are : d.lists ≡ lists
  pub retired : d.retired ≡ 0
  pub past : d.past ≡ []
  pub goal : d.goal ≡ Go
  pub start : d.start ≡ 0
  pub check_due : d.check_due ≡ false
  pub table : d.table ≡ record image.lines { labels = [] }

-- no breakpoints
abbrev pub no_breakpoints : Lists
no_breakpoints = record { source = []; instructions = []; functions = []; ids = []; logs = [] }

-- the same breakpoints, with no hits yet
abbrev pub not_hit : Lists → Lists
not_hit lists = record lists {
  source = map reset lists.source;
  instructions = map reset lists.instructions;
  functions = map reset lists.functions;
}

-- ---- as a function

-- the hart of such a machine, by its pc and what sp is
abbrev pub started : ℕ → ℕ → Hart
started pc sp = record { pc = pc; x = slice_set (replicate 32 0) 2 sp; zero = refl }

-- a machine into which an image was loaded
abbrev pub loaded : Image → ℕ → Lists → Debugged
loaded image size lists = record {
  hart = started image.entry (first_address + size);
  memory = with_bytes (replicate size 0) first_address image.bytes;
  size = size;
  calls = nothing_kept;
  lists = lists;
  retired = 0;
  past = [];
  goal = Go;
  start = 0;
  check_due = false;
  table = record image.lines { labels = [] };
}

-- the same machine with an image loaded anew: the breakpoints stay, and none was hit yet
abbrev pub reloaded : Image → Debugged → Debugged
reloaded image d = loaded image d.size (not_hit d.lists)

-- It is the only machine that is as the image says.
abbrev pub OneIsLoaded : Type 0
OneIsLoaded = (image : Image) (size : ℕ) (lists : Lists) (d : Debugged) →
    IsLoaded image size lists d ↔ (d ≡ loaded image size lists)

-- So a machine is settled when an image is loaded anew into it.
abbrev pub OneIsReloaded : Type 0
OneIsReloaded = (image : Image) (before after : Debugged) →
    IsLoaded image before.size (not_hit before.lists) after ↔ (after ≡ reloaded image before)

-- Of the line table it knows the rows and the end alone: images that differ in their labels are the same to it.
abbrev pub LabelsAreNotLoaded : Type 0
LabelsAreNotLoaded = (image other : Image) (size : ℕ) (lists : Lists) → image.bytes ≡ other.bytes →
    image.entry ≡ other.entry → image.lines.rows ≡ other.lines.rows → image.lines.end ≡ other.lines.end →
    loaded image size lists ≡ loaded other size lists
