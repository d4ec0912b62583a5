-- A list that is read entry by entry.
use Rattle.std.proofs.Common.{List, ◌++◌, Option, Some, None}

-- the entries that were read, and then the others
abbrev pub with_others : {A : Type 0} → List A → Option (List A) → Option (List A)
with_others read None = None
with_others read (Some others) = Some (read ++ others)
