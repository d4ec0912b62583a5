-- What `listing` writes, and what it reports.
--
-- A text that has an image, for memory of 1 MiB, is listed wholly. Where the writer fails on the way, it has a part of
-- the listing, up to some byte. Of a text that has no image its error is reported, and then the
-- writer has what it had; so it has where no memory was left, which is never reported of a text
-- that is too long or no UTF-8. A text has at most one listing.
use Rattle.std.specs.Prelude.{◌≡◌, ℕ, ◌<◌, List, length, take, Option, Some}
use Rattle.std.specs.Io.KnownBytes.{Appends, Keeps}
use Rattle.image.specs.declared.Image.{Image}
use Rattle.assembler.specs.Placed.{error_of, Placed}
use Rattle.assembler.specs.declared.error.AsmError.{AsmError}
use Rattle.assembler.specs.declared.error.AsmErrorKind.{AsmErrorKind}
use Rattle.assembler.specs.declared.error.AsmErrorKind.TheVariants as k
use Rattle.listing.specs.Entries.{IsListing}
use Rattle.listing.specs.declared.fault.ListFault.{ListFault}
use Rattle.listing.specs.declared.fault.ListFault.TheVariants.{Assembly, NoMemory, Write}

-- how many bytes the memory has
abbrev pub memory_size : ℕ
memory_size = 1048576

-- The listing of a text: that of the image that is right for it.
pub record IsListed (text lines : List ℕ) : Type 0 where
  pub image : Image
  pub placed : Placed text memory_size image
  pub is_listing : IsListing image lines

-- A text has at most one.
abbrev pub ListingIsUnique : Type 0
ListingIsUnique = (text lines other : List ℕ) → IsListed text lines → IsListed text other → lines ≡ other

-- A writer has a text's listing after what it had before.
pub record Lists (text : List ℕ) (before after : Option (List ℕ)) : Type 0 where
  pub lines : List ℕ
  pub listed : IsListed text lines
  pub appended : Appends before after lines

-- A writer has a part of it: its first bytes, and not all.
pub record ListsPart (text : List ℕ) (before after : Option (List ℕ)) : Type 0 where
  pub lines : List ℕ
  pub listed : IsListed text lines
  pub count : ℕ
  pub short : count < length lines
  pub appended : Appends before after (take count lines)

-- What holds where a fault is reported.
abbrev pub Faults : ListFault → List ℕ → Option (List ℕ) → Option (List ℕ) → Type 0
Faults (Assembly error) text before after = (error_of text memory_size ≡ Some error) × Keeps before after
Faults Write text before after = ListsPart text before after
Faults NoMemory text before after = Keeps before after

-- the fault for an error of the assembler
abbrev pub fault_of : AsmErrorKind → AsmError → ListFault
fault_of k.NoMemory error = NoMemory
fault_of k.NotUtf8 error = Assembly error
fault_of k.Syntax error = Assembly error
fault_of k.UnknownInstruction error = Assembly error
fault_of k.BadOperand error = Assembly error
fault_of k.OutOfRange error = Assembly error
fault_of k.TwiceDefined error = Assembly error
fault_of k.Undefined error = Assembly error
fault_of k.TooLarge error = Assembly error
