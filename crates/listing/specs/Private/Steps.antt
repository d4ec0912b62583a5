-- How the code makes a listing. A reader of the public call needs none of this.
use Rattle.std.specs.Prelude.{◌≡◌, ℕ, List, Some, Result, Ok, Err, ⊤}
use Rattle.assembler.specs.Placed.{error_of}
use Rattle.listing.specs.Listing.{memory_size}
use Rattle.listing.specs.declared.fault.ListFault.{ListFault}
use Rattle.listing.specs.declared.fault.ListFault.TheVariants.{Assembly, NoMemory, Write}

-- what is reported where no lines are made: never that a writer failed
abbrev pub Unlisted : ListFault → List ℕ → Type 0
Unlisted (Assembly error) text = error_of text memory_size ≡ Some error
Unlisted Write text = ⊥
Unlisted NoMemory text = ⊤

-- what is reported of writing
abbrev pub reported : {E : Type 0} → Result (Unit {0}) E → Result (Unit {0}) ListFault
reported (Ok done) = Ok done
reported (Err error) = Err Write
