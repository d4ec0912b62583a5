-- The rule that is broken, in place of the error that is reported of it.
use Rattle.std.specs.Prelude.{◌≡◌, ◌⊎◌, ◌∷◌, [], Result, Ok, Err}
use Rattle.clap.specs.Words.{Kinds}
use Rattle.clap.specs.declared.error.kind.ErrorKind.{ErrorKind}
use Rattle.clap.specs.declared.error.kind.ErrorKind.TheVariants as kind
use Rattle.options.specs.declared.asked.Options.{Options}
use Rattle.options.specs.declared.fault.Fault.{Fault}
use Rattle.options.specs.declared.fault.Fault.TheVariants as fault

-- the kind of error of a rule that is broken
abbrev pub kind_of_fault : Fault → ErrorKind
kind_of_fault (fault.Memory text) = kind.ValueValidation
kind_of_fault (fault.Number option text) = kind.ValueValidation
kind_of_fault (fault.WithoutListen option) = kind.MissingRequiredArgument
kind_of_fault fault.BesideCommand = kind.ArgumentConflict
kind_of_fault fault.WithoutFile = kind.MissingRequiredArgument
kind_of_fault fault.NoMemory = kind.OutOfMemory

-- the options that are asked for; or the only kind of error is that of the rule; or no memory was left
abbrev pub Finds : Result Options Fault → Result Options Kinds → Type 0
Finds (Ok options) asked = asked ≡ Ok options
Finds (Err fault) asked = (kind_of_fault fault ≡ kind.OutOfMemory) ⊎ (asked ≡ Err (kind_of_fault fault ∷ []))
