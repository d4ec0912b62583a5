-- What a request refers to by a number (DAP specification, "Lifetime of Objects References", `frameId`,
-- `variablesReference`).
--
-- A number that was never issued is unknown, and so is one that names something of another kind: a frame where a scope is
-- asked for, or a scope where a frame is. A number of an earlier stop is stale. An editor may send a number below 0, which
-- was never issued.
use Rattle.std.specs.Prelude.{ℕ, ℤ, pos, negsuc, Option, Some, None, Result, Ok, Err}
use Rattle.std.specs.Option.{unwrap_or}
use Rattle.std.specs.Result.{result_err}
use Rattle.protocol.specs.declared.refusal.Refusal.{Refusal}
use Rattle.protocol.specs.declared.refusal.Refusal.TheVariants.{StaleReference, UnknownReference}
use Rattle.variables.specs.Numbers.{Numbers, found_in, number_in}
use Rattle.variables.specs.declared.error.FindError.{FindError}
use Rattle.variables.specs.declared.error.FindError.TheVariants.{Unknown, Stale}
use Rattle.variables.specs.declared.target.Target.{Target}
use Rattle.variables.specs.declared.target.Target.TheVariants.{Frame, Registers, Stack}

-- the refusal of a number that refers to nothing
abbrev pub refused : Result Target FindError → Result Target Refusal
refused (Ok target) = Ok target
refused (Err Unknown) = Err UnknownReference
refused (Err Stale) = Err StaleReference

-- what a number refers to
abbrev pub target_of : Numbers → ℤ → Result Target Refusal
target_of numbers (pos number) = refused (found_in numbers number)
target_of numbers (negsuc number) = Err UnknownReference

abbrev pub if_frame : Result Target Refusal → Result ℕ Refusal
if_frame (Ok (Frame index)) = Ok index
if_frame (Ok Registers) = Err UnknownReference
if_frame (Ok Stack) = Err UnknownReference
if_frame (Err refusal) = Err refusal

-- the index of the frame of a number
abbrev pub frame_of : Numbers → ℤ → Result ℕ Refusal
frame_of numbers id = if_frame (target_of numbers id)

-- why an optional number is no frame's, if it is there and is none
abbrev pub frame_refusal : Numbers → Option ℤ → Option Refusal
frame_refusal numbers None = None
frame_refusal numbers (Some id) = result_err (frame_of numbers id)

-- the number of a target that has one
abbrev pub number_for : Numbers → Target → ℕ
number_for numbers target = unwrap_or (number_in numbers target) 0
