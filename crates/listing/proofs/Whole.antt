-- What is wrong with a text as a whole is a fault of the text, and never that no memory was left.
use Rattle.std.proofs.Common.{◌≡◌, ℕ, Bool, true, false, cond, nat_lt, List, length, Option, Some, None, Result, Err, refl, ap, ◌∙◌}
use Rattle.std.specs.Prelude.{IfSome}
use Rattle.std.specs.Str.{is_utf8}
use Rattle.std.specs.Str.Lossy.{utf8_valid_len}
use Rattle.assembler.specs.Errors.{at}
use Rattle.assembler.specs.Program.{line_at, text_limit, whole_error}
use Rattle.assembler.specs.declared.error.AsmError.{AsmError}
use Rattle.assembler.specs.declared.error.AsmErrorKind.TheVariants as k
use Rattle.listing.specs.Listing.{fault_of}
use Rattle.listing.specs.declared.fault.ListFault.{ListFault}
use Rattle.listing.specs.declared.fault.ListFault.TheVariants.{Assembly}

pub whole_is_fault : (text : List ℕ) → IfSome (whole_error text) (λ whole. fault_of whole.kind whole ≡ Assembly whole)
unfolding whole_error
whole_is_fault text = by (nat_lt text_limit (length text)) (is_utf8 text) where
  by : (long valid : Bool) →
      IfSome (cond long (Some (at 0 k.TooLarge)) (cond valid None (Some (at (line_at text (utf8_valid_len text)) k.NotUtf8))))
      (λ whole. fault_of whole.kind whole ≡ Assembly whole)
  by true valid = refl
  by false true = tt
  by false false = refl

-- so the fault that is reported for the assembler's error is that error
pub whole_passed : {A B : Type 0} (text : List ℕ) (error : AsmError) (fault : ListFault) (given : Result A AsmError)
    (result : Result B ListFault) → fault ≡ fault_of error.kind error → given ≡ Err error → result ≡ Err fault
    → IfSome (whole_error text) (λ whole. given ≡ Err whole) → IfSome (whole_error text) (λ whole. result ≡ Err (Assembly whole))
whole_passed text error fault given result f g r h = by (whole_error text) (whole_is_fault text) h where
  by : (found : Option AsmError) → IfSome found (λ whole. fault_of whole.kind whole ≡ Assembly whole)
      → IfSome found (λ whole. given ≡ Err whole) → IfSome found (λ whole. result ≡ Err (Assembly whole))
  by None k h = tt
  by (Some whole) k h =
      let same : error ≡ whole = cc in let is : fault ≡ Assembly whole = f ∙ ap (λ e. fault_of e.kind e) same ∙ k in cc
