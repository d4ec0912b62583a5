-- Where memory runs out over a text, nothing is wrong with it as a whole.
use Rattle.session.proofs.Common.{arith, AsmError, Err, IfSome, List, None, Ok, Result, ℕ, ◌≡◌}
use Rattle.assembler.specs.Program.{whole_error}
use Rattle.assembler.specs.declared.error.AsmErrorKind.TheVariants as k

no_memory : (text : List ℕ) → IfSome (whole_error text) (λ e. e.kind ≡ k.NoMemory → ⊥)
unfolding whole_error
no_memory text = grind arith

-- it has an image
pub whole_image : {A : Type 0} (text : List ℕ) (result : Result A AsmError) (image : A) → result ≡ Ok image
    → IfSome (whole_error text) (λ e. result ≡ Err e) → whole_error text ≡ None
whole_image text result image is h = grind arith

-- its error is that memory ran out
pub whole_memory : {A : Type 0} (text : List ℕ) (result : Result A AsmError) (error : AsmError) → result ≡ Err error
    → error.kind ≡ k.NoMemory → IfSome (whole_error text) (λ e. result ≡ Err e) → whole_error text ≡ None
whole_memory text result error is out h = let other = no_memory text in grind arith
