-- What is reported of a part is reported of the whole.
use Rattle.assembler.proofs.Common.{AsmError, AsmErrorKind, Option, reported, Reports, Some, ◌≡◌}
use Rattle.assembler.specs.declared.error.AsmErrorKind.TheVariants as k

-- where the error of a part is also that of a greater part, what is reported of the one is reported of the other
reported_weaker : (kind : AsmErrorKind) (error : AsmError) (found other : Option AsmError) → reported kind error found
    → (found ≡ Some error → other ≡ Some error) → reported kind error other
reported_weaker k.NoMemory error found other h f = h
reported_weaker _ error found other h f = f h

pub reports_weaker : (error : AsmError) (found other : Option AsmError) → Reports error found → (found ≡ Some error → other ≡ Some error)
    → Reports error other
reports_weaker error found other h f = reported_weaker error.kind error found other h f
