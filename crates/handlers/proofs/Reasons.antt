-- The first of several reasons for a refusal.
use Rattle.std.proofs.Common.{◌≡◌, List, [], ◌∷◌, ◌++◌, Option, Some, None, refl}
use Rattle.protocol.specs.declared.refusal.Refusal.{Refusal}
use Rattle.queues.specs.declared.pending.Ask.{Ask}
use Rattle.handlers.specs.Refusals.{first_refusal, path_in}

-- one that does not apply, at the end, changes nothing
pub first_refusal-none : (reasons : List (Option Refusal)) → first_refusal (reasons ++ None ∷ []) ≡ first_refusal reasons
first_refusal-none [] = refl
first_refusal-none (None ∷ reasons) = first_refusal-none reasons
first_refusal-none (Some refusal ∷ reasons) = refl

-- where one applies, those after it do not matter
pub first_refusal-some : (reasons : List (Option Refusal)) (refusal : Refusal) (more : List (Option Refusal))
    → first_refusal reasons ≡ Some refusal → first_refusal (reasons ++ more) ≡ Some refusal
first_refusal-some [] refusal more e = absurd (cc)
first_refusal-some (None ∷ reasons) refusal more e = first_refusal-some reasons refusal more e
first_refusal-some (Some other ∷ reasons) refusal more e = e

-- where none of some applies, the others decide
pub first_refusal-later : (reasons more : List (Option Refusal)) → first_refusal reasons ≡ None
    → first_refusal (reasons ++ more) ≡ first_refusal more
first_refusal-later [] more e = refl
first_refusal-later (None ∷ reasons) more e = first_refusal-later reasons more e
first_refusal-later (Some refusal ∷ reasons) more e = absurd (cc)

-- a request that names no file wants none, refused or not
pub names_no_file : (refusal : Option Refusal) (ask : Ask) → path_in None ask ≡ None → path_in refusal ask ≡ None
names_no_file None ask e = e
names_no_file (Some refusal) ask e = refl
