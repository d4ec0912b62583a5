-- What holds of numbers over any list of calls.
--
-- A call that is refused or finds no memory changes nothing, so the calls here are those that succeed.
use Rattle.std.specs.Prelude.{◌≡◌, ℕ, zero, suc, List, [], ◌∷◌, length, map, Some, Result, Ok, Err, IsTrue}
use Rattle.variables.specs.Numbers.{has}
use Rattle.variables.specs.References.{Past, ended, found, issued_all, nothing_issued, number_of}
use Rattle.variables.specs.declared.error.FindError.{FindError}
use Rattle.variables.specs.declared.error.FindError.TheVariants.{Unknown, Stale}
use Rattle.variables.specs.declared.target.Target.{Target}

-- a call: numbers are issued for targets, or the stop ends
pub data Call : Type 0 where
  Issue : List Target → Call
  EndStop : Call

-- what it makes of a past, and what calls make of one, the first of them first
abbrev pub after_call : Call → Past → Past
after_call (Issue targets) past = issued_all past targets
after_call EndStop past = ended past

abbrev pub after_calls : List Call → Past → Past
after_calls [] past = past
after_calls (call ∷ calls) past = after_calls calls (after_call call past)

-- the past of these calls
abbrev pub past_of : List Call → Past
past_of calls = after_calls calls nothing_issued

-- the numbers from this one down to 1
abbrev pub down_from : ℕ → List ℕ
down_from zero = []
down_from (suc n) = suc n ∷ down_from n

-- Numbers rise from 1, one by one: none comes twice, and none is left out.
abbrev pub NumbersRise : Type 0
NumbersRise = (calls : List Call) →
    map (λ i. i.number) (past_of calls).issued ≡ down_from (length (past_of calls).issued)

-- Each target for which numbers are issued has one then, and by that the target is found.
abbrev pub IssuedAreFound : Type 0
IssuedAreFound = (calls : List Call) (targets : List Target) (target : Target) → IsTrue (has target targets) →
    (number : ℕ) × ((number_of (issued_all (past_of calls) targets) target ≡ Some number)
    × (found (issued_all (past_of calls) targets) number ≡ Ok target))

-- The number of a target stays the same as long as the stop lasts.
abbrev pub NumbersStay : Type 0
NumbersStay = (calls : List Call) (targets : List Target) (target : Target) (number : ℕ) →
    number_of (past_of calls) target ≡ Some number →
    number_of (issued_all (past_of calls) targets) target ≡ Some number

-- what is answered of a number when its stop has ended
abbrev pub stale : Result Target FindError → Result Target FindError
stale (Ok target) = Err Stale
stale (Err Stale) = Err Stale
stale (Err Unknown) = Err Unknown

-- What was issued is stale when the stop has ended, and stays so; what was not is as unknown as before.
abbrev pub EndedAreStale : Type 0
EndedAreStale = (calls : List Call) (number : ℕ) →
    found (ended (past_of calls)) number ≡ stale (found (past_of calls) number)
