-- Requests as they come: with numbers and bytes that a request may have, and no refusal that has a text of its own.
use Rattle.session_laws.proofs.Common.{[], all_joined, ap, arith, Arrivals, Ask, asks_in, asks_of, AsksLinesWithin, Bad, false, GivesBytes, Incoming, incoming_of, IsRefusalOf, List, map, map-id, MessageError, number_of, Pending, Refusal, Request, Result, subst, sym, ℕ, ◌++◌, ◌∙◌, ◌∷◌, ◌≡◌, ◌≤◌}
use Rattle.protocol.proofs.Meanings.{IsSound, IsOfNameOrArguments, incoming_of-sound}
use Rattle.protocol.specs.Refusals.{has_text}
use Rattle.std.specs.List.{AllByRecursion}
use Rattle.range_laws.proofs.Requests.{BodyGives, body_gives}
use Rattle.session_laws.proofs.Joining.{seen_as, all_joined_as}

abbrev pub IsRead : Ask → Type 0
IsRead (Request r) = (r.seq ≤ 2147483647) × (AsksLinesWithin r.command × GivesBytes r.command)
IsRead (Bad seq command refusal) = (seq ≤ 2147483647) × (has_text refusal ≡ false)

pub number_is : (ask : Ask) → IsRead ask → number_of ask ≤ 2147483647
number_is (Request r) h = h.0
number_is (Bad seq command refusal) h = h.0

pub has_no_text : (ask : Ask) (refusal : Refusal) → IsRead ask → IsRefusalOf ask refusal → has_text refusal ≡ false
has_no_text ask refusal h is = grind arith

abbrev pub AreRead : List Ask → Type 0
AreRead = AllByRecursion IsRead

no_text : (refusal : Refusal) → IsOfNameOrArguments refusal → has_text refusal ≡ false
no_text refusal is = grind arith

message_is_read : (i : Result Incoming MessageError) → IsSound i → BodyGives i → (rest : List (Result Incoming MessageError))
    → AreRead (asks_in rest) → AreRead (asks_in (i ∷ rest))
message_is_read i sound gives rest h = grind (arith, no_text)

pub asks_are_read : (bodies : List (List ℕ)) → AreRead (asks_of bodies)
asks_are_read [] = tt
asks_are_read (b ∷ bodies) =
    message_is_read (incoming_of b) (incoming_of-sound b) (body_gives b) (map incoming_of bodies) (asks_are_read bodies)

-- those that wait
abbrev pub asks_that_wait : List Pending → List Ask
asks_that_wait pending = seen_as (λ ask. ask) pending

pub all_append : {A : Type 0} (P : A → Type 0) (xs ys : List A) → AllByRecursion P xs → AllByRecursion P ys → AllByRecursion P (xs ++ ys)
all_append P [] ys a b = b
all_append P (x ∷ xs) ys a b = (a.0, all_append P xs ys a.1 b)

-- and those that join them
pub joined_are : (P : Ask → Type 0) (asks : List Ask) (came : Arrivals) → AllByRecursion P (asks_that_wait came.pending)
    → AllByRecursion P asks → AllByRecursion P (asks_that_wait (all_joined came asks).pending)
joined_are P asks came old new =
    subst (AllByRecursion P) (sym (all_joined_as (λ ask. ask) asks came ∙ ap (λ l. asks_that_wait came.pending ++ l) (map-id asks)))
    (all_append P (asks_that_wait came.pending) asks old new)
