-- Breakpoints that are asked for (DAP specification, `Breakpoint`).
--
-- Each breakpoint is looked at by itself: either it can be set, or there is a problem with it. Those that can be set
-- get numbers, one after the other in the order in which they were asked for. The answer has an entry for each, the
-- list that is set has those that can be set.
use Rattle.std.specs.Prelude.{ℕ, ◌+◌, List, [], ◌∷◌, Option, Result, Ok, Err, codes}
use Rattle.breakpoints.specs.Stops.{Wanted}
use Rattle.replies.specs.declared.response.ResponseBody.{ResponseBody}
use Rattle.protocol.specs.declared.refusal.Refusal.{Refusal}
use Rattle.answers.specs.declared.problem.Problem.{Problem}
use Rattle.answers.specs.declared.problem.Problem.TheVariants.{UnknownSource, BadCondition, BadHitCondition}
use Rattle.answers.specs.declared.problem.Problem.TheVariants.{UnknownFunction, NoCode, BadAddress}

-- why a breakpoint is not set, as the editor shows it
abbrev pub message_of : Problem → List ℕ
message_of UnknownSource = codes "unknown source"
message_of BadCondition = codes "bad condition"
message_of BadHitCondition = codes "bad hit condition"
message_of UnknownFunction = codes "unknown function"
message_of NoCode = codes "no code at or after this line"
message_of BadAddress = codes "bad address"

-- What an answer says, and the list that replaces the one that is set; None: no list is replaced.
pub record Answer : Type 0 where
  pub result : Result ResponseBody Refusal
  pub list : Option (List Wanted)

-- ---- one by one: `judged` says whether a breakpoint of kind A can be set, and as what

-- the number of the next breakpoint
abbrev pub next_after : {P : Type 0} → ℕ → Result P Problem → ℕ
next_after next (Ok place) = next + 1
next_after next (Err problem) = next

-- the entries of the answer; `next` is the number of the next breakpoint that is set
abbrev pub entries_of : {A P E : Type 0} → (A → Result P Problem) → (ℕ → A → Result P Problem → E) → ℕ → List A → List E
entries_of judged entry next [] = []
entries_of judged entry next (asked ∷ others) =
    entry next asked (judged asked) ∷ entries_of judged entry (next_after next (judged asked)) others

abbrev pub followed_by : {P : Type 0} → (ℕ → P → Wanted) → ℕ → Result P Problem → List Wanted → List Wanted
followed_by wanted next (Ok place) others = wanted next place ∷ others
followed_by wanted next (Err problem) others = others

-- the list that is set
abbrev pub list_of : {A P : Type 0} → (A → Result P Problem) → (ℕ → P → Wanted) → ℕ → List A → List Wanted
list_of judged wanted next [] = []
list_of judged wanted next (asked ∷ others) =
    followed_by wanted next (judged asked) (list_of judged wanted (next_after next (judged asked)) others)
