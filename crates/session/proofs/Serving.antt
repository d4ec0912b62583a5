-- An answer refuses, or it is the success of a request that the phase takes: so a request that could not be read is refused.
use Rattle.session.proofs.Common.{[], answer_by, answer_to, Answering, Bool, Cancelled as IsCancelled, demand_of, false, first_refusal, given_of, goes_on, has_ended, has_none, has_text, inl, inr, is_cancelled, is_no_thread, is_repeat, is_taken_in, List, misread, names_none, NoMachine, None, not, not-false, NoThread, NotStopped, Now, Option, refl, Refusal, refusing, RepeatedSequence, RequestGone, Run, run_of, Some, success_of, Terms, true, unmet, where_so, WrongPhase, ℕ, ◌&&◌, ◌++◌, ◌∷◌, ◌≡◌, ◌⊎◌}
use Rattle.protocol.specs.declared.refusal.Refusal.TheVariants.{Ended}
use Rattle.protocol.specs.declared.request.Request.{Request as ARequest}
use Rattle.queues.specs.declared.pending.Ask.{Ask}
use Rattle.queues.specs.declared.pending.Ask.TheVariants.{Request, Bad}
use Rattle.queues.specs.declared.pending.Fate.{Fate}
use Rattle.handlers.specs.declared.demand.Demand.{Demand}

-- a refusal that the request was read as, or one that has no text of its own
abbrev pub IsRefusalOf : Ask → Refusal → Type 0
IsRefusalOf ask refusal = (misread ask ≡ Some refusal) ⊎ (has_text refusal ≡ false)

-- what holds where a reason applies, and where it does not and the others decide, holds
by_reason : (P : Option Refusal → Type 0) (reason : Bool) (refusal : Refusal) (rest : List (Option Refusal)) → P (Some refusal)
    → (reason ≡ false → P (first_refusal rest)) → P (first_refusal (where_so reason refusal ∷ rest))
by_reason P true refusal rest here there = here
by_reason P false refusal rest here there = there refl

-- the program is as the request asks: there is one, it has not ended, and it stands still
pub record Meets (run : Option Run) (demand : Demand) : Type 0 where
  pub loaded : (demand.loaded && has_none run) ≡ false
  pub alive : (demand.alive && has_ended run) ≡ false
  pub still : (demand.still && goes_on run) ≡ false

-- the answer to a request that could be read
of_request : (P : Answering → Type 0) (now : Now) (terms : Terms) (file : Option (List ℕ)) (r : ARequest) (fate : Fate)
    → ((refusal : Refusal) → IsRefusalOf (Request r) refusal → P (refusing (given_of now) terms refusal None))
    → (is_taken_in terms.phase r.command ≡ true → Meets (run_of now.debuggee.program) (demand_of r.command) → P (success_of (given_of now) terms file r.command))
    → P (answer_to now terms file (record { ask = Request r; fate = fate }))
of_request P now terms file r fate refuses succeeds =
    where_not (is_repeat fate) RepeatedSequence _ refl (λ _. where_not (is_cancelled fate) IsCancelled _ refl
    (λ _. where_not (not (is_taken_in terms.phase r.command)) WrongPhase _ refl
    (λ taken. by_demand (demand_of r.command) (run_of now.debuggee.program) (succeeds (not-false _ taken))))) where
      Q : Option Refusal → Type 0
      Q refusal = P (answer_by (record { given = given_of now; terms = terms; file = file }) refusal (Request r))

      where_not : (reason : Bool) (refusal : Refusal) (rest : List (Option Refusal)) → has_text refusal ≡ false
          → (reason ≡ false → Q (first_refusal rest)) → Q (first_refusal (where_so reason refusal ∷ rest))
      where_not reason refusal rest plain there = by_reason Q reason refusal rest (refuses refusal (inr plain)) there

      by_demand : (demand : Demand) (run : Option Run) → (Meets run demand → P (success_of (given_of now) terms file r.command))
          → Q (first_refusal (unmet run demand ++ where_so (names_none fate) RequestGone ∷ []))
      by_demand demand run e =
          where_not (demand.loaded && has_none run) NoMachine _ refl (λ there. where_not (demand.alive && has_ended run) Ended _ refl
          (λ alive. where_not (is_no_thread demand.thread) NoThread _ refl (λ _. where_not (demand.still && goes_on run) NotStopped _ refl
          (λ still. where_not (names_none fate) RequestGone [] refl
          (λ _. e (record { loaded = there; alive = alive; still = still }))))))

-- what holds of each refusal, and of the success of a request that the phase takes, holds of the answer
pub of_answer : (P : Ask → Answering → Type 0) (now : Now) (terms : Terms) (file : Option (List ℕ)) (ask : Ask) (fate : Fate)
    → ((refusal : Refusal) → IsRefusalOf ask refusal → P ask (refusing (given_of now) terms refusal None))
    → ((r : ARequest) → is_taken_in terms.phase r.command ≡ true → Meets (run_of now.debuggee.program) (demand_of r.command) → P (Request r) (success_of (given_of now) terms file r.command))
    → P ask (answer_to now terms file (record { ask = ask; fate = fate }))
of_answer P now terms file (Request r) fate refuses succeeds = of_request (P (Request r)) now terms file r fate refuses (succeeds r)
of_answer P now terms file (Bad seq command refusal) fate refuses succeeds =
    by_reason Q (is_repeat fate) RepeatedSequence _ (refuses RepeatedSequence (inr refl))
    (λ _. by_reason Q (is_cancelled fate) IsCancelled _ (refuses IsCancelled (inr refl)) (λ _. refuses refusal (inl refl))) where
      Q : Option Refusal → Type 0
      Q why = P (Bad seq command refusal)
          (answer_by (record { given = given_of now; terms = terms; file = file }) why (Bad seq command refusal))

-- a request that its phase does not take does not succeed
pub not_taken : false ≡ true → ⊥
not_taken h = cc
