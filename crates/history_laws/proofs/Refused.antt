-- Going back is refused with `noHistory` exactly where nothing is recorded.
use Rattle.history_laws.proofs.Common.{[], ap, arith, Back, back, Bool, Command, false, Given, given_of, Goal, goal_of, IfSome, intent_of, is_some, length, List, None, Now, Option, past_of, Position, Program, recorded_of, refl, Refusal, Request, ReverseContinue, ReverseGo, Run, run_of, Session, Some, StepBack, success_by, success_of, sym, Terms, true, ℕ, ◌↔◌, ◌∙◌, ◌∷◌, ◌≡◌}
use Rattle.handlers.specs.Refusals.{answer_by, first_refusal, refusals}
use Rattle.handlers.specs.declared.phase.Phase.{Phase}
use Rattle.history_laws.specs.Refused.{NoHistoryExactly}
use Rattle.protocol.specs.declared.refusal.Refusal.TheVariants.{NoHistory}
use Rattle.protocol.specs.declared.request.Request.{Request as ARequest}
use Rattle.queues.specs.declared.pending.Fate.{Fate}
use Rattle.replies.specs.declared.response.Outcome.{Outcome as Replied}
use Rattle.replies.specs.declared.response.Outcome.TheVariants.{Refused}

-- ---- reasons that come before

abbrev is_no_history : Refusal → Bool
is_no_history NoHistory = true
is_no_history other = false

abbrev FirstIsOther : Option Refusal → Type 0
FirstIsOther first = IfSome first (λ why. is_no_history why ≡ false)

before_is_other : (run : Option Run) (phase : Phase) (r : ARequest) (fate : Fate)
    → FirstIsOther (first_refusal (refusals run phase (record { ask = Request r; fate = fate })))
before_is_other run phase r fate = grind arith

-- ---- where none comes before

abbrev IsNoHistory : Replied → Type 0
IsNoHistory outcome = outcome ≡ Refused NoHistory None

-- what it leads to, by what is recorded
by_past : (past : List Position) (given : Given) (terms : Terms) (g : Goal)
    → IsNoHistory (success_by past given terms g).outcome ↔ (length past ≡ 0)
by_past [] given terms g = (λ _. refl, λ _. refl)
by_past (before ∷ past) given terms g = (λ e. absurd (cc), λ none. absurd (omega (arith, none)))

as_many : (program : Option Program) → length (past_of program) ≡ recorded_of program
as_many program = grind arith

by_request : (now : Now) (terms : Terms) (file : Option (List ℕ)) (c : Command) → is_some (goal_of (intent_of c)) ≡ true
    → IsNoHistory (success_of (given_of now) terms file c).outcome ↔ (length (past_of now.debuggee.program) ≡ 0)
by_request now terms file (StepBack arguments) e = by_past (past_of now.debuggee.program) (given_of now) terms Back
by_request now terms file (ReverseContinue arguments) e = by_past (past_of now.debuggee.program) (given_of now) terms ReverseGo
by_request now terms file other e = absurd (let no : false ≡ true = e in cc)

module _ (now : Now) (terms : Terms) (file : Option (List ℕ)) (r : ARequest) (back : is_some (goal_of (intent_of r.command)) ≡ true) where
  -- by the first reason
  exactly : (first : Option Refusal) → FirstIsOther first
      → IsNoHistory (answer_by (record { given = given_of now; terms = terms; file = file }) first (Request r)).outcome
      ↔ ((first ≡ None) × (recorded_of now.debuggee.program ≡ 0))
  exactly (Some why) other = (
    λ e. absurd (let both : Refused why None ≡ Refused NoHistory None = e in let same : why ≡ NoHistory = cc in
        let no : true ≡ false = sym (ap is_no_history same) ∙ other in cc),
    λ both. absurd (let no : Some why ≡ None = both.0 in cc),
  )
  exactly None other =
      let one = by_request now terms file r.command back in
      let many = as_many now.debuggee.program in
      (λ e. (refl, sym many ∙ one.0 e), λ both. one.1 (many ∙ both.1))

pub no_history_exactly : (s : Session) → NoHistoryExactly s
no_history_exactly s link file r fate _ back =
    exactly s.now link.terms file r back _ (before_is_other (run_of s.now.debuggee.program) link.terms.phase r fate)
