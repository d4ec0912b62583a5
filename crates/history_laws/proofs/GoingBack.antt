-- A success of a request to go back has the program go back from where it stood.
use Rattle.history_laws.proofs.Common.{[], answer_to, Answered, answered, answered_on, Answering, answering_debuggee, arith, Ask, Back, Bad, Beginning, BeginsBack, by_turn, Command, course_of, Debuggee, demand_of, Effect, false, given_of, Goal, goal_asked, goes_on, GoesBackFrom, Happened, histories, IfSome, In, is_success, length, Link, List, Meets, None, Now, of_answer, OfProgram, on_program, Option, OrderlyOf, past_of, Pending, performed, Position, Program, program_of, Reached, refl, Request, resumed, ReverseContinue, ReverseGo, run_of, Seen, Session, Some, StepBack, StepIn, subst, success_by, success_of, sym, Terms, true, Turn, turns_back, TurnsBeginBack, ℕ, ◌∷◌, ◌≡◌, ◌≤◌}
use Rattle.handlers.specs.Stepping.{granularity_of}
use Rattle.history_laws.proofs.Recorded.{always_orderly}

-- ---- the answer to a request that gives the program a goal

abbrev Gives : Goal → Command → Type 0
Gives g (StepBack arguments) = g ≡ Back
Gives g (ReverseContinue arguments) = g ≡ ReverseGo
Gives g (StepIn arguments) = g ≡ In (granularity_of arguments.granularity)
Gives g other = ⊥

abbrev pub GivesGoal : Goal → Ask → Type 0
GivesGoal g (Request r) = Gives g r.command
GivesGoal g (Bad seq name refusal) = ⊥

-- what was this stood still, and has the goal now; where it goes back, a move is recorded
pub record Resumes (g : Goal) (before after : Option Program) : Type 0 where
  pub still : goes_on (run_of before) ≡ false
  pub some : turns_back g ≡ true → 1 ≤ length (past_of before)
  pub is : after ≡ on_program (resumed g) before

abbrev Resuming : Now → Goal → Answering → Type 0
Resuming now g a = is_success a.outcome ≡ true → Resumes g now.debuggee.program a.debuggee.program

module _ (now : Now) (terms : Terms) where
  goes_back : (g : Goal) (past : List Position) → goes_on (run_of now.debuggee.program) ≡ false → past_of now.debuggee.program ≡ past
      → Resuming now g (success_by past (given_of now) terms g)
  goes_back g [] still is success = absurd (let no : false ≡ true = success in cc)
  goes_back g (before ∷ past) still is success = record { still = still; some = λ _. rw is (omega arith); is = refl }

  gives_goal : (file : Option (List ℕ)) (g : Goal) (c : Command) → Gives g c → Meets (run_of now.debuggee.program) (demand_of c)
      → Resuming now g (success_of (given_of now) terms file c)
  gives_goal file g (StepBack arguments) is meets = rw is (goes_back Back (past_of now.debuggee.program) meets.still refl)
  gives_goal file g (ReverseContinue arguments) is meets = rw is (goes_back ReverseGo (past_of now.debuggee.program) meets.still refl)
  gives_goal file g (StepIn arguments) is meets =
      rw is (λ _. record { still = meets.still; some = λ turns. absurd (let no : false ≡ true = turns in cc); is = refl })
  gives_goal file g other is meets = absurd is

  answer_resumes : (file : Option (List ℕ)) (g : Goal) (p : Pending) → GivesGoal g p.ask → Resuming now g (answer_to now terms file p)
  answer_resumes file g p =
      of_answer (λ ask a. GivesGoal g ask → Resuming now g a) now terms file p.ask p.fate
      (λ _ _ _ success. absurd (let no : false ≡ true = success in cc)) (λ r _ meets gives. gives_goal file g r.command gives meets)

-- ---- the turn

-- one that answers a request owed nothing
pub owes_none : (link : Option Link) (seen : Seen) (file : Option (List ℕ)) (a : Answered) → answered_on link seen file ≡ Some a
    → IfSome seen.now.debuggee.program (λ p. p.owed ≡ None)
owes_none link seen file a e = grind arith

pub turn_resumes : (s : Session) (file : Option (List ℕ)) (g : Goal) → IfSome (answered (histories.see s) file) (λ a.
    GivesGoal g a.request.ask → is_success a.answer.outcome ≡ true → Resumes g (program_of s) (program_of (Effect s (Turn file))))
turn_resumes s file g = by_turn (histories.see s) file (λ x o. IfSome x (λ a.
    GivesGoal g a.request.ask → is_success a.answer.outcome ≡ true → Resumes g (program_of s) (program_of (performed histories o.acts s))))
    (record {
      refused = tt;
      tells = λ _ _ _ _. tt;
      nothing = λ _. tt;
      answers = λ l p gives success.
          subst (λ (d : Debuggee). Resumes g (program_of s) d.program) (sym (answering_debuggee (answer_to s.now l.terms file p) s))
          (answer_resumes s.now l.terms file g p gives success);
    }) s.now.link

-- ---- the law

asks_so : (ask : Ask) (g : Goal) → goal_asked ask ≡ Some g → GivesGoal g ask × (turns_back g ≡ true)
asks_so ask g e = grind arith

goes_from : (g : Goal) (before after : Option Program) → turns_back g ≡ true → IfSome before (λ p. p.owed ≡ None) → OrderlyOf before
    → Resumes g before after → OfProgram (λ p. OfProgram (GoesBackFrom g (course_of p.machine)) after) before
goes_from g None after turns owes o r = let some = r.some turns in absurd (omega (arith, some))
goes_from g (Some p) after turns owes o r =
    rw r.is (record { runs = refl; goes = refl; due = refl; owed = owes; mark = o.unmarked r.still; course = refl; some = r.some turns })

pub turns_begin_back : (from : Beginning) (events : List Happened) → TurnsBeginBack (Reached from events)
turns_begin_back from events file = by (answered (histories.see s) file) refl where
  s : Session
  s = Reached from events

  by : (x : Option Answered) → answered (histories.see s) file ≡ x → BeginsBack x (program_of s) (program_of (Effect s (Turn file)))
  by None e = tt
  by (Some a) e = λ g asked success.
      let asks = asks_so a.request.ask g asked in
      goes_from g (program_of s) (program_of (Effect s (Turn file))) asks.1 (owes_none s.now.link (histories.see s) file a e)
      (always_orderly from events) ((rw e at (turn_resumes s file g)) asks.0 success)
