-- The success of each command: what it tells is so, and what it leaves owes as it may.
use Rattle.session_laws.proofs.Headline.Common.{[], address_in, agreed_body, agreeing, agrees, All, answer_on, answer_to, Answering, ap, arith, Asked, asked_of, AssemblyFailed, at_next_stop, by_success, BySuccess, Cancel, Command, departed, Empty, ended, ends, error_text, Facts, false, FileUnreadable, first_run, frames_given, Given, given_of, goes_on as still_goes, has_none, has_program, in_state, is_active_in, is_to_end, is_to_stand, IsTrue, left, List, loads, Looks, marked, None, nothing_known, Now, of_answer, Ok, on_program, Option, Orderly, OrderlyIn, OrderlyOf, OwesNothing, Pending, Program, ReadMemory, refl, ResponseBody, restarted, resumed, resuming, Run, run_events, run_of, Running, runs, seen_in, SetBreakpoints, SetExceptionBreakpoints, SetFunctionBreakpoints, SetInstructionBreakpoints, SetsList, Some, StackTrace, step_body, steps, stop_event, subst, succeeded, success_of, sym, take, target_of, tells, Terms, Threads, true, Variables, view_of, Wanted, with_hart, with_list, with_targets, word_of, written, ℕ, ◌+◌, ◌∙◌, ◌≡◌}
use Rattle.debuggee.specs.declared.run.Mark.TheVariants as mark
use Rattle.debuggee.specs.declared.run.Run.TheVariants as a_run
use Rattle.mirror.specs.declared.asked.Asked.TheVariants as asks
use Rattle.replies.specs.declared.event.Event.TheVariants as event
use Rattle.handlers.specs.Initialize.{agreed}
use Rattle.session_laws.proofs.Headline.Agreeing.{Agrees, marked_agrees, nothing_agrees, nothing_owed, OwesOf, OwesRunning, Stands}
use Rattle.session_laws.proofs.Headline.Owing.{IsMild, marked_owes, none_plain, one_plain, Plain}
use Rattle.session_laws.proofs.Headline.Leading.{alone, AnswerLeads, Comes, refusal_leads, SameBut, SoThenLeads}
use Rattle.session_laws.proofs.Headline.Resuming.{attach_agrees, done_leads, goes_on_agrees, initialize_agrees, launch_agrees, restarted_same, resumed_same, terminate_leads, with_event}
use Rattle.session_laws.proofs.Headline.Valuing.{read_agrees, that_body, variables_agree}
use Rattle.session_laws.proofs.Headline.Showing.{frames_agree, other_tells_so, shown_leads, Tells}
use Rattle.session_laws.proofs.Headline.Changing.{SetSo, setting_so, WriteSo, writing_so}
use Rattle.session_laws.proofs.Headline.Listing.{functions_set_so, instructions_set_so, source_set_so}

-- ---- what is left owes as it may

joined_plain : (run : Option Run) → All Plain (run_events run)
joined_plain None = none_plain
joined_plain (Some a_run.Running) = one_plain event.Continued refl
joined_plain (Some (a_run.Stopped reason)) = one_plain (stop_event reason []) refl
joined_plain (Some (a_run.Ended code)) = none_plain

module _ (now : Now) (terms : Terms) (e : OwesNothing now.debuggee.program) where
  same : OwesOf now.debuggee.program × All Plain []
  same = (grind arith, none_plain)

  makes : (f : Program → Program) → ((p : Program) → p.owed ≡ None → OwesRunning (f p)) → OwesOf (on_program f now.debuggee.program)
  makes f each = grind (arith, each)

  successes_are_mild : BySuccess (given_of now) terms (λ c a. IsMild a)
  successes_are_mild = record {
    initialized = λ _. same;
    unreadable = λ _. same;
    loaded = λ _ _ _. ((λ some. absurd (some refl)), one_plain event.Initialized refl);
    wrong = λ _ _ _ _. same;
    attaches = (same.0, one_plain event.Initialized refl);
    begun = λ _. (makes first_run (λ p _ _. refl), none_plain);
    joined = λ _. (same.0, joined_plain (run_of now.debuggee.program));
    agreed = λ _ _. same;
    restarts = (makes (λ p. first_run (restarted p)) (λ p _ _. refl), none_plain);
    terminates = (makes (ended None) (λ p n. nothing_owed (ended None p) n), one_plain event.Terminated refl);
    leaves = λ arguments. let ends = is_to_end terms arguments in let stands = is_to_stand terms arguments in
        (makes (λ p. departed ends stands (left p)) (λ p _. grind arith), none_plain);
    pauses = λ _. (makes (marked mark.Pause) (λ p n. marked_owes mark.Pause p (nothing_owed p n)), none_plain);
    stepped = λ _ _ g. (makes (resumed g) (λ p _ _. refl), none_plain);
    refused = λ _ _ _ _. same;
    sets_none = λ _ _ _ _ _ _ _. same;
    sets_list = λ c _ _ _ list _ _ _ _. (makes (with_list c list) (λ p n. grind arith), none_plain);
    shows = λ _ _ _ _ _ _ _ _. same;
    sets_register = λ _ _ setting _ _ _. (makes (with_hart setting.hart) (λ p n. nothing_owed (with_hart setting.hart p) n), none_plain);
    writes = λ arguments _ writing _ _ _. let writes = written writing.address (take writing.count arguments.bytes) in
        (makes writes (λ p n. nothing_owed (writes p) n), none_plain);
  }

pub answer_is_mild : (now : Now) (terms : Terms) (file : Option (List ℕ)) (p : Pending) → OwesNothing now.debuggee.program
    → IsMild (answer_to now terms file p)
answer_is_mild now terms file p e =
    of_answer (λ ask a. IsMild a) now terms file p.ask p.fate (λ _ _. same now terms e)
    (λ r _ meets. by_success (given_of now) terms (λ c a. IsMild a) (successes_are_mild now terms e) file r.command meets.loaded)

-- ---- what is told is so

-- what a request that may come leads to
abbrev LeadsTaken : Now → Terms → Facts → Command → Answering → Type 0
LeadsTaken now terms f c a = Comes now terms c → AnswerLeads now f (Some (asked_of c)) a

agreed_tells : (given : Given) (c : Command) → IsTrue (agrees c) → (f : Facts) → succeeded (agreed_body given c) (asked_of c) f ≡ f
agreed_tells given Threads kind f = refl
agreed_tells given (Cancel arguments) kind f = refl
agreed_tells given SetExceptionBreakpoints kind f = refl
agreed_tells given other kind f = absurd (let no : false ≡ true = kind in cc)

step_tells : (c : Command) → IsTrue (steps c) → (f : Facts) → succeeded (step_body c) (asked_of c) f ≡ in_state Running f
step_tells c kind f = grind arith

module _ (now : Now) (terms : Terms) (f : Facts) (h : Agrees f now.debuggee.program now.numbers terms) where
  -- an answer after which the program is as it was, or this is made of it
  same_leads : (g : Facts) (p : Program) → now.debuggee.program ≡ Some p → Agrees g (Some p) now.numbers terms
      → SoThenLeads terms now.numbers now.debuggee.program [] g
  same_leads g p is a = alone g now.debuggee.program now.numbers terms (rw is a)

  made_leads : (g : Facts) (makes : Program → Program) (p : Program) → now.debuggee.program ≡ Some p
      → Agrees g (Some (makes p)) now.numbers terms → SoThenLeads terms now.numbers (on_program makes now.debuggee.program) [] g
  made_leads g makes p is a = alone g (on_program makes now.debuggee.program) now.numbers terms (rw is a)

  of : (p : Program) → now.debuggee.program ≡ Some p → Agrees f (Some p) now.numbers terms
  of p is = subst (λ (program : Option Program). Agrees f program now.numbers terms) is h

  -- of a program that stands still
  stands : (p : Program) → now.debuggee.program ≡ Some p → is_active_in terms.phase ≡ true
      → still_goes (run_of now.debuggee.program) ≡ false → Stands f p now.numbers terms
  stands p is active still = record {
    active = active;
    still = sym (ap (λ (program : Option Program). still_goes (run_of program)) is) ∙ still;
    agrees = of p is;
  }

  orderly : (p : Program) → now.debuggee.program ≡ Some p → OrderlyIn now.debuggee → Orderly p
  orderly p is o = subst OrderlyOf is o

  agrees_so : (c : Command) → IsTrue (agrees c) → AnswerLeads now f (Some (asked_of c)) (agreeing (given_of now) terms (agreed_body (given_of now) c))
  agrees_so c kind =
      subst (SoThenLeads terms now.numbers now.debuggee.program []) (sym (agreed_tells (given_of now) c kind f))
      (alone f now.debuggee.program now.numbers terms h)

  resumes_so : (asked : Asked) (body : ResponseBody) (makes : Program → Program) → succeeded body asked f ≡ in_state Running f
      → is_active_in terms.phase ≡ true → ((p : Program) → (makes p).run ≡ a_run.Running) → ((p : Program) → SameBut p (makes p))
      → has_none (run_of now.debuggee.program) ≡ false → AnswerLeads now f (Some asked) (resuming (given_of now) terms makes body)
  resumes_so asked body makes tells active runs same there =
      subst (SoThenLeads terms (at_next_stop now.numbers) (on_program makes now.debuggee.program) []) (sym tells)
      (alone (in_state Running f) _ (at_next_stop now.numbers) terms
      (goes_on_agrees now terms f (at_next_stop now.numbers) makes active runs same there h))

  -- what the answer tells is so: without a list, and with one
  set_so : (c : Command) → SetsList c → Comes now terms c → (p : Program) (b : ResponseBody) → now.debuggee.program ≡ Some p
      → (answer_on p (given_of now) terms c).result ≡ Ok b
      → ((answer_on p (given_of now) terms c).list ≡ None → Agrees (succeeded b (asked_of c) f) (Some p) now.numbers terms)
      × ((list : List Wanted) → (answer_on p (given_of now) terms c).list ≡ Some list → Agrees (succeeded b (asked_of c) f) (Some (with_list c list p)) now.numbers terms)
  set_so (SetBreakpoints arguments) kind comes p b is e =
      rw e at (source_set_so f p now.numbers terms comes.taken (of p is) arguments p.image.lines (view_of terms p)
      (now.debuggee.last_break + 1) refl)
  set_so (SetFunctionBreakpoints arguments) kind comes p b is e =
      rw e at (functions_set_so f p now.numbers terms comes.taken (of p is) arguments p.image.lines p.machine.size
      (now.debuggee.last_break + 1))
  set_so (SetInstructionBreakpoints arguments) kind comes p b is e =
      rw e at (instructions_set_so f p now.numbers terms comes.taken (of p is) arguments p.machine.size (now.debuggee.last_break + 1))
  set_so other kind comes p b is e = absurd (let no : false ≡ true = kind.sets in cc)

  look_tells : (c : Command) → Looks c → Comes now terms c → (p : Program) (b : ResponseBody) → now.debuggee.program ≡ Some p
      → (seen_in p (given_of now) terms c).result ≡ Ok b
      → Tells (asked_of c) f p now.numbers terms b (seen_in p (given_of now) terms c).targets
  look_tells (StackTrace arguments) kind comes p b is e =
      that_body (λ b. Agrees (succeeded b (asks.StackTrace arguments.start_frame) f) (Some p)
      (with_targets now.numbers (frames_given arguments p.machine)) terms) _ b
      (frames_agree arguments p now.numbers (view_of terms p) f terms (stands p is comes.taken comes.meets.still)) e
  look_tells (Variables arguments) kind comes p b is e =
      rw e at (variables_agree f p now.numbers terms (stands p is comes.taken comes.meets.still) arguments
      (target_of now.numbers arguments.variables_reference))
  look_tells (ReadMemory arguments) kind comes p b is e =
      rw e at (read_agrees f p now.numbers terms (stands p is comes.taken comes.meets.still) arguments (word_of arguments.memory_reference))
  look_tells other kind comes p b is e = other_tells_so now terms other (asked_of other) f p b kind.looks refl (of p is)

  successes_lead : BySuccess (given_of now) terms (LeadsTaken now terms f)
  successes_lead = record {
    initialized = λ arguments comes.
        alone f now.debuggee.program now.numbers (agreed terms arguments)
        (initialize_agrees f now.debuggee.program now.numbers terms (agreed terms arguments) comes.taken refl h);
    unreadable = λ _ _. refusal_leads now terms f (Some asks.Launch) FileUnreadable None h;
    loaded = λ arguments text _ comes.
        let after = loads (given_of now) terms arguments text in
        let g : Facts = record f { launched = true } in
        let a = launch_agrees f now.debuggee.program after.debuggee.program now.numbers terms comes.taken h in
        with_event g g event.Initialized after.debuggee.program now.numbers after.terms refl tt a.holds a;
    wrong = λ _ _ error _ _. refusal_leads now terms f (Some asks.Launch) AssemblyFailed (Some (error_text error)) h;
    attaches = λ comes.
        with_event f f event.Initialized now.debuggee.program now.numbers _ refl tt h.holds
        (attach_agrees f now.debuggee.program now.debuggee.program now.numbers terms comes.taken h);
    begun = λ e comes. done_leads now terms f true e comes.taken comes.meets.loaded h;
    joined = λ e comes. done_leads now terms f false e comes.taken comes.meets.loaded h;
    agreed = λ c kind _. agrees_so c kind.kind;
    restarts =
        λ comes. resumes_so asks.Resume Empty (λ p. first_run (restarted p)) refl comes.taken
        (λ p. refl) restarted_same comes.meets.loaded;
    terminates = λ comes. terminate_leads now terms f comes.taken comes.meets h;
    leaves = λ _ _. alone nothing_known _ (at_next_stop now.numbers) _ (nothing_agrees false _ (at_next_stop now.numbers) _ refl);
    pauses = λ _ _. alone f _ now.numbers terms (marked_agrees mark.Pause f now.debuggee.program now.numbers terms h);
    stepped = λ c kind g comes.
        resumes_so (asked_of c) (step_body c) (resumed g) (step_tells c kind.kind f) (sym (kind.active terms.phase) ∙ comes.taken)
        (λ p. refl) (resumed_same g) (has_program (given_of now) c kind.loaded comes.meets.loaded);
    refused = λ c _ refusal _ _. refusal_leads now terms f (Some (asked_of c)) refusal None h;
    sets_none = λ c kind p b is e none comes. same_leads _ p is ((set_so c kind comes p b is e).0 none);
    sets_list = λ c kind p b list is e some _ comes. made_leads _ (with_list c list) p is ((set_so c kind comes p b is e).1 list some);
    shows = λ c kind p b is e _ _ comes. shown_leads now terms c (asked_of c) f p b is (look_tells c kind comes p b is e);
    sets_register = λ arguments p setting is e _ comes.
        let s = stands p is comes.taken comes.meets.still in
        made_leads _ (with_hart setting.hart) p is (subst (SetSo f p now.numbers terms s arguments) e
        (setting_so f p now.numbers terms s arguments (orderly p is comes.orderly).range.machine.machine.x
        (target_of now.numbers arguments.variables_reference)));
    writes = λ arguments p writing is e _ comes.
        let s = stands p is comes.taken comes.meets.still in
        made_leads _ (written writing.address (take writing.count arguments.bytes)) p is
        (subst (WriteSo f p now.numbers terms s arguments (address_in arguments.memory_reference arguments.offset)) e
        (writing_so f p now.numbers terms s arguments));
  }

pub commands_lead : (now : Now) (terms : Terms) (file : Option (List ℕ)) (command : Command) (f : Facts) → Comes now terms command
    → Agrees f now.debuggee.program now.numbers terms
    → AnswerLeads now f (Some (asked_of command)) (success_of (given_of now) terms file command)
commands_lead now terms file command f comes h =
    by_success (given_of now) terms (LeadsTaken now terms f) (successes_lead now terms f h) file command comes.meets.loaded comes
