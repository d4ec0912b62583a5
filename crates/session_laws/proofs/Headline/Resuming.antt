-- Requests that begin or end what is debugged, let the program continue, or join it: what their successes tell is so.
use Rattle.session_laws.proofs.Headline.Common.{[], Active, Answering, ap, arith, begins, Bool, BreakInfo, cond, Configuring, Continued, ended, Event as Told, Facts, false, first_run, fresh, given_of, happened, has_ended, has_none, Holds, HoldsRun, in_state, Initialized, is_active_in, is_configuring_in, is_debugging_in, is_ended, is_fresh_in, is_initialized_in, joins, List, listed_at, Meets, None, nothing_known, Now, Numbers, on_program, Option, or_left, or_right, Phase, Program, refl, reset, restarted, resumed, Run, run_events, run_of, Running, runs, RunState, shown_by, shown_of, Some, state_of, stop_event, subst, sym, Terminated, Terms, true, Unknown, ◌||◌, ◌∙◌, ◌∷◌, ◌≡◌}
use Rattle.debuggee.specs.declared.run.Run.TheVariants as a_run
use Rattle.mirror.specs.Folding.{ended as ended_as}
use Rattle.mirror.specs.declared.asked.Asked.TheVariants as asks
use Rattle.facts.specs.declared.run.RunState.TheVariants.{Stopped, Ended}
use Rattle.handlers.specs.Terminate.{demand}
use Rattle.handlers.specs.Terminate as terminate
use Rattle.session_laws.proofs.Headline.Agreeing.{Agrees, ended_agrees, in_agrees, no_stand_in, nothing_agrees, SameBreaks, suits_as, suits_on, SuitsPhase, WhileConfiguring}
use Rattle.session_laws.proofs.Headline.Leading.{alone, AnswerLeads, Leads, Prints, SameBut, SoThenLeads}
use Rattle.session_laws.proofs.Headline.Beating.{kept_info}

-- there is a program
pub no_program : {A : Type 0} → true ≡ false → A
no_program e = absurd (let no : true ≡ false = e in cc)

-- what is so of each program is so where one is loaded
loaded : (P : Option Program → Type 0) (program : Option Program) → has_none (run_of program) ≡ false → ((p : Program) → P (Some p)) → P program
loaded P None there each = no_program there
loaded P (Some p) there each = each p

-- ---- the program continues

pub goes_on_agrees : (now : Now) (terms : Terms) (f : Facts) (numbers : Numbers) (makes : Program → Program) → is_active_in terms.phase ≡ true
    → ((p : Program) → (makes p).run ≡ a_run.Running) → ((p : Program) → SameBut p (makes p))
    → has_none (run_of now.debuggee.program) ≡ false → Agrees f now.debuggee.program now.numbers terms
    → Agrees (in_state Running f) (on_program makes now.debuggee.program) numbers terms
goes_on_agrees now terms f numbers makes active runs same there =
    loaded (λ program. Agrees f program now.numbers terms → Agrees (in_state Running f) (on_program makes program) numbers terms)
    now.debuggee.program there (λ p h.
    in_agrees Running f (shown_of p now.numbers) (makes p) numbers terms h.holds (same p now.numbers numbers) (ap state_of (runs p))
    (suits_as terms.phase terms.launched f (in_state Running f) active refl h.phase))

pub restarted_same : (p : Program) → SameBut p (first_run (restarted p))
restarted_same p = λ _ _. record {
  source = λ path. ap (λ (l : List BreakInfo). listed_at p.path l path) (kept_info reset (λ _. refl) p.machine.lists.source);
  instructions = kept_info reset (λ _. refl) p.machine.lists.instructions;
  functions = kept_info reset (λ _. refl) p.machine.lists.functions;
}

pub resumed_same : (goal : _) (p : Program) → SameBut p (resumed goal p)
resumed_same goal p = λ _ _. record { source = λ _. refl; instructions = refl; functions = refl }

-- ---- `initialize`, `launch`, `attach`

knows_nothing : (phase : Phase) (launched : Bool) (f : Facts) → (is_fresh_in phase || is_initialized_in phase) ≡ true
    → SuitsPhase phase launched f → f ≡ nothing_known
knows_nothing phase launched f e h = grind arith

pub initialize_agrees : (f : Facts) (program : Option Program) (numbers : Numbers) (terms then : Terms) → is_fresh_in terms.phase ≡ true
    → then.phase ≡ Initialized → Agrees f program numbers terms → Agrees f program numbers then
initialize_agrees f program numbers terms then fresh is h =
    assumption (subst (λ (phase : Phase). SuitsPhase phase then.launched f) (sym is)
    (knows_nothing terms.phase terms.launched f (or_left (is_fresh_in terms.phase) _ fresh) h.phase))

-- nothing is known but whether it was launched, of whatever program there is then
module _ (f : Facts) (old program : Option Program) (numbers : Numbers) (terms : Terms) (taken : is_initialized_in terms.phase ≡ true)
    (h : Agrees f old numbers terms) where
  only_agrees : (launched : Bool)
      → Agrees (record nothing_known { launched = launched }) program numbers (record terms { phase = Configuring; launched = launched })
  only_agrees launched =
      nothing_agrees launched program numbers (record terms { phase = Configuring; launched = launched })
      (record { launched = refl; quiet = tt; stand = no_stand_in Unknown (record nothing_known { launched = launched }) })

  nothing_was : nothing_known ≡ f
  nothing_was = sym (knows_nothing terms.phase terms.launched f (or_right (is_fresh_in terms.phase) _ taken) h.phase)

  pub attach_agrees : Agrees f program numbers (record terms { phase = Configuring; launched = false })
  attach_agrees = rw (← nothing_was) (only_agrees false)

  pub launch_agrees : Agrees (record f { launched = true }) program numbers (record terms { phase = Configuring; launched = true })
  launch_agrees = rw (← nothing_was) (only_agrees true)

-- an answer after which an event is told
pub with_event : (f g : Facts) (e : _) (program : Option Program) (numbers : Numbers) (terms : Terms) → happened e f ≡ g → Prints e program
    → Holds f (shown_by program numbers) → Agrees g program numbers terms → SoThenLeads terms numbers program (e ∷ []) f
unfolding Leads
with_event f g e program numbers terms is prints holds h = (holds, rw is ((h.holds, prints), h))

while_configuring : (phase : Phase) (launched : Bool) (f : Facts) → is_configuring_in phase ≡ true → SuitsPhase phase launched f
    → WhileConfiguring launched f
while_configuring phase launched f e h = grind arith

-- the answer to `configurationDone`, by whether the program was launched
abbrev pub finishes : Now → Terms → Bool → Answering
finishes now terms launched =
    let active : Terms = record terms { phase = Active } in cond launched (begins (given_of now) active) (joins (given_of now) active)

module _ (now : Now) (terms : Terms) (f : Facts) (w : WhileConfiguring terms.launched f) where
  abbrev active : Terms
  active = record terms { phase = Active }

  -- it is known to be in the state in which it now is
  now_in : (run : RunState) (p q : Program) → Agrees f (Some p) now.numbers terms → HoldsRun run (state_of q.run)
      → SameBreaks (shown_of p now.numbers) (shown_of q now.numbers) → Agrees (in_state run f) (Some q) now.numbers active
  now_in run p q h is same = in_agrees run f (shown_of p now.numbers) q now.numbers active h.holds same is w.launched

  joins_lead : (p : Program) → Agrees f (Some p) now.numbers terms → SoThenLeads active now.numbers (Some p) (run_events (Some p.run)) f
  joins_lead p h = by p.run refl where
    told : (run : RunState) (e : Told) → HoldsRun run (state_of p.run) → happened e f ≡ in_state run f → Prints e (Some p)
        → SoThenLeads active now.numbers (Some p) (e ∷ []) f
    told run e is same prints =
        with_event f (in_state run f) e (Some p) now.numbers active same prints h.holds
        (now_in run p p h is (record { source = λ _. refl; instructions = refl; functions = refl }))

    by : (r : Run) → p.run ≡ r → SoThenLeads active now.numbers (Some p) (run_events (Some r)) f
    by a_run.Running e = told Running Continued (ap state_of e) refl tt
    by (a_run.Stopped why) e = told Stopped (stop_event why []) (ap state_of e) refl tt
    by (a_run.Ended code) e =
        alone f (Some p) now.numbers active (record { holds = h.holds; moving = λ _. w.stand; numbered = h.numbered; phase = w.launched })

pub done_leads : (now : Now) (terms : Terms) (f : Facts) (launched : Bool) → terms.launched ≡ launched → is_configuring_in terms.phase ≡ true
    → has_none (run_of now.debuggee.program) ≡ false → Agrees f now.debuggee.program now.numbers terms
    → AnswerLeads now f (Some asks.ConfigurationDone) (finishes now terms launched)
done_leads now terms f launched e taken there h = by launched (w.launched ∙ e) where
  w : WhileConfiguring terms.launched f
  w = while_configuring terms.phase terms.launched f taken h.phase

  by : (launched : Bool) → f.launched ≡ launched → AnswerLeads now f (Some asks.ConfigurationDone) (finishes now terms launched)
  by true e =
      let active : Terms = record terms { phase = Active } in
      subst (λ (b : Bool). SoThenLeads active now.numbers (on_program first_run now.debuggee.program) [] (cond b (in_state Running f) f)) (sym e)
      (loaded (λ program. Agrees f program now.numbers terms
      → SoThenLeads active now.numbers (on_program first_run program) [] (in_state Running f)) now.debuggee.program there
      (λ p h. alone (in_state Running f) (Some (first_run p)) now.numbers active
      (now_in now terms f w Running p (first_run p) h refl (record { source = λ _. refl; instructions = refl; functions = refl }))) h)
  by false e =
      let active : Terms = record terms { phase = Active } in
      let program = now.debuggee.program in
      subst (λ (b : Bool). SoThenLeads active now.numbers program (run_events (run_of program)) (cond b (in_state Running f) f)) (sym e)
      (loaded (λ program. Agrees f program now.numbers terms → SoThenLeads active now.numbers program (run_events (run_of program)) f) program
      there (joins_lead now terms f w) h)

-- ---- `terminate`

ends_now : (known : RunState) (run : Run) → HoldsRun known (state_of run) → is_ended run ≡ false → ended_as known ≡ Ended None
ends_now known run h e = grind arith

pub terminate_leads : (now : Now) (terms : Terms) (f : Facts) → is_debugging_in terms.phase ≡ true
    → Meets (run_of now.debuggee.program) demand → Agrees f now.debuggee.program now.numbers terms
    → AnswerLeads now f (Some asks.Terminate) (terminate.success (given_of now) terms)
terminate_leads now terms f taken meets =
    loaded (λ program. has_ended (run_of program) ≡ false → Agrees f program now.numbers terms
    → SoThenLeads terms now.numbers (on_program (ended None) program) (Terminated ∷ []) (record f { run = ended_as f.run }))
    now.debuggee.program meets.loaded (λ p alive h.
    let g : Facts = record f { run = Ended None } in
    let a = ended_agrees None f p now.numbers terms tt (suits_on terms.phase terms.launched f g taken refl (λ _. tt)
    (λ n. record { frame = n.frame; register = n.register; byte = n.byte }) h.phase) h in
    rw (ends_now f.run p.run h.holds.run alive)
    (with_event g g Terminated (Some (ended None p)) now.numbers terms refl tt a.holds a)) meets.alive
