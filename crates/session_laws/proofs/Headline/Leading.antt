-- What a program does and tells, act by act, and what an answer does: each thing that is told is so, and in the end what is
-- known fits.
use Rattle.session_laws.proofs.Headline.Common.{[], Act, Active, answered, Answering, arith, Asked, Become, Bool, BoundsIn, Command, concludes, cond, Configuring, demand_of, ended, Ended as HasEnded, Event, Event as Told, exit_events, Facts, false, given_of, GivesBytes, happened, Holds, HoldsRun, if_keeps, in_state, is_active, is_active_in, is_running, is_taken_in, List, log_event, logged, map, MatchOption, Meets, Met, None, Now, Numbers, Option, OrderlyIn, Outcome as CameTo, Output, output_events, OwesNothing, Phase, Program, referred, refl, Refusal, refusing, Run, run_of, Running, runs, RunState, shown_by, shown_of, Some, state_of, stop_event, stopped, Stopped as HasStopped, subst, sym, Tell, telling, Terms, Tick, told, true, Went, Why, ℕ, ℤ, ⊤, ◌++◌, ◌∷◌, ◌≡◌}
use Rattle.facts.specs.declared.run.RunState.TheVariants.{Stopped, Ended}
use Rattle.session_laws.proofs.Headline.Agreeing.{Agrees, ended_agrees, in_agrees, IsQuiet, moving_agrees, nothing_holds, SameBreaks, suits_as, SuitsPhase}
use Rattle.session_laws.proofs.Headline.Remembering.{refused_tells}

-- What holds of no event, and with each event of output more, holds of the output of a tick.
module _ (P : List Event → Type 0) (none : P []) (more : (body : _) (es : List Event) → P es → P (Output body ∷ es)) where
  by_logs : (texts : List (List ℕ)) → P (map log_event texts)
  by_logs [] = none
  by_logs (text ∷ texts) = more _ (map log_event texts) (by_logs texts)

  pub by_output : (printed : Option ℤ) (texts : List (List ℕ)) → P (output_events printed texts)
  by_output None texts = by_logs texts
  by_output (Some number) texts = more _ (map log_event texts) (by_logs texts)

-- output is told of a program that runs
abbrev pub Prints : Told → Option Program → Type 0
Prints (Output output) program = MatchOption program ⊥ (λ p. is_running p.run ≡ true)
Prints _ program = ⊤

-- what these acts tell is so, and what is known after them fits
unfoldable pub Leads : Terms → Numbers → Facts → Option Program → List Act → Type 0
Leads terms numbers f program [] = Agrees f program numbers terms
Leads terms numbers f program (Become d ∷ acts) = Leads terms numbers f d.program acts
Leads terms numbers f program (Tell event ∷ acts) =
    (Holds (happened event f) (shown_by program numbers) × Prints event program) × Leads terms numbers (happened event f) program acts
Leads terms numbers f program (act ∷ acts) = ⊥

-- what is known is so, and so is what is told then
abbrev pub SoThenLeads : Terms → Numbers → Option Program → List Told → Facts → Type 0
SoThenLeads terms numbers program events f = Holds f (shown_by program numbers) × Leads terms numbers f program (map Tell events)

-- ---- a program stops, or ends

-- what is known of a program that runs suits it once it is in another state that nobody is told of
quiet_holds : (run : RunState) (so now : RunState) → IsQuiet run → HoldsRun run so → so ≡ Running → HoldsRun run now
quiet_holds run so now q h e = grind arith

-- it is the same program, but for how it runs
abbrev pub SameBut : Program → Program → Type 0
SameBut p q = (numbers more : Numbers) → SameBreaks (shown_of p numbers) (shown_of q more)

pub running_state : (run : Run) → is_running run ≡ true → state_of run ≡ Running
running_state run e = grind arith

-- nobody is told: what is known fits still
silent_agrees : (f : Facts) (p q : Program) (numbers : Numbers) (terms : Terms) → is_active_in terms.phase ≡ false → is_running p.run ≡ true
    → SameBut p q → Agrees f (Some p) numbers terms → Agrees f (Some q) numbers terms
silent_agrees f p q numbers terms other runs same h =
    record { holds = by terms.phase other h.phase; moving = λ _. h.moving runs; numbered = h.numbered; phase = h.phase } where
      by : (phase : Phase) → is_active_in phase ≡ false → SuitsPhase phase terms.launched f → Holds f (shown_of q numbers)
      by Configuring other suits =
          (moving_agrees f (shown_of p numbers) q numbers (record terms { phase = Configuring }) suits.stand h.holds (same numbers numbers)
          (quiet_holds f.run (state_of p.run) (state_of q.run) suits.quiet h.holds.run (running_state p.run runs)) suits).holds
      by Active other suits = absurd (let no : true ≡ false = other in cc)
      by _ other suits = subst (λ (g : Facts). Holds g (shown_of q numbers)) (sym suits) (nothing_holds false (shown_of q numbers))

module _ (terms : Terms) (numbers : Numbers) (f : Facts) where
  pub stops_lead : (p : Program) (why : Why) (ids : List ℕ) (told : Bool) → is_active_in terms.phase ≡ told → is_running p.run ≡ true
      → Agrees f (Some p) numbers terms
      → Leads terms numbers f (Some (stopped why p)) (cond told (map Tell (stop_event why ids ∷ [])) [])
  unfolding Leads
  stops_lead p why ids true e runs h =
      let a = in_agrees Stopped f (shown_of p numbers) (stopped why p) numbers terms h.holds
      (record { source = λ _. refl; instructions = refl; functions = refl }) refl
      (suits_as terms.phase terms.launched f (in_state Stopped f) e refl h.phase) in
      ((a.holds, tt), a)
  stops_lead p why ids false e runs h =
      silent_agrees f p (stopped why p) numbers terms e runs (λ _ _. record { source = λ _. refl; instructions = refl; functions = refl }) h

  pub ends_lead : (p : Program) (code : ℤ) (told : Bool) → is_active_in terms.phase ≡ told → is_running p.run ≡ true
      → Agrees f (Some p) numbers terms
      → Leads terms numbers f (Some (ended (Some code) p)) (cond told (map Tell (exit_events code)) [])
  unfolding Leads
  ends_lead p code true e runs h =
      let a = ended_agrees (Some code) f p numbers terms refl
      (suits_as terms.phase terms.launched f (record f { run = Ended (Some code) }) e refl h.phase) h in
      ((a.holds, tt), ((a.holds, tt), a))
  ends_lead p code false e runs h =
      silent_agrees f p (ended (Some code) p) numbers terms e runs
      (λ _ _. record { source = λ _. refl; instructions = refl; functions = refl }) h

  concludes_lead : (now : Now) (p : Program) (outcome : CameTo) (ids : List ℕ) → is_active_in terms.phase ≡ is_active now.link
      → is_running p.run ≡ true → Agrees f (Some p) numbers terms
      → Leads terms numbers f (Some p) (concludes now p outcome ids)
  unfolding Leads
  concludes_lead now p Went ids e runs h = h
  concludes_lead now p (HasStopped reason) ids e runs h = stops_lead p (Met reason) ids (is_active now.link) e runs h
  concludes_lead now p (HasEnded code) ids e runs h = ends_lead p code (is_active now.link) e runs h

  -- output tells nothing that an editor would conclude from
  pub telling_leads : (now : Now) (p : Program) (tick : Tick) → is_active_in terms.phase ≡ is_active now.link → is_running p.run ≡ true
      → Agrees f (Some p) numbers terms
      → Leads terms numbers f now.debuggee.program (telling now p tick)
  unfolding Leads
  telling_leads now p tick e runs h =
      let q : Program = told p in
      let a : Agrees f (Some q) numbers terms = record { holds = h.holds; moving = h.moving; numbered = h.numbered; phase = h.phase } in
      let acts : List Act = concludes now q tick.outcome p.machine.lists.ids in
      let rest = concludes_lead now q tick.outcome p.machine.lists.ids e runs a in
      if_keeps (λ (x : List Act). Leads terms numbers f (Some q) (x ++ acts)) (is_active now.link) _ []
      (λ _. by_output (λ (es : List Told). Leads terms numbers f (Some q) (map Tell es ++ acts)) rest (λ body es more. ((a.holds, runs), more))
      tick.printed (logged p.machine.lists)) (λ _. rest)

-- ---- an answer

-- an answer is so, and so is what is told after it
abbrev pub AnswerLeads : Now → Facts → Option Asked → Answering → Type 0
AnswerLeads now f asked a =
    SoThenLeads a.terms (referred a.references now.numbers) a.debuggee.program a.events (answered asked a.outcome f)

-- an answer after which nothing is told
pub alone : (f : Facts) (program : Option Program) (numbers : Numbers) (terms : Terms) → Agrees f program numbers terms
    → SoThenLeads terms numbers program [] f
unfolding Leads
alone f program numbers terms h = (h.holds, h)

-- a refusal tells nothing
pub refusal_leads : (now : Now) (terms : Terms) (f : Facts) (asked : Option Asked) (refusal : Refusal) (text : Option (List ℕ))
    → Agrees f now.debuggee.program now.numbers terms → AnswerLeads now f asked (refusing (given_of now) terms refusal text)
refusal_leads now terms f asked refusal text h =
    subst (SoThenLeads terms now.numbers now.debuggee.program []) (sym (refused_tells asked refusal text f))
    (alone f now.debuggee.program now.numbers terms h)

-- what a success comes from: the request comes as it may, and the program is as it asks
pub record Comes (now : Now) (terms : Terms) (command : Command) : Type 0 where
  pub taken : is_taken_in terms.phase command ≡ true
  pub meets : Meets (run_of now.debuggee.program) (demand_of command)
  pub orderly : OrderlyIn now.debuggee
  pub bounds : BoundsIn now
  pub bytes : GivesBytes command
  pub owes : OwesNothing now.debuggee.program
