-- A program that owes something runs: whatever is done to it.
use Rattle.session_laws.proofs.Headline.Common.{[], Act, All, All-cons, All-nil, Answering, append-nil, arith, beat_of, Become, Bool, concludes, ended, Event as Told, exit_events, Exited, exits, false, halts, if_keeps, is_active, IsEvent, List, logged, map, Mark, marked, marked_by, None, Now, on_program, Option, Outcome as CameTo, output_events, Program, refl, says_output, Seen, Some, stopped, subst, Tell, telling, Terminated, Tick, told, Why, ℕ, ℤ, ⊤, ◌++◌, ◌∷◌, ◌≡◌}
use Rattle.debuggee.specs.declared.run.Run.TheVariants as a_run
use Rattle.session_laws.proofs.Headline.Agreeing.{nothing_owed, OwesOf, OwesRunning}
use Rattle.session_laws.proofs.Cases.{by_running}

-- each program that these acts leave owes as it may
unfoldable pub AllOwe : List Act → Type 0
AllOwe [] = ⊤
AllOwe (Become d ∷ acts) = OwesOf d.program × AllOwe acts
AllOwe (Tell event ∷ acts) = AllOwe acts
AllOwe (act ∷ acts) = ⊥

told_owe : (events : List Told) (acts : List Act) → AllOwe acts → AllOwe (map Tell events ++ acts)
unfolding AllOwe
told_owe [] acts h = h
told_owe (e ∷ es) acts h = told_owe es acts h

pub all_tell_owe : (events : List Told) → AllOwe (map Tell events)
unfolding AllOwe
all_tell_owe events = subst AllOwe (append-nil (map Tell events)) (told_owe events [] tt)

halts_owe : (now : Now) (p : Program) (why : Why) (ids : List ℕ) → p.owed ≡ None → AllOwe (halts now p why ids)
unfolding AllOwe
halts_owe now p why ids e = (nothing_owed (stopped why p) e, if_keeps AllOwe (is_active now.link) _ [] (λ _. tt) (λ _. tt))

exits_owe : (now : Now) (p : Program) (code : ℤ) → p.owed ≡ None → AllOwe (exits now p code)
unfolding AllOwe
exits_owe now p code e = (nothing_owed (ended (Some code) p) e, if_keeps AllOwe (is_active now.link) _ [] (λ _. tt) (λ _. tt))

concludes_owe : (now : Now) (p : Program) (outcome : CameTo) (ids : List ℕ) → p.owed ≡ None → AllOwe (concludes now p outcome ids)
unfolding AllOwe
concludes_owe now p outcome ids e = grind (arith, halts_owe, exits_owe)

pub telling_owes : (now : Now) (p : Program) (tick : Tick) → AllOwe (telling now p tick)
unfolding AllOwe
telling_owes now p tick =
    let acts : List Act = concludes now (told p) tick.outcome p.machine.lists.ids in
    let h = concludes_owe now (told p) tick.outcome p.machine.lists.ids refl in (
      nothing_owed (told p) refl,
      if_keeps (λ (x : List Act). AllOwe (x ++ acts)) (is_active now.link) _ []
          (λ _. told_owe (output_events tick.printed (logged p.machine.lists)) acts h) (λ _. h),
    )

pub beat_owes : (program : Option Program) (seen : Seen) (more : Bool) → AllOwe (beat_of program seen more).acts
unfolding AllOwe
beat_owes None seen more = tt
beat_owes (Some p) seen more = by_running seen p more (λ b. AllOwe b.acts) tt (λ runs. record {
  tells = λ tick _. telling_owes seen.now p tick;
  ends_for = λ _ _ _. tt;
  stops_for = λ reason owes _. halts_owe seen.now p reason [] owes;
  exits_with = λ code owes _ _. exits_owe seen.now p code owes;
  enters = λ owes _ _. (λ _. runs owes, tt);
  moves = λ owes _ _ _ _. (λ _. runs owes, tt);
})

-- ---- what is done to it from outside

pub marked_owes : (mark : Mark) (p : Program) → OwesRunning p → OwesRunning (marked mark p)
marked_owes mark p h = elim p.run as (λ r. OwesRunning (marked_by r mark p)) [ a_run.Running ↦ h | _ ↦ h ]

pub owes_after : (f : Program → Program) → ((p : Program) → OwesRunning p → OwesRunning (f p)) → (program : Option Program) → OwesOf program
    → OwesOf (on_program f program)
owes_after f keeps None h = tt
owes_after f keeps (Some p) h = keeps p h

-- ---- events that are no output

abbrev pub Plain : Told → Type 0
Plain e = says_output (IsEvent e) ≡ false

-- a program that owes as it may, and such events
abbrev pub IsMild : Answering → Type 0
IsMild a = OwesOf a.debuggee.program × All Plain a.events

pub none_plain : All Plain []
none_plain = All-nil Plain

pub one_plain : (e : Told) → Plain e → All Plain (e ∷ [])
one_plain e plain = All-cons Plain e [] plain none_plain

pub exits_plain : (code : ℤ) → All Plain (exit_events code)
exits_plain code = All-cons Plain (Exited (record { exit_code = code })) (Terminated ∷ []) refl (one_plain Terminated refl)
