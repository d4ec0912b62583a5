-- Many moves, and the check at the entry.
use Rattle.debuggee.proofs.Common.{[], Advances, ap, arith, Back, back_outcome, back_tick, Bool, Debugged, entry_checked, entry_tick, Err, false, Go, Goal, GoesQuietly, gone_back, hit_at_pc, In, IsTick, List, looked_at, meets_goal, moved, moved_as, Moves, NamesNone, next_tick, None, Ok, Option, Out, outcome_of, outcome_or, Over, owing, plain_tick, Position, Program, refl, Result, ReverseGo, settled, Settles, Some, stayed, stays, subst, suc, sym, Tick, tick_of, true, undone, undone_by, unless_start, went_on, zero, ℕ, ◌+◌, ◌∙◌, ◌∷◌, ◌≡◌}
use Rattle.std.specs.declared.alloc.AllocError.{AllocError}
use Rattle.rv32i.specs.Machine.{IsMove, machine_of}
use Rattle.rv32i.specs.declared.instr.Instr.{Instr}
use Rattle.rv32i.specs.declared.stepped.Stepped.{Stepped}
use Rattle.rv32i.specs.declared.stepped.Stepped.TheVariants.{Retired, Printed, Break, Exit, Trap}
use Rattle.stepping.specs.Runs.{Goes, IsRun, EndsRun, MayLackMemory}
use Rattle.stepping.specs.Goals.{turns_back}
use Rattle.stepping.specs.declared.tick.RunEnd.{RunEnd}
use Rattle.stepping.specs.declared.tick.RunEnd.TheVariants as ending
use Rattle.stepping.specs.declared.tick.Outcome.TheVariants.{Went}
use Rattle.stepping.specs.declared.tick.Ran.{Ran}
use Rattle.breakpoints.specs.Stops.{standing_in}
use Rattle.breakpoints.specs.declared.breakpoint.Hit.{Hit}
use Rattle.stepping.proofs.Advancing.{stays_so}
use Rattle.stepping.proofs.Cases.{Enters, GoesBack, by_tick}
use Rattle.stepping.proofs.Determined.{tick_is_deterministic}
use Rattle.stepping.proofs.Existing.{the_tick}
use Rattle.debuggee.specs.declared.program.Advanced.TheVariants.{HasOutput, Stops, OutOfMemory}
use Rattle.debuggee.proofs.Naming.{looks_name_none, owes_it, owing_none, plain_owes_none, undone_names_none}

-- ---- one tick

tick_or : Tick → Result Tick AllocError → Tick
tick_or t (Ok tick) = tick
tick_or t (Err e) = t

-- each is the one that the machine has
pub the_one : (d after : Debugged) (tick : Tick) → IsTick d (Ok tick) after → (tick ≡ (the_tick d).tick) × (after ≡ (the_tick d).after)
unfolding tick_or
the_one d after tick h =
    let e = tick_is_deterministic d after (the_tick d).after (Ok tick) (Ok (the_tick d).tick) h (the_tick d).is in
    (ap (tick_or tick) e.0, e.1)

-- ---- what a tick leaves where the machine continues

went_names_none : (s : Stepped) (instr : Option Instr) (before d : Debugged) → (tick_of s instr before.hart.pc d).outcome ≡ Went
    → (settled s instr before d).lists.ids ≡ []
went_names_none Retired instr before d e = looks_name_none d (meets_goal instr before.hart.pc d) e
went_names_none (Printed number) instr before d e = looks_name_none d (meets_goal instr before.hart.pc d) e
went_names_none Break instr before d e = absurd (cc)
went_names_none (Exit code) instr before d e = refl
went_names_none (Trap cause) instr before d e = refl

settles_none : (before after : Debugged) (instr : Option Instr) (s : Stepped) (tick : Tick) → tick.outcome ≡ Went
    → Settles before instr s (Ok tick) after → after.lists.ids ≡ []
settles_none before after instr s tick e h =
    let same : tick ≡ tick_of s instr before.hart.pc (moved_as before after) = cc in
    ap (λ (d : Debugged). d.lists.ids) h.1
    ∙ went_names_none s instr before (moved_as before after) (sym (ap (λ (t : Tick). t.outcome) same) ∙ e)

pub going_names_none : (d after : Debugged) (tick : Tick) → tick.outcome ≡ Went → IsTick d (Ok tick) after → after.lists.ids ≡ []
going_names_none d after tick e h =
    by_tick d after (Ok tick) h entry back (λ due forward m. settles_none d after m.instr m.stepped tick e m.settles)
  where
    entry : d.check_due ≡ true → Enters d (Ok tick) after → after.lists.ids ≡ []
    entry due x =
        let said = x.0 in
        let same : tick ≡ entry_tick d = cc in
        ap (λ (x : Debugged). x.lists.ids) x.1
        ∙ looks_name_none (record d { check_due = false }) false (sym (ap (λ (t : Tick). t.outcome) same) ∙ e)

    back : d.check_due ≡ false → turns_back d.goal ≡ true → GoesBack d (Ok tick) after → after.lists.ids ≡ []
    back due turns x =
        let said = x.0 in
        let same : tick ≡ back_tick d = cc in
        ap (λ (x : Debugged). x.lists.ids) x.1 ∙ undone_names_none d (sym (ap (λ (t : Tick). t.outcome) same) ∙ e)

-- ---- an instruction that stays

looks_on : (hit : Hit) (goal : Bool) → stays (outcome_of hit goal) ≡ false
looks_on hit goal = by hit.source hit.instruction hit.function goal where
  by : (source instruction function met : Bool)
      → stays (outcome_of (record { source = source; instruction = instruction; function = function }) met) ≡ false
  by true instruction function met = refl
  by false true function met = refl
  by false false true met = refl
  by false false false true = refl
  by false false false false = refl

goes_so : (before after : Debugged) (instr : Option Instr)
    → stays (went_on instr before.hart.pc (moved_as before after)) ≡ true → false ≡ true
goes_so before after instr e =
    sym (looks_on (hit_at_pc (moved_as before after)) (meets_goal instr before.hart.pc (moved_as before after))) ∙ e

-- a move that is undone never does
backs_or : (hit : Hit) (past : List Position) → stays (outcome_or hit (unless_start past)) ≡ false
backs_or hit past = by hit.source hit.instruction hit.function past where
  by : (source instruction function : Bool) (past : List Position)
      → stays (outcome_or (record { source = source; instruction = instruction; function = function }) (unless_start past)) ≡ false
  by true instruction function past = refl
  by false true function past = refl
  by false false true past = refl
  by false false false [] = refl
  by false false false (p ∷ past) = refl

backs_on : (g : Goal) (d : Debugged) → stays (back_outcome g d) ≡ false
backs_on ReverseGo d = backs_or (standing_in d.hart.pc d.hart d.memory d.lists) d.past
backs_on _ d = refl

stays_put : (before after : Debugged) (s : Stepped) (instr : Option Instr) → let pc = before.hart.pc in
    stays (tick_of s instr pc (moved_as before after)).outcome ≡ true
    → IsMove (machine_of before.hart before.memory) (record { answer = Ok s; machine = machine_of after.hart after.memory })
    → after ≡ settled s instr before (moved_as before after) → after ≡ stayed before
stays_put before after Retired instr e m h = absurd (let never = goes_so before after instr e in cc)
stays_put before after (Printed number) instr e m h = absurd (let never = goes_so before after instr e in cc)
stays_put before after Break instr e m h = absurd (let never : false ≡ true = e in cc)
stays_put before after (Exit code) instr e m h = stays_so before after (Exit code) refl m h
stays_put before after (Trap cause) instr e m h = stays_so before after (Trap cause) refl m h

settles_put : (before after : Debugged) (tick : Tick) → (m : Moves before (Ok tick) after) → stays tick.outcome ≡ true
    → after ≡ stayed before
settles_put before after tick m e =
    let said = m.settles.0 in
    let same : tick ≡ tick_of m.stepped m.instr before.hart.pc (moved_as before after) = cc in
    stays_put before after m.stepped m.instr (sym (ap (λ (t : Tick). stays t.outcome) same) ∙ e) m.moved m.settles.1

-- where none is named, that is no change
pub stays_there : (before after : Debugged) (tick : Tick) → before.check_due ≡ false → NamesNone before → IsTick before (Ok tick) after
    → stays tick.outcome ≡ true → after ≡ before
stays_there before after tick due none h e =
    by_tick before after (Ok tick) h (λ d x. absurd (let never : true ≡ false = sym d ∙ due in cc)) back
    (λ d forward m. settles_put before after tick m e
    ∙ sym (λ j. record before { lists = record before.lists { ids = none.0 j; logs = none.1 j } }))
  where
    back : before.check_due ≡ false → turns_back before.goal ≡ true → GoesBack before (Ok tick) after → after ≡ before
    back d turns x =
        let said = x.0 in
        let same : tick ≡ back_tick before = cc in
        absurd (let never : false ≡ true = sym (backs_on before.goal (undone before)) ∙ ap (λ (t : Tick). stays t.outcome) (sym same) ∙ e in cc)

-- ---- a number of ticks with nothing to tell

none_named_after : (n : ℕ) (before middle : Debugged) → NamesNone before → Goes n before middle → NamesNone middle
none_named_after zero before middle none g = subst NamesNone (sym g) none
none_named_after (suc n) before middle none g = (going_names_none g.0 middle plain_tick refl g.1.1.0, g.1.1.1)

settles_due : (before after : Debugged) (s : Stepped) (instr : Option Instr) → after ≡ settled s instr before (moved_as before after)
    → after.check_due ≡ before.check_due
settles_due before after Retired instr h = ap (λ (d : Debugged). d.check_due) h
settles_due before after _ instr h = ap (λ (d : Debugged). d.check_due) h

moves_due : (before after : Debugged) (tick : Tick) (m : Moves before (Ok tick) after) → after.check_due ≡ before.check_due
moves_due before after tick m = settles_due before after m.stepped m.instr m.settles.1

looked_due : (g : Goal) (d : Debugged) → (looked_at g d).check_due ≡ d.check_due
looked_due ReverseGo d = refl
looked_due _ d = refl

undone_due : (past : List Position) (d : Debugged) → (undone_by past d).check_due ≡ d.check_due
undone_due [] d = refl
undone_due (p ∷ past) d = refl

gone_due : (d : Debugged) → (gone_back d).check_due ≡ d.check_due
gone_due d = looked_due d.goal (undone d) ∙ undone_due d.past d

pub tick_not_due : (before after : Debugged) (tick : Tick) → before.check_due ≡ false → IsTick before (Ok tick) after
    → after.check_due ≡ false
tick_not_due before after tick due h =
    by_tick before after (Ok tick) h (λ d x. ap (λ (x : Debugged). x.check_due) x.1)
    (λ d turns x. ap (λ (x : Debugged). x.check_due) x.1 ∙ gone_due before ∙ due) (λ d forward m. moves_due before after tick m ∙ due)

still_not_due : (n : ℕ) (before middle : Debugged) → before.check_due ≡ false → Goes n before middle → middle.check_due ≡ false
still_not_due zero before middle due g = ap (λ (d : Debugged). d.check_due) g ∙ due
still_not_due (suc n) before middle due g = tick_not_due g.0 middle plain_tick (still_not_due n before g.0 due g.1.0) g.1.1.0

abbrev pub with_machine : Program → Debugged → Program
with_machine p d = record p { machine = d }

-- after a tick with nothing to tell
quiet_move : (p : Program) (before after : Debugged) → p.owed ≡ None → IsTick before (Ok plain_tick) after → after.lists.logs ≡ []
    → ((moved (with_machine p before)).owed ≡ None) × (with_machine p after ≡ moved (with_machine p before))
quiet_move p before after none h quiet =
    let one = the_one before after plain_tick h in
    let there : owing plain_tick after ≡ owing (the_tick before).tick (the_tick before).after = λ j. owing (one.0 j) (one.1 j) in
    let owed : owing (the_tick before).tick (the_tick before).after ≡ None = sym there
    ∙ plain_owes_none plain_tick after (refl, quiet) in (
      owed,
      ap (with_machine p) one.1
          ∙ ap (λ (o : Option Tick). record p { machine = (the_tick before).after; owed = o }) (none ∙ sym owed),
    )

goes_quietly : (n : ℕ) (p : Program) (middle : Debugged) → p.owed ≡ None → Goes n p.machine middle → GoesQuietly n p (with_machine p middle)
goes_quietly zero p middle none g = ap (with_machine p) g
goes_quietly (suc n) p middle none g =
    (with_machine p g.0, (goes_quietly n p g.0 none g.1.0, quiet_move p g.0 middle none g.1.1.0 g.1.1.1))

-- ---- a run

pub run_spends : (most : ℕ) (p : Program) (ran : Ran) (after : Debugged) → p.owed ≡ None → ran.ending ≡ ending.Spent
    → IsRun most p.machine ran after → GoesQuietly most p (with_machine p after)
run_spends most p ran after none e h =
    let ends : EndsRun most ran.went ending.Spent h.middle after = subst
    (λ (x : RunEnd). EndsRun most ran.went x h.middle after) e h.ends in
    subst (λ (n : ℕ). GoesQuietly n p (with_machine p after)) ends.0
    (subst (λ (d : Debugged). GoesQuietly ran.went p (with_machine p d)) (sym ends.1) (goes_quietly ran.went p h.middle none h.goes))

pub spent_names_none : (most : ℕ) (before : Debugged) (ran : Ran) (after : Debugged) → NamesNone before → ran.ending ≡ ending.Spent
    → IsRun most before ran after → NamesNone after
spent_names_none most before ran after none e h =
    let ends : EndsRun most ran.went ending.Spent h.middle after = subst
    (λ (x : RunEnd). EndsRun most ran.went x h.middle after) e h.ends in
    subst NamesNone (sym ends.1) (none_named_after ran.went before h.middle none h.goes)

pub run_lacks : (most : ℕ) (p : Program) (ran : Ran) (after : Debugged) → p.owed ≡ None → ran.ending ≡ ending.NoMemory
    → IsRun most p.machine ran after → Advances most p (OutOfMemory ran.went) (with_machine p after)
run_lacks most p ran after none e h =
    let ends : EndsRun most ran.went ending.NoMemory h.middle after = subst
    (λ (x : RunEnd). EndsRun most ran.went x h.middle after) e h.ends in (
      ends.0,
      (
        subst (λ (d : Debugged). GoesQuietly ran.went p (with_machine p d)) (sym ends.1.0) (goes_quietly ran.went p h.middle none h.goes),
        subst MayLackMemory (sym ends.1.0) ends.1.1,
      ),
    )

pub lacking_names_none : (most : ℕ) (before : Debugged) (ran : Ran) (after : Debugged) → NamesNone before
    → ran.ending ≡ ending.NoMemory → IsRun most before ran after → NamesNone after
lacking_names_none most before ran after none e h =
    let ends : EndsRun most ran.went ending.NoMemory h.middle after = subst
    (λ (x : RunEnd). EndsRun most ran.went x h.middle after) e h.ends in
    subst NamesNone (sym ends.1.0) (none_named_after ran.went before h.middle none h.goes)

pub run_meets : (most : ℕ) (p : Program) (ran : Ran) (tick : Tick) (after : Debugged) → p.owed ≡ None → NamesNone p.machine
    → p.machine.check_due ≡ false → ran.ending ≡ ending.Ticked tick → stays tick.outcome ≡ true → IsRun most p.machine ran after
    → Advances most p (Stops ran.went tick) (with_machine p after) × NamesNone after
run_meets most p ran tick after none names due e s h =
    let ends : EndsRun most ran.went (ending.Ticked tick) h.middle after = subst
    (λ (x : RunEnd). EndsRun most ran.went x h.middle after) e h.ends in
    let named = none_named_after ran.went p.machine h.middle names h.goes in
    let same : after ≡ h.middle = stays_there h.middle after tick (still_not_due ran.went p.machine h.middle due h.goes) named ends.1.1 s in
    let one = the_one h.middle after tick ends.1.1 in (
      (
        ends.0,
        (
          subst (λ (d : Debugged). GoesQuietly ran.went p (with_machine p d)) (sym same) (goes_quietly ran.went p h.middle none h.goes),
          (ap (λ (d : Debugged). (the_tick d).tick) same ∙ sym one.0, s),
        ),
      ),
      subst NamesNone (sym same) named,
    )

pub run_owes : (most : ℕ) (p : Program) (ran : Ran) (tick : Tick) (after : Debugged) → p.owed ≡ None → ran.ending ≡ ending.Ticked tick
    → stays tick.outcome ≡ false → IsRun most p.machine ran after
    → Advances most p (HasOutput (ran.went + 1)) (record p { machine = after; owed = Some tick })
run_owes most p ran tick after none e s h =
    let ends : EndsRun most ran.went (ending.Ticked tick) h.middle after = subst
    (λ (x : RunEnd). EndsRun most ran.went x h.middle after) e h.ends in
    let one = the_one h.middle after tick ends.1.1 in
    let q : Program = with_machine p h.middle in
    let next : tick ≡ next_tick q = one.0 in
    let there : owing tick after ≡ owing (next_tick q) (the_tick h.middle).after = λ j. owing (one.0 j) (one.1 j) in
    let owed : owing (next_tick q) (the_tick h.middle).after ≡ Some tick = sym there ∙ owes_it tick after ends.1.0 in
    let more : ran.went + 1 ≡ suc ran.went = omega arith in (
      q,
      ran.went,
      (
        more,
        (
          ends.0,
          (
            goes_quietly ran.went p h.middle none h.goes,
            (
              sym (ap (λ (t : Tick). stays t.outcome) next) ∙ s,
              (
                λ x. (let never : Some tick ≡ None = sym owed ∙ x in cc),
                ap (λ (d : Debugged). record p { machine = d; owed = Some tick }) one.1
                    ∙ ap (λ (o : Option Tick). record p { machine = (the_tick h.middle).after; owed = o }) (sym owed),
              ),
            ),
          ),
        ),
      ),
    )

-- ---- the check at the entry

pub entry_names_none : (d : Debugged) → owing (entry_tick d) (entry_checked d) ≡ None → NamesNone (entry_checked d)
entry_names_none d e =
    let none = owing_none (entry_tick d) (entry_checked d) e in
    (looks_name_none (record d { check_due = false }) false none.1.0, none.1.1)
