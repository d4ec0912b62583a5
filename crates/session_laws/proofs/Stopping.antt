-- A slice stops where a run stops.
use Rattle.session_laws.proofs.Common.{[], Act, AllocError, ap, arith, beat, Beat, beat_by, beat_of, beats, Bool, by_tick, CameTo as Outcome, concluded, cond, Debugged, ended, Ended, entered, entry_checked, entry_tick, false, GoOn, histories, if_keeps, IfSome, is_configuring, is_runnable_by, is_running, IsTick, List, ltb, makes_move, Met, move_leaves, moved, next_by, next_tick, None, not, number_after, Ok, Option, owing, owing_by, performed, Program, refl, Result, Run, run_after, run_left, Says, Session, sliced, SliceEnd, Slicing, Some, stays, Stopped, stopped, subst, suc, sym, telling, the_tick, Tick, tick_of_entry, tick_of_move, told, true, turns_back, Went, Why, zero, ℕ, ℤ, ◌&&◌, ◌*◌, ◌+◌, ◌∙◌, ◌≡◌}
use Rattle.debuggee.proofs.Advancing.{going_names_none}
use Rattle.debuggee.specs.declared.run.Run.TheVariants as run
use Rattle.session.specs.declared.event.SliceEnd.TheVariants as ending
use Rattle.session_laws.specs.Stopping.{SaysWhere, SaysWhereIn, SlicesStopThere, StaysAs, machine_told, next_number}
use Rattle.session_laws.proofs.Cases.{by_beat, by_slicing, enters_at, StopsFor, tells_tick}
use Rattle.session_laws.proofs.Joined.{exits_program, halts_program, program_of, slices_end, telling_program}
use Rattle.stepping.proofs.Advancing.{after_goal}
use Rattle.stepping.proofs.Ticking.{ticks_say_where}
use Rattle.stepping.specs.Stopping.{NoneBelow}

-- ---- the ticks of a run that continues

-- no reason applies at the number of any of them
no_entry : (start : Debugged) → start.check_due ≡ false → NoneBelow 1 start
no_entry start due lower outcome less a = absurd (grind arith)

none_at_first : (start : Debugged) → NoneBelow (number_after 0 start) start
none_at_first start =
    if_keeps (λ (n : ℕ). NoneBelow n start) start.check_due 0 1 (λ _ lower outcome less. absurd (omega (arith, less))) (no_entry start)

next_after : (due : Bool) (ticks : ℕ) → cond due (suc ticks) (suc (suc ticks)) ≡ suc (cond due ticks (suc ticks))
next_after due ticks = grind arith

-- and the run goes on forward
none_yet : (ticks : ℕ) (start now : Debugged) → turns_back start.goal ≡ false → GoOn ticks start now
    → NoneBelow (number_after ticks start) start × (turns_back now.goal ≡ false)
none_yet zero start now forward goes = (none_at_first start, ap (λ (d : Debugged). turns_back d.goal) goes ∙ forward)
none_yet (suc ticks) start now forward g =
    let says = ticks_say_where ticks start g.0 now (record { printed = g.2.1.0; outcome = Went }) forward g.2.0
    (subst (λ (r : Result Tick AllocError). IsTick g.0 r now) g.2.1.1 g.2.2) in (
      subst (λ (n : ℕ). NoneBelow n start) (sym (next_after start.check_due ticks)) says.0,
      ap turns_back (after_goal _ start now says.1) ∙ forward,
    )

-- ---- what the last look reached

-- a machine, but for the logpoints that the last look reached
abbrev but_logs : List ℕ → Debugged → Debugged
but_logs logs d = record d { lists = record d.lists { logs = logs } }

-- each tick has a look of its own, so that they do not matter to it
ticks_so : (logs : List ℕ) (d : Debugged) (tick : Tick) (after : Debugged) → turns_back d.goal ≡ false
    → IsTick (but_logs logs d) (Ok tick) after → IsTick d (Ok tick) after
ticks_so logs d tick after forward t =
    by_tick (but_logs logs d) after (Ok tick) t (λ due e. tick_of_entry d after (Ok tick) due e)
    (λ _ turns _. absurd (let no : true ≡ false = sym turns ∙ forward in cc))
    (λ due ahead m. tick_of_move d after (Ok tick) due ahead (record {
      instr = m.instr;
      stepped = m.stepped;
      fetched = m.fetched;
      moved = m.moved;
      settles = grind (arith, m.settles);
    }))

runs_on : (r : Run) (start : Debugged) (made : ℕ) (d : Debugged) → is_running r ≡ true → NoneBelow (next_number made d) start
    → SaysWhere made r start d
runs_on r start made d runs none = grind arith

-- ---- how far a slice is, where the run begins with this machine and does not go back

module _ (start : Debugged) (forward : turns_back start.goal ≡ false) where
  -- the run continues; what its logpoints said was told
  record Going (made : ℕ) (p : Program) : Type 0 where
    ticks : ℕ
    machine : Debugged
    logs : List ℕ
    goes : GoOn ticks start machine
    same : p.machine ≡ but_logs logs machine
    running : is_running p.run ≡ true
    count : next_number made p.machine ≡ number_after ticks start

  -- a tick of it left this program
  record Ticked (made : ℕ) (p : Program) (tick : Tick) : Type 0 where
    ticks : ℕ
    before : Debugged
    goes : GoOn ticks start before
    is : IsTick before (Ok tick) p.machine
    running : is_running p.run ≡ true
    count : made ≡ number_after ticks start
    due : p.machine.check_due ≡ false
    stay : stays tick.outcome ≡ false

  -- where a slice continues: nothing is owed, or what its last tick came to
  Middle : ℕ → Program → Option Tick → Type 0
  Middle made p None = Going made p
  Middle made p (Some tick) = Ticked made p tick

  -- a program after some beats, by whether they ended the slice
  Far : ℕ → Option Program → Option SliceEnd → Type 0
  Far made None e = ⊥
  Far made (Some p) (Some e) = (p.owed ≡ None) × SaysWhere made p.run start p.machine
  Far made (Some p) None = Middle made p p.owed

  -- ---- what a tick comes to

  -- the run continues after it
  goes_after : (made : ℕ) (p q : Program) (printed : Option ℤ) (logs : List ℕ)
      → Ticked made p (record { printed = printed; outcome = Went }) → q.machine ≡ but_logs logs p.machine → q.run ≡ p.run
      → Going made q
  goes_after made p q printed logs t same run = record {
    ticks = suc t.ticks;
    machine = p.machine;
    logs = logs;
    same = same;
    goes = (t.before, Ok (record { printed = printed; outcome = Went }), (t.goes, (printed, refl), t.is));
    running = ap is_running run ∙ t.running;
    count =
        ap (λ (due : Bool). cond due made (suc made)) (ap (λ (d : Debugged). d.check_due) same ∙ t.due)
        ∙ ap suc t.count ∙ sym (next_after start.check_due t.ticks);
  }

  owed_by : (made : ℕ) (p : Program) (printed : Option ℤ) (outcome : Outcome) (logs : List ℕ)
      → Ticked made p (record { printed = printed; outcome = outcome }) → Middle made p (owing_by printed outcome logs)
  unfolding Middle
  owed_by made p None Went [] t = goes_after made p p None p.machine.lists.logs t refl refl
  owed_by made p printed outcome logs t = t

  middle_after : (made : ℕ) (p : Program) (tick : Tick) → Ticked made p tick → p.owed ≡ owing tick p.machine
      → Middle made p p.owed
  middle_after made p tick t e =
      subst (Middle made p) (sym e) (owed_by made p tick.printed tick.outcome p.machine.lists.logs t)

  ticked_says : (made : ℕ) (p : Program) (tick : Tick) → Ticked made p tick → Says made tick.outcome start p.machine
  ticked_says made p tick t =
      rw t.count (ticks_say_where t.ticks start t.before p.machine tick forward t.goes t.is)

  -- it says where the run stops once it is told
  owing_says : (made : ℕ) (p : Program) (printed : Option ℤ) (outcome : Outcome)
      → Ticked made p (record { printed = printed; outcome = outcome }) → SaysWhere made (run_after outcome p.run) start p.machine
  owing_says made p printed Went t =
      runs_on p.run start made p.machine t.running (rw t.due (ticked_says made p (record { printed = printed; outcome = Went }) t).0)
  owing_says made p printed (Stopped reason) t =
      rw t.stay (ticked_says made p (record { printed = printed; outcome = Stopped reason }) t).0
  owing_says made p printed (Ended code) t = absurd (let no : true ≡ false = t.stay in cc)

  -- ---- a beat

  -- what a beat makes of how far a slice is
  FarBy : ℕ → Session → Beat → Type 0
  FarBy made s b = Far (made + b.moved) (program_of (performed histories b.acts s)) b.ending

  -- without a move it leaves this program, and the slice continues, or ends
  still_far : (made : ℕ) (s : Session) (acts : List Act) (e : Option SliceEnd) (q : Program)
      → program_of (performed histories acts s) ≡ Some q → Far made (Some q) e
      → FarBy made s (record { acts = acts; moved = 0; ending = e })
  unfolding FarBy
  still_far made s acts e q is h =
      let none : made + 0 ≡ made = omega arith in rw (none, is) h

  -- none of the moves that were made met a reason
  none_by : (made : ℕ) (p : Program) → Going made p → NoneBelow (next_number made p.machine) start
  none_by made p g = subst (λ (n : ℕ). NoneBelow n start) (sym g.count) (none_yet g.ticks start g.machine forward g.goes).0

  -- a tick of this program's machine is one of the run
  tick_is : (made : ℕ) (p : Program) (tick : Tick) (after : Debugged) (g : Going made p)
      → IsTick p.machine (Ok tick) after → IsTick g.machine (Ok tick) after
  tick_is made p tick after g is =
      ticks_so g.logs g.machine tick after (none_yet g.ticks start g.machine forward g.goes).1
      (subst (λ (d : Debugged). let r : Result Tick AllocError = Ok tick in IsTick d r after) g.same is)

  tick_after : (made more : ℕ) (p q : Program) (tick : Tick) → Going made p → IsTick p.machine (Ok tick) q.machine
      → more ≡ next_number made p.machine → q.run ≡ p.run → q.machine.check_due ≡ false → stays tick.outcome ≡ false
      → Ticked more q tick
  tick_after made more p q tick g is counts runs due stay = record {
    ticks = g.ticks;
    before = g.machine;
    goes = g.goes;
    is = tick_is made p tick q.machine g is;
    running = ap is_running runs ∙ g.running;
    count = counts ∙ g.count;
    due = due;
    stay = stay;
  }

  -- an instruction that stays is met
  stay_says : (made : ℕ) (p : Program) (outcome : Outcome) → Going made p → p.machine.check_due ≡ false
      → (next_tick p).outcome ≡ outcome → Says (suc made) outcome start (moved p).machine
  stay_says made p outcome g due e =
      let counts : suc made ≡ number_after g.ticks start = ap (λ (b : Bool). cond b made (suc made)) (sym due) ∙ g.count in
      rw (counts, ← e) (ticks_say_where g.ticks start g.machine (moved p).machine (next_tick p) forward g.goes
      (tick_is made p (next_tick p) (moved p).machine g (the_tick p.machine).is))

  stop_says : (made : ℕ) (p : Program) → Going made p → (w : Why) → StopsFor p w
      → SaysWhere made (run.Stopped w) start p.machine
  stop_says made p g (Met reason) h =
      rw h.2 (stay_says made p (Stopped reason) g h.0 h.1).0
  stop_says made p g _ h = none_by made p g

  retire_far : (made : ℕ) (s : Session) (p : Program) → Going made p → p.machine.check_due ≡ false
      → stays (next_tick p).outcome ≡ false → FarBy made s (makes_move s.now p)
  unfolding FarBy Far
  retire_far made s p g due stay =
      let more : made + 1 ≡ suc made = omega arith in
      middle_after (made + 1) (moved p) (next_tick p)
      (tick_after made (made + 1) p (moved p) (next_tick p) g (the_tick p.machine).is
      (more ∙ ap (λ (b : Bool). cond b made (suc made)) (sym due)) refl ((move_leaves p due stay).due ∙ due) stay) refl

  entry_far : (made : ℕ) (s : Session) (p : Program) → Going made p → p.machine.check_due ≡ true
      → FarBy made s (enters_at s.now p)
  unfolding Far
  entry_far made s p g due = still_far made s _ None (entered p) refl
      (middle_after made (entered p) (entry_tick p.machine)
      (tick_after made made p (entered p) (entry_tick p.machine) g
      (tick_of_entry p.machine (entry_checked p.machine) (Ok (entry_tick p.machine)) due (refl, refl))
      (ap (λ (b : Bool). cond b made (suc made)) (sym due)) refl refl (grind arith)) refl)

  -- what is owed is told
  told_machine : (p : Program) → p.machine.lists.ids ≡ [] → (told p).machine ≡ but_logs [] p.machine
  told_machine p none = λ j. record p.machine { lists = record p.machine.lists { ids = sym none j; logs = [] } }

  tick_far : (made : ℕ) (s : Session) (p : Program) (printed : Option ℤ) (outcome : Outcome)
      → let tick : Tick = record { printed = printed; outcome = outcome } in Ticked made p tick → FarBy made s (tells_tick s.now p tick)
  unfolding Far Middle
  tick_far made s p printed Went t =
      let tick : Tick = record { printed = printed; outcome = Went } in
      still_far made s (telling s.now p tick) None (told p) (telling_program s.now p tick s)
      (goes_after made p (told p) printed [] t (told_machine p (going_names_none t.before p.machine tick refl t.is)) refl)
  tick_far made s p printed (Stopped reason) t =
      let tick : Tick = record { printed = printed; outcome = Stopped reason } in
      still_far made s (telling s.now p tick) (Some ending.Stopped) (stopped (Met reason) (told p)) (telling_program s.now p tick s)
      (refl, owing_says made p printed (Stopped reason) t)
  tick_far made s p printed (Ended code) t = absurd (let no : true ≡ false = t.stay in cc)

  beat_far : (made : ℕ) (s : Session) (more : Bool) → Far made (program_of s) None
      → FarBy made s (beat (histories.see s) more)
  unfolding Far Middle
  beat_far made s more h = by_beat (program_of s) (histories.see s) more (FarBy made s)
      (λ none. absurd (subst (λ (x : Option Program). Far made x None) none h))
      (λ p is.
      let m : Middle made p p.owed = subst (λ (x : Option Program). Far made x None) is h in
      let going : p.owed ≡ None → Going made p = λ owes. subst (Middle made p) owes m in
      record {
        tells = λ tick e. tick_far made s p tick.printed tick.outcome (subst (Middle made p) e m);
        ends_for = λ e owes _. let g = going owes in
            still_far made s [] (Some e) p is (owes, runs_on p.run start made p.machine g.running (none_by made p g));
        stops_for = λ w owes why. still_far made s _ (Some ending.Stopped) (stopped w p) (halts_program s.now p w [] s)
            (owes, stop_says made p (going owes) w why);
        exits_with = λ code owes due e. still_far made s _ (Some ending.Ended) (ended (Some code) p) (exits_program s.now p code s)
            (owes, (stay_says made p (Ended code) (going owes) due e).0);
        enters = λ owes _ due. entry_far made s p (going owes) due;
        moves = λ owes _ due _ stay. retire_far made s p (going owes) due stay;
      })

  -- ---- a slice

  abbrev FarIn : Slicing Session → Type 0
  FarIn d = Far d.moved (program_of d.state) d.ending

  next_far : (n : ℕ) (d : Slicing Session) (e : Option SliceEnd) → d.ending ≡ e → FarIn d → FarIn (next_by histories n e d)
  unfolding FarBy
  next_far n d (Some e) is h = h
  next_far n d None is h =
      beat_far d.moved d.state (ltb d.moved n) (subst (Far d.moved (program_of d.state)) is h)

  -- after the first beat, and more
  beats_far : (n k : ℕ) (s : Session) → FarIn (beats histories n (suc zero) s) → FarIn (beats histories n (suc k) s)
  beats_far n zero s h = h
  beats_far n (suc k) s h =
      next_far n (beats histories n (suc k) s) (beats histories n (suc k) s).ending refl (beats_far n k s h)

  -- ---- what a slice says

  says_by : (program : Option Program) (e : Option SliceEnd) (made : ℕ) → Far made program e
      → SaysWhereIn made program start
  unfolding Far Middle
  says_by None e made h = absurd h
  says_by (Some p) (Some e) made h = subst (λ (o : Option Tick). SaysWhere made (run_left o p.run) start p.machine) (sym h.0) h.1
  says_by (Some p) None made h = by p.owed h where
    by : (owed : Option Tick) → Middle made p owed → SaysWhere made (run_left owed p.run) start p.machine
    by None g = runs_on p.run start made p.machine g.running (none_by made p g)
    by (Some tick) o = owing_says made p tick.printed tick.outcome o

  owes_none : (program : Option Program) (e : Option SliceEnd) (made : ℕ) → (e ≡ None → ⊥) → Far made program e
      → IfSome program (λ q. q.owed ≡ None)
  unfolding Far
  owes_none program e made ended h = grind arith

-- ---- a slice begins

begins_far : (p : Program) → is_running p.run ≡ true → (forward : turns_back p.machine.goal ≡ false) → Going p.machine forward 0 p
begins_far p runs forward = record {
  ticks = 0;
  machine = p.machine;
  logs = p.machine.lists.logs;
  goes = refl;
  same = refl;
  running = runs;
  count = refl;
}

-- the first beat tells what is owed, which does not stop the program
told_far : (s : Session) (p : Program) (printed : Option ℤ) (outcome : Outcome) → is_running (run_after outcome p.run) ≡ true
    → (forward : turns_back p.machine.goal ≡ false)
    → FarBy (told p).machine forward 0 s (tells_tick s.now p (record { printed = printed; outcome = outcome }))
unfolding Far Middle
told_far s p printed Went runs forward =
    let tick : Tick = record { printed = printed; outcome = Went } in
    still_far (told p).machine forward 0 s (telling s.now p tick) None (told p) (telling_program s.now p tick s) (begins_far (told p) runs forward)
told_far s p printed _ runs forward = absurd (cc)

begun_far : (n : ℕ) (s : Session) (p : Program) → program_of s ≡ Some p → is_running (run_left p.owed p.run) ≡ true
    → (forward : turns_back (machine_told p.owed p).goal ≡ false) → FarIn (machine_told p.owed p) forward (beats histories n (suc zero) s)
unfolding FarBy Far Middle
begun_far n s p is runs forward =
    subst (λ (x : Option Program). FarBy (machine_told p.owed p) forward 0 s (beat_of x (histories.see s) (ltb 0 n))) (sym is)
    (by p.owed refl runs forward) where
      by : (owed : Option Tick) → p.owed ≡ owed → is_running (run_left owed p.run) ≡ true
          → (ahead : turns_back (machine_told owed p).goal ≡ false)
          → FarBy (machine_told owed p) ahead 0 s (beat_by owed (histories.see s) p (ltb 0 n))
      by (Some tick) owes r ahead = told_far s p tick.printed tick.outcome r ahead
      by None owes r ahead =
          let here : Far p.machine ahead 0 (program_of s) None = subst (λ (x : Option Program). Far p.machine ahead 0 x None) (sym is)
          (subst (Middle p.machine ahead 0 p) (sym owes) (begins_far p r ahead)) in
          subst (λ (o : Option Tick). FarBy p.machine ahead 0 s (beat_by o (histories.see s) p (ltb 0 n))) owes
          (subst (λ (x : Option Program). FarBy p.machine ahead 0 s (beat_of x (histories.see s) (ltb 0 n))) is
          (beat_far p.machine ahead 0 s (ltb 0 n) here))

-- before its first beat
none_first : (s : Session) (p : Program) (owed : Option Tick) → p.owed ≡ owed → program_of s ≡ Some p
    → is_running (run_left owed p.run) ≡ true → SaysWhereIn 0 (program_of s) (machine_told owed p)
none_first s p owed owes is runs =
    subst (λ (x : Option Program). SaysWhereIn 0 x (machine_told owed p)) (sym is)
    (subst (λ (o : Option Tick). SaysWhere 0 (run_left o p.run) (machine_told owed p) p.machine) (sym owes)
    (runs_on (run_left owed p.run) (machine_told owed p) 0 p.machine runs (none_at owed))) where
      none_at : (owed : Option Tick) → NoneBelow (next_number 0 p.machine) (machine_told owed p)
      none_at None = none_at_first p.machine
      none_at (Some tick) = none_at_first (told p).machine

told_forward : (p : Program) (owed : Option Tick) → turns_back p.machine.goal ≡ false → turns_back (machine_told owed p).goal ≡ false
told_forward p owed h = grind arith

slices_go : (s : Session) (p : Program) (n count : ℕ) → program_of s ≡ Some p → is_running (run_left p.owed p.run) ≡ true
    → turns_back p.machine.goal ≡ false
    → (let d = beats histories n count s in SaysWhereIn d.moved (program_of d.state) (machine_told p.owed p))
slices_go s p n zero is runs forward = none_first s p p.owed refl is runs
slices_go s p n (suc k) is runs forward =
    let d = beats histories n (suc k) s in
    let ahead = told_forward p p.owed forward in
    says_by (machine_told p.owed p) ahead (program_of d.state) d.ending d.moved
    (beats_far (machine_told p.owed p) ahead n k s (begun_far n s p is runs ahead))

-- ---- one that stands still

-- it may not continue
pub no_more : {A : Type 0} (running other : Bool) → running ≡ false → not (running && other) ≡ false → A
no_more true other e f = absurd (cc)
no_more false other e f = absurd (cc)

abbrev Stands : Run → Slicing Session → Type 0
Stands r d = (d.moved ≡ 0) × StaysAs r (program_of d.state)

concluded_run : (outcome : Outcome) (p : Program) → run_left (concluded outcome (told p)).owed (concluded outcome (told p)).run
    ≡ run_after outcome p.run
concluded_run outcome p = grind arith

beat_stands : (r : Run) (program : Option Program) (s : Session) (more : Bool) → is_running r ≡ false → program_of s ≡ program
    → StaysAs r program → (let b = beat_of program (histories.see s) more in
    (b.moved ≡ 0) × StaysAs r (program_of (performed histories b.acts s)))
beat_stands r None s more still is h = absurd h
beat_stands r (Some p) s more still is h = by p.owed h where
  by : (owed : Option Tick) → run_left owed p.run ≡ r → (let b = beat_by owed (histories.see s) p more in
      (b.moved ≡ 0) × StaysAs r (program_of (performed histories b.acts s)))
  by None e =
      if_keeps (λ (b : Beat). (b.moved ≡ 0) × StaysAs r (program_of (performed histories b.acts s)))
      (not (is_runnable_by s.now.link p.run)) _ _ (λ _. (refl, subst (StaysAs r) (sym is) h))
      (λ goes. no_more (is_running p.run) (not (is_configuring s.now.link)) (ap is_running e ∙ still) goes)
  by (Some tick) e =
      (refl, subst (StaysAs r) (sym (telling_program s.now p tick s)) (concluded_run tick.outcome p ∙ e))

slices_stand : (n count : ℕ) (s : Session) (r : Run) → is_running r ≡ false → StaysAs r (program_of s)
    → Stands r (beats histories n count s)
slices_stand n count s r still h = by_slicing n (Stands r) (λ d _ x.
    let b = beat_stands r (program_of d.state) d.state (ltb d.moved n) still refl x.1 in
    let before = x.0 in let none = b.0 in (omega (arith, before, none), b.1)) count s (refl, h)

pub slices_stop_there : (s : Session) → SlicesStopThere s
slices_stop_there s = record {
  goes = λ p n count is runs forward. slices_go s p n count is runs forward;
  whole = λ p n is runs forward.
      let d = sliced histories n s in
      let all : suc (2 * n + 3) ≡ 2 * n + 4 = omega arith in
      let ahead = told_forward p p.owed forward in
      owes_none (machine_told p.owed p) ahead (program_of d.state) d.ending d.moved (slices_end s n).0
      (subst (λ (k : ℕ). FarIn (machine_told p.owed p) ahead (beats histories n k s)) all
      (beats_far (machine_told p.owed p) ahead n (2 * n + 3) s (begun_far n s p is runs ahead)));
  stands = λ p n count is still.
      slices_stand n count s (run_left p.owed p.run) still
      (subst (StaysAs (run_left p.owed p.run)) (sym is) refl);
}
