-- What an editor knows fits to what there is now, so that what comes next can be told.
use Rattle.session_laws.proofs.Headline.Common.{Active, arith, Bool, BreakInfo, Configuring, ended, Facts, false, Frame, FrameInfo, Fresh, Hart, Holds, HoldsAt, HoldsRun, in_state, Initialized, is_active_in, is_debugging_in, is_running, Left, List, Mark, marked, marked_by, None, nothing_known, number_in, numbered, Numbers, on_program, Option, Phase, Position, Program, refl, Running, RunState, shown_by, shown_of, slice_get, Some, state_of, subst, sym, Terms, true, Unknown, ℕ, ℤ, ⊤, ◌∙◌, ◌≡◌}
use Rattle.debuggee.specs.declared.run.Run.TheVariants as a_run
use Rattle.facts.specs.declared.run.RunState.TheVariants.{Stopped, Ended}

-- nothing is known of the machine as it stands still
pub record KnowsNoStand (f : Facts) : Type 0 where
  pub frame : (index : ℕ) → f.frame index ≡ None
  pub register : (number : ℕ) → f.register number ≡ None
  pub byte : (address : ℕ) → f.byte address ≡ None

pub no_stand_in : (run : RunState) (f : Facts) → KnowsNoStand (in_state run f)
no_stand_in run f = record { frame = λ _. refl; register = λ _. refl; byte = λ _. refl }

-- before all is said, it is not known to run or to stop
abbrev pub IsQuiet : RunState → Type 0
IsQuiet Unknown = ⊤
IsQuiet Running = ⊥
IsQuiet Stopped = ⊥
IsQuiet (Ended code) = ⊤

-- an editor that said all is told of each change
pub record WhileConfiguring (is : Bool) (f : Facts) : Type 0 where
  pub launched : f.launched ≡ is
  pub quiet : IsQuiet f.run
  pub stand : KnowsNoStand f

abbrev pub SuitsPhase : Phase → Bool → Facts → Type 0
SuitsPhase Fresh launched f = f ≡ nothing_known
SuitsPhase Initialized launched f = f ≡ nothing_known
SuitsPhase Configuring launched f = WhileConfiguring launched f
SuitsPhase Active launched f = f.launched ≡ launched
SuitsPhase Left launched f = f ≡ nothing_known

-- of a program that runs, nothing is known that changes with it
abbrev pub MovesUnknown : Option Program → Facts → Type 0
MovesUnknown None f = ⊤
MovesUnknown (Some p) f = is_running p.run ≡ true → KnowsNoStand f

-- a frame is known by the number that it has
abbrev pub FramesNumbered : Numbers → Facts → Type 0
FramesNumbered numbers f = (index : ℕ) → (x : FrameInfo) → f.frame index ≡ Some x → number_in numbers (Frame index) ≡ Some x.id

-- What is known is so, and suits what was agreed.
pub record Agrees (f : Facts) (program : Option Program) (numbers : Numbers) (terms : Terms) : Type 0 where
  pub holds : Holds f (shown_by program numbers)
  pub moving : MovesUnknown program f
  pub numbered : FramesNumbered numbers f
  pub phase : SuitsPhase terms.phase terms.launched f

-- a program that owes something runs
abbrev pub OwesRunning : Program → Type 0
OwesRunning p = (p.owed ≡ None → ⊥) → is_running p.run ≡ true

abbrev pub OwesOf : Option Program → Type 0
OwesOf None = ⊤
OwesOf (Some p) = OwesRunning p

-- one that owes nothing owes as it may
pub nothing_owed : (p : Program) → p.owed ≡ None → OwesRunning p
nothing_owed p e = λ some. absurd (some e)

pub never : {A : Type 0} → {X : Type 0} → (x : X) → None ≡ Some x → A
never x e = absurd (let no : None ≡ Some x = e in cc)

-- nothing known holds of all, whether it was launched or not
pub nothing_holds : (launched : Bool) (so : Facts) → Holds (record nothing_known { launched = launched }) so
nothing_holds launched so = grind arith

-- where nothing is known, what is known fits
pub nothing_agrees : (launched : Bool) (program : Option Program) (numbers : Numbers) (terms : Terms)
    → SuitsPhase terms.phase terms.launched (record nothing_known { launched = launched })
    → Agrees (record nothing_known { launched = launched }) program numbers terms
nothing_agrees launched program numbers terms suits =
    record { holds = nothing_holds launched (shown_by program numbers); moving = grind arith; numbered = grind arith; phase = suits }

-- ---- from one state to another

-- the same breakpoints are set
pub record SameBreaks (so now : Facts) : Type 0 where
  pub source : (path : List ℕ) → so.source path ≡ now.source path
  pub instructions : so.instructions ≡ now.instructions
  pub functions : so.functions ≡ now.functions

same_list : (known so now : List BreakInfo) → so ≡ now → HoldsAt (slice_get known) (slice_get so) → HoldsAt (slice_get known) (slice_get now)
same_list known so now e h = subst (λ (l : List BreakInfo). HoldsAt (slice_get known) (slice_get l)) e h

-- the machine is now known to be in a state, and its breakpoints stay
pub in_agrees : (run : RunState) (f so : Facts) (q : Program) (numbers : Numbers) (terms : Terms) → Holds f so
    → SameBreaks so (shown_of q numbers) → HoldsRun run (state_of q.run) → SuitsPhase terms.phase terms.launched (in_state run f)
    → Agrees (in_state run f) (Some q) numbers terms
in_agrees run f so q numbers terms h same is suits =
    let now = shown_of q numbers in
    record {
      holds = record {
        run = is;
        source = λ path. same_list (f.source path) (so.source path) (now.source path) (same.source path) (h.source path);
        instructions = same_list f.instructions so.instructions now.instructions same.instructions h.instructions;
        functions = same_list f.functions so.functions now.functions same.functions h.functions;
        frame = grind arith;
        register = grind arith;
        byte = grind arith;
      };
      moving = λ _. no_stand_in run f;
      numbered = grind arith;
      phase = suits;
    }

still_is : (f : Facts) → KnowsNoStand f → in_state f.run f ≡ f
still_is f none = λ i. record f {
  frame = λ index. (sym (none.frame index)) i;
  register = λ number. (sym (none.register number)) i;
  byte = λ address. (sym (none.byte address)) i;
}

-- with nothing known of how it stands, what is known fits where the run and the breakpoints do
pub moving_agrees : (f so : Facts) (q : Program) (numbers : Numbers) (terms : Terms) → KnowsNoStand f → Holds f so
    → SameBreaks so (shown_of q numbers) → HoldsRun f.run (state_of q.run) → SuitsPhase terms.phase terms.launched f
    → Agrees f (Some q) numbers terms
moving_agrees f so q numbers terms none h same is suits =
    let e = still_is f none in
    subst (λ (g : Facts). Agrees g (Some q) numbers terms) e
    (in_agrees f.run f so q numbers terms h same is (subst (SuitsPhase terms.phase terms.launched) (sym e) suits))

-- it has ended, and nothing else is another
pub ended_agrees : (code : Option ℤ) (f : Facts) (p : Program) (numbers : Numbers) (terms : Terms) → HoldsRun (Ended code) (Ended code)
    → SuitsPhase terms.phase terms.launched (record f { run = Ended code }) → Agrees f (Some p) numbers terms
    → Agrees (record f { run = Ended code }) (Some (ended code p)) numbers terms
ended_agrees code f p numbers terms is suits h =
    record { holds = assumption; moving = λ runs. absurd (let no : false ≡ true = runs in cc); numbered = h.numbered; phase = suits }

-- what was agreed with an editor that said all
pub suits_as : (phase : Phase) (launched : Bool) (f g : Facts) → is_active_in phase ≡ true → g.launched ≡ f.launched
    → SuitsPhase phase launched f → SuitsPhase phase launched g
suits_as phase launched f g e same h = grind arith

-- the same with one that debugs
pub suits_on : (phase : Phase) (launched : Bool) (f g : Facts) → is_debugging_in phase ≡ true → g.launched ≡ f.launched
    → (IsQuiet f.run → IsQuiet g.run) → (KnowsNoStand f → KnowsNoStand g) → SuitsPhase phase launched f → SuitsPhase phase launched g
suits_on phase launched f g e same quiet stand h = grind arith

-- a program stands still, and its editor said all
pub record Stands (f : Facts) (p : Program) (numbers : Numbers) (terms : Terms) : Type 0 where
  pub active : is_active_in terms.phase ≡ true
  pub still : is_running p.run ≡ false
  pub agrees : Agrees f (Some p) numbers terms

-- With other frames, registers and bytes that are known, what is known fits where these hold: perhaps of another hart, or of other memory.
pub stand_agrees : (f : Facts) (p : Program) (hart : Hart) (memory : List ℕ) (past : List Position) (numbers more : Numbers) (terms : Terms)
    (frame : ℕ → Option FrameInfo) (register byte : ℕ → Option ℕ) → Stands f p numbers terms
    → let q : Program = record p { machine = record p.machine { hart = hart; memory = memory; past = past } } in
    let g : Facts = record f { frame = frame; register = register; byte = byte } in HoldsAt frame (shown_of q more).frame
    → HoldsAt register (shown_of q more).register → HoldsAt byte (shown_of q more).byte → FramesNumbered more g
    → Agrees g (Some q) more terms
stand_agrees f p hart memory past numbers more terms frame register byte s frames registers bytes numbered = record {
  holds = assumption;
  moving = λ runs. absurd (let no : false ≡ true = sym s.still ∙ runs in cc);
  numbered = numbered;
  phase = suits_as terms.phase terms.launched f _ s.active refl s.agrees.phase;
}

-- a mark changes nothing that is to be seen
pub marked_agrees : (mark : Mark) (f : Facts) (program : Option Program) (numbers : Numbers) (terms : Terms)
    → Agrees f program numbers terms → Agrees f (on_program (marked mark) program) numbers terms
marked_agrees mark f None numbers terms h = h
marked_agrees mark f (Some p) numbers terms h =
    elim p.run as (λ r. Agrees f (Some (marked_by r mark p)) numbers terms) [ a_run.Running ↦ assumption | _ ↦ h ]
