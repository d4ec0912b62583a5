-- What the editor is told of the program has numbers of 32 bits: breakpoints have such numbers, and so have lines and an end.
use Rattle.session.proofs.Common.{[], All, AllocError, and_from, ap, arith, Bool, by_tick, cases_Bool, checked, Command, counted, Debugged, Debuggee, ended, entered, entry_checked, entry_tick, false, filter, first_run, fresh, Goal, Hart, hit_at_pc, ids_where, if_keeps, inl, inr, Instr, int_le, is_ended, is_hit, is_running, is_word, IsTick, just_loaded, left, List, Lists, log_event, looked_at, map, Mark, marked, marked_by, moved, moved_as, neg_ℤ, next_tick, None, not, Ok, on_program, Option, Outcome, output_event, owing_by, Placed, pos, Position, Program, reason_of, refl, reset, restarted, Result, resumed, ReverseGo, Run, SetBreakpoints, SetFunctionBreakpoints, SetInstructionBreakpoints, settled, Some, stands, Stepped, stop_event, stopped, subst, text_of, the_tick, Tick, told, true, undone, undone_by, Wanted, Why, with_hart, with_list, written, ℕ, ℤ, ◌&&◌, ◌++◌, ◌+◌, ◌<◌, ◌^◌, ◌∙◌, ◌∷◌, ◌≡◌, ◌≤ℤ◌}
use Rattle.std.specs.List.{AllByRecursion, list_all}
use Rattle.std.proofs.lemmas.Int.{ints}
use Rattle.debuggee.specs.Programs.{first_mark}
use Rattle.debuggee.specs.declared.run.Run.TheVariants as run
use Rattle.debuggee.specs.declared.run.Why.TheVariants as why
use Rattle.image.specs.declared.Image.{Image}
use Rattle.replies.specs.Events.{IsProperEvent}
use Rattle.replies.specs.declared.event.Event.TheVariants as event
use Rattle.rv32i.specs.Laws.{IsSignedWord}
use Rattle.rv32i.specs.declared.stepped.Stepped.TheVariants as stepped
use Rattle.image.specs.Memory.{first_address}
use Rattle.range_laws.specs.Debugging.{HartInRange, ImageInRange}
use Rattle.range_laws.specs.Machines.{AreBytes}
use Rattle.range_laws.proofs.Programs.{ended_in_range, entered_in_range, first_run_in_range, just_loaded_in_range, left_in_range, moved_in_range, restarted_in_range, resumed_in_range, stopped_in_range, told_in_range, with_functions_in_range, with_hart_in_range, with_instructions_in_range, with_source_in_range, written_in_range}
use Rattle.stepping.specs.RunLaws.{HasSignedCode}
use Rattle.stepping.proofs.Exiting.{ends_with_codes, no_end}
use Rattle.handlers.specs.Disconnect.{departed}

-- ---- numbers

abbrev pub AreWords : List ℕ → Type 0
AreWords ids = AllByRecursion (λ n. is_word n ≡ true) ids

words_append : (xs ys : List ℕ) → AreWords xs → AreWords ys → AreWords (xs ++ ys)
words_append [] ys a b = b
words_append (x ∷ xs) ys a b = (a.0, words_append xs ys a.1 b)

all_words : (ids : List ℕ) → AreWords ids → list_all is_word ids ≡ true
all_words [] h = refl
all_words (n ∷ ids) h = ap (λ b. b && list_all is_word ids) h.0 ∙ all_words ids h.1

-- ---- breakpoints

abbrev pub AreNumbered : List Placed → Type 0
AreNumbered list = AreWords (map (λ b. b.id) list)

-- breakpoints that are made of what has such numbers
made_numbered : {A : Type 0} (f : A → Placed) (number : A → ℕ) → ((a : A) → (f a).id ≡ number a) → (list : List A)
    → AreWords (map number list) → AreNumbered (map f list)
made_numbered f number same [] h = tt
made_numbered f number same (a ∷ list) h = (ap is_word (same a) ∙ h.0, made_numbered f number same list h.1)

filter_numbered : (f : Placed → Bool) (list : List Placed) → AreNumbered list → AreNumbered (filter f list)
filter_numbered f [] h = tt
filter_numbered f (b ∷ list) h =
    if_keeps AreNumbered (f b) _ _ (λ _. (h.0, filter_numbered f list h.1)) (λ _. filter_numbered f list h.1)

counted_numbered : (pc : ℕ) (hart : Hart) (memory : List ℕ) (list : List Placed) → AreNumbered list
    → AreNumbered (map (counted pc hart memory) list)
counted_numbered pc hart memory =
    made_numbered (counted pc hart memory) (λ b. b.id)
    (λ b. if_keeps (λ (x : Placed). x.id ≡ b.id) (is_hit pc hart memory b) _ _ (λ _. refl) (λ _. refl))

pub record AreOrderly (lists : Lists) : Type 0 where
  pub source : AreNumbered lists.source
  pub instructions : AreNumbered lists.instructions
  pub functions : AreNumbered lists.functions
  pub ids : AreWords lists.ids

-- the numbers of those that pass a test, as a check joins them
ids_orderly : (f : Placed → Bool) (lists : Lists) → AreOrderly lists
    → AreWords (ids_where f lists.source ++ ids_where f lists.instructions ++ ids_where f lists.functions)
ids_orderly f lists h =
    let passes = filter_numbered f in
    words_append (ids_where f lists.source ++ ids_where f lists.instructions) _
    (words_append (ids_where f lists.source) _ (passes lists.source h.source) (passes lists.instructions h.instructions))
    (passes lists.functions h.functions)

checked_orderly : (pc : ℕ) (hart : Hart) (memory : List ℕ) (lists : Lists) → AreOrderly lists → AreOrderly (checked pc hart memory lists)
checked_orderly pc hart memory lists h = record {
  source = counted_numbered pc hart memory lists.source h.source;
  instructions = counted_numbered pc hart memory lists.instructions h.instructions;
  functions = counted_numbered pc hart memory lists.functions h.functions;
  ids = ids_orderly (Rattle.breakpoints.specs.Stops.stops pc hart memory) lists h;
}

none_named : (lists : Lists) → AreOrderly lists → AreOrderly (record lists { ids = []; logs = [] })
none_named lists h = assumption

-- ---- a tick

settled_orderly : (s : Stepped) (instr : Option Instr) (before d : Debugged) → AreOrderly d.lists
    → AreOrderly (settled s instr before d).lists
settled_orderly (stepped.Exit code) instr before d h = none_named d.lists h
settled_orderly (stepped.Trap cause) instr before d h = none_named d.lists h
settled_orderly _ instr before d h = checked_orderly d.hart.pc d.hart d.memory d.lists h

undone_orderly : (past : List Position) (d : Debugged) → AreOrderly d.lists → AreOrderly (undone_by past d).lists
undone_orderly past d h = grind arith

looked_at_orderly : (goal : Goal) (d : Debugged) → AreOrderly d.lists → AreOrderly (looked_at goal d).lists
looked_at_orderly ReverseGo d h = assumption (ids_orderly (stands d.hart.pc d.hart d.memory) d.lists h)
looked_at_orderly _ d h = none_named d.lists h

tick_orderly : (before after : Debugged) (answer : Result Tick AllocError) → IsTick before answer after → AreOrderly before.lists
    → AreOrderly after.lists
tick_orderly before after answer t h =
    by_tick before after answer t
    (λ _ e. rw e.1 (checked_orderly before.hart.pc before.hart before.memory before.lists h))
    (λ _ _ e. rw e.1 (looked_at_orderly before.goal (undone before) (undone_orderly before.past before h)))
    (λ _ _ m. rw m.settles.1 (settled_orderly m.stepped m.instr before (moved_as before after) h))

-- ---- the program

-- lines and addresses of its line table have 32 bits
abbrev pub IsNarrowImage : Image → Type 0
IsNarrowImage image = All Rattle.assembler.specs.Assembled.IsNarrowRow image.lines.rows

abbrev pub FitsOwed : Option Tick → Type 0
FitsOwed None = Unit {0}
FitsOwed (Some tick) = HasSignedCode tick.outcome

-- Its image and its breakpoints are, so is what it owes, and so are its registers and memory. Where it does not run, it has no
-- mark.
pub record Orderly (p : Program) : Type 0 where
  pub image : IsNarrowImage p.image
  pub lists : AreOrderly p.machine.lists
  pub owed : FitsOwed p.owed
  pub range : Rattle.range_laws.specs.Programs.ProgramInRange p
  pub unmarked : is_running p.run ≡ false → p.mark ≡ None

-- the same of the program that is debugged, if there is one
abbrev pub OrderlyOf : Option Program → Type 0
OrderlyOf None = Unit {0}
OrderlyOf (Some p) = Orderly p

abbrev pub OrderlyIn : Debuggee → Type 0
OrderlyIn d = OrderlyOf d.program

pub ids_are_words : (p : Program) → Orderly p → AreWords p.machine.lists.ids
ids_are_words p h = h.lists.ids

pub owed_fits : (p : Program) (tick : Tick) → p.owed ≡ Some tick → Orderly p → HasSignedCode tick.outcome
owed_fits p tick e h = subst FitsOwed e h.owed

-- What is done to a program keeps it so: by what was so before, and by what is named here.

pub stopped_orderly : (why : Why) (p : Program) → Orderly p → Orderly (stopped why p)
stopped_orderly why p h = assumption (stopped_in_range why p h.range)

pub ended_orderly : (code : Option ℤ) (p : Program) → Orderly p → Orderly (ended code p)
ended_orderly code p h = assumption (ended_in_range code p h.range)

pub told_orderly : (p : Program) → Orderly p → Orderly (told p)
told_orderly p h = assumption (told_in_range p h.range)

pub left_orderly : (p : Program) → Orderly p → Orderly (left p)
left_orderly p h = assumption (left_in_range p h.range)

owing_fits : (printed : Option ℤ) (outcome : Outcome) (logs : List ℕ) → HasSignedCode outcome → FitsOwed (owing_by printed outcome logs)
owing_fits printed outcome logs h = grind arith

pub entered_orderly : (p : Program) → Orderly p → Orderly (entered p)
entered_orderly p h =
    let d = p.machine in
    assumption (
      checked_orderly d.hart.pc d.hart d.memory d.lists h.lists,
      owing_fits None (entry_tick d).outcome (entry_checked d).lists.logs (no_end (hit_at_pc d) false),
      entered_in_range p h.range,
    )

pub next_fits : (p : Program) → HasSignedCode (next_tick p).outcome
next_fits p = let t = the_tick p.machine in ends_with_codes p.machine t.after t.tick t.is

pub moved_orderly : (p : Program) → Orderly p → Orderly (moved p)
moved_orderly p h =
    let t = the_tick p.machine in
    assumption (
      tick_orderly p.machine t.after (Ok t.tick) t.is h.lists,
      owing_fits (next_tick p).printed (next_tick p).outcome t.after.lists.logs (next_fits p),
      moved_in_range p h.range,
    )

-- one that runs does not stand still
runs_on : {A : Type 0} (r : Run) → r ≡ run.Running → is_running r ≡ false → A
runs_on r runs stands = absurd (cc)

marked_by_orderly : (r : Run) (mark : Mark) (p : Program) → p.run ≡ r → Orderly p → Orderly (marked_by r mark p)
marked_by_orderly run.Running mark p runs h = assumption (runs_on {A = first_mark p.mark (Some mark) ≡ None} p.run runs)
marked_by_orderly (run.Stopped why) mark p stands h = h
marked_by_orderly (run.Ended code) mark p has_ended h = h

pub marked_orderly : (mark : Mark) (p : Program) → Orderly p → Orderly (marked mark p)
marked_orderly mark p h = marked_by_orderly p.run mark p refl h

pub resumed_orderly : (goal : Goal) (p : Program) → Orderly p → Orderly (resumed goal p)
resumed_orderly goal p h = assumption (resumed_in_range goal p h.range, runs_on {A = (resumed goal p).mark ≡ None} run.Running refl)

pub first_run_orderly : (p : Program) → Orderly p → Orderly (first_run p)
first_run_orderly p h = assumption (first_run_in_range p h.range, runs_on {A = (first_run p).mark ≡ None} run.Running refl)

pub restarted_orderly : (p : Program) → Orderly p → Orderly (restarted p)
restarted_orderly p h =
    let lists = p.machine.lists in
    let resets = made_numbered reset (λ b. b.id) (λ b. refl) in
    assumption (
      resets lists.source h.lists.source,
      resets lists.instructions h.lists.instructions,
      resets lists.functions h.lists.functions,
      restarted_in_range p h.range,
    )

pub departed_orderly : (ends stands : Bool) (p : Program) → Orderly p → Orderly (departed ends stands p)
departed_orderly ends stands p h =
    if_keeps Orderly (ends && not (is_ended p.run)) _ _ (λ _. ended_orderly None p h)
    (λ _. if_keeps Orderly (stands && is_running p.run) _ _ (λ _. stopped_orderly why.Pause p h) (λ _. h))

pub hart_orderly : (hart : Hart) (p : Program) → HartInRange hart → Orderly p → Orderly (with_hart hart p)
hart_orderly hart p fits h = assumption (with_hart_in_range hart fits p h.range)

pub written_orderly : (address : ℕ) (bytes : List ℕ) (p : Program) → AreBytes bytes → Orderly p → Orderly (written address bytes p)
written_orderly address bytes p fit h = assumption (written_in_range address bytes fit p h.range)

-- breakpoints that are set have their numbers
pub listed_orderly : (command : Command) (list : List Wanted) → AreWords (map (λ w. w.id) list) → (p : Program) → Orderly p
    → Orderly (with_list command list p)
listed_orderly (SetBreakpoints arguments) list ids p h =
    assumption (made_numbered fresh (λ w. w.id) (λ w. refl) list ids, with_source_in_range list p h.range)
listed_orderly (SetInstructionBreakpoints arguments) list ids p h =
    assumption (made_numbered fresh (λ w. w.id) (λ w. refl) list ids, with_instructions_in_range list p h.range)
listed_orderly (SetFunctionBreakpoints arguments) list ids p h =
    assumption (made_numbered fresh (λ w. w.id) (λ w. refl) list ids, with_functions_in_range list p h.range)
listed_orderly other list ids p h = h

pub loaded_orderly : (image : Image) (path : List ℕ) (stop_on_entry : Bool) (size : ℕ) → IsNarrowImage image → ImageInRange image
    → first_address + size < 2 ^ 32 → Orderly (just_loaded image path stop_on_entry size)
loaded_orderly image path stop_on_entry size narrow fits ends =
    assumption (just_loaded_in_range image path stop_on_entry size fits ends)

pub with_orderly : (f : Program → Program) → ((p : Program) → Orderly p → Orderly (f p)) → (program : Option Program) → OrderlyOf program
    → OrderlyOf (on_program f program)
with_orderly f keeps None h = tt
with_orderly f keeps (Some p) h = keeps p h

-- ---- events

pub stop_is_proper : (why : Why) (ids : List ℕ) → AreWords ids → IsProperEvent (stop_event why ids)
stop_is_proper why ids h = by (text_of why) where
  by : (text : Option (List ℕ)) → IsProperEvent (event.Stopped (record { hit_breakpoint_ids = ids; reason = reason_of why; text = text }))
  by None = ap (λ b. b && true) (all_words ids h)
  by (Some text) = ap (λ b. b && true) (all_words ids h)

pub output_is_proper : (number : ℤ) → IsProperEvent (output_event number)
output_is_proper number = refl

pub log_is_proper : (text : List ℕ) → IsProperEvent (log_event text)
log_is_proper text = refl

at_most : (a b : ℤ) → a ≤ℤ b → int_le a b ≡ true
at_most a b h = elim (cases_Bool (int_le a b)) [ inl t ↦ t | inr f ↦ absurd (omega (arith, ints, h, f)) ]

pub exit_is_proper : (code : ℤ) → IsSignedWord code → IsProperEvent (event.Exited (record { exit_code = code }))
exit_is_proper code h =
    ap (λ b. b && true) (and_from _ _ (at_most (neg_ℤ (pos 2147483648)) code h.least) (at_most code (pos 2147483647) h.greatest))
