-- A program whose path, labels and logpoints are short texts, and whose lists are short: whatever is done to it.
--
-- It has no more than 1,024 breakpoints of each kind, so no more than three times as many stop it at once.
use Rattle.session_laws.proofs.Messages.Common.{[], All, All-head, All-map, All-nil, All-tail, All-weaker, AllByRecursion, AllocError, arith, assembled, Bool, by_tick, checked, Command, cons_option, counted, Debugged, entered, error_of, false, filter_map, first_program, fresh, Goal, Hart, HasImage, ids_where, if_keeps, IfSome, is_hit, IsPath, IsTextWithin, IsTick, just_loaded, Label, left, length, length-append, length-map, List, Lists, log_at, log_of, looked_at, map, Mark, marked, marked_by, moved, moved_as, None, not, Ok, Option, Placed, plain_passes, Program, refl, reset, restarted, Result, SetBreakpoints, SetFunctionBreakpoints, SetInstructionBreakpoints, slice_get, Some, stands, stops, subst, suc, sym, the_tick, Tick, told, undone, Wanted, with_list, zero, ℕ, ◌++◌, ◌∷◌, ◌≡◌, ◌≤◌}
use Rattle.std.proofs.Common.{filter}
use Rattle.std.proofs.lemmas.List.Filters.{length-filter_both}
use Rattle.debuggee.specs.declared.run.Run.TheVariants as run
use Rattle.stepping.specs.Loading.{no_breakpoints, not_hit}
use Rattle.text_laws.specs.Labels.{IsNameWithin}
use Rattle.text_laws.proofs.Labels.{labels_are_texts, programs_are_short}
use Rattle.session_laws.proofs.Messages.Words.{IsPlainWithin}

-- a text of a request or of a program
abbrev pub IsShortText : List ℕ → Type 0
IsShortText text = IsTextWithin 1048576 text

abbrev pub IsShortLabel : Label → Type 0
IsShortLabel label = IsPlainWithin 1048576 label.0

-- what a logpoint says, if a breakpoint is one
abbrev pub SaysShort : Option (List ℕ) → Type 0
SaysShort log = IfSome log IsShortText

abbrev pub LogsShort : Placed → Type 0
LogsShort b = SaysShort b.log

-- at most this many, and each is so
abbrev pub Few : {A : Type 0} → (A → Type 0) → ℕ → List A → Type 0
Few P most list = All P list × (length list ≤ most)

-- ---- breakpoints

pub record HasFew (lists : Lists) : Type 0 where
  pub source : Few LogsShort 1024 lists.source
  pub instructions : Few LogsShort 1024 lists.instructions
  pub functions : Few LogsShort 1024 lists.functions
  pub ids : length lists.ids ≤ 3072

no_breaks : HasFew no_breakpoints
no_breaks =
    let none : Few LogsShort 1024 [] = (All-nil LogsShort, omega arith) in
    record { source = none; instructions = none; functions = none; ids = omega arith }

mapped : {A : Type 0} (f : A → Placed) (list : List A) → Few (λ a. LogsShort (f a)) 1024 list → Few LogsShort 1024 (map f list)
mapped f list h = (All-map LogsShort f list h.0, omega (arith, length-map list f, h.1))

pub none_named : (lists : Lists) → HasFew lists → HasFew (record lists { ids = []; logs = [] })
none_named lists h = record { source = h.source; instructions = h.instructions; functions = h.functions; ids = omega arith }

few_where : (test : Placed → Bool) (list : List Placed) → length (ids_where test list) ≤ length list
few_where test list =
    omega (
      arith,
      length-map (filter test list) (λ (b : Placed). b.id),
      length-filter_both test (λ (b : Placed). not (test b)) (λ b. refl) list,
    )

-- the ids of three lists
few_ids : (test : Placed → Bool) (lists : Lists) → HasFew lists
    → length (ids_where test lists.source ++ ids_where test lists.instructions ++ ids_where test lists.functions) ≤ 3072
few_ids test lists h =
    let xs : List ℕ = ids_where test lists.source in
    let ys : List ℕ = ids_where test lists.instructions in
    let zs : List ℕ = ids_where test lists.functions in
    omega (
      arith,
      length-append (xs ++ ys) zs,
      length-append xs ys,
      few_where test lists.source,
      few_where test lists.instructions,
      few_where test lists.functions,
      h.source.1,
      h.instructions.1,
      h.functions.1,
    )

-- hits are counted, and what logpoints say stays
checked_few : (pc : ℕ) (hart : Hart) (memory : List ℕ) (lists : Lists) → HasFew lists → HasFew (checked pc hart memory lists)
checked_few pc hart memory lists h = record {
  source = all lists.source h.source;
  instructions = all lists.instructions h.instructions;
  functions = all lists.functions h.functions;
  ids = few_ids (stops pc hart memory) lists h;
} where
  one : (b : Placed) → LogsShort b → LogsShort (counted pc hart memory b)
  one b says = if_keeps LogsShort (is_hit pc hart memory b) _ _ (λ _. says) (λ _. says)

  all : (list : List Placed) → Few LogsShort 1024 list → Few LogsShort 1024 (map (counted pc hart memory) list)
  all list few =
      mapped (counted pc hart memory) list
      (All-weaker LogsShort (λ (b : Placed). LogsShort (counted pc hart memory b)) one list few.0, few.1)

looked_few : (g : Goal) (d : Debugged) → HasFew d.lists → HasFew (looked_at g d).lists
looked_few g d h = grind (arith, none_named d.lists h, few_ids (stands d.hart.pc d.hart d.memory) d.lists h)

tick_few : (before after : Debugged) (answer : Result Tick AllocError) → IsTick before answer after → HasFew before.lists
    → HasFew after.lists
tick_few before after answer t h =
    by_tick before after answer t
    (λ due x. subst (λ (d : Debugged). HasFew d.lists) (sym x.1) (checked_few before.hart.pc before.hart before.memory before.lists h))
    (λ due turns x. rw x.1 (looked_few before.goal (undone before) (grind arith)))
    (λ due forward m. let d = moved_as before after in
    rw m.settles.1 (grind (arith, none_named d.lists h, checked_few d.hart.pc d.hart d.memory d.lists h)))

-- what some logpoints say
says_at : (list : List Placed) (place : ℕ) → All LogsShort list → SaysShort (log_of (slice_get list place))
says_at [] place h = tt
says_at (b ∷ list) zero h = All-head LogsShort b list h
says_at (b ∷ list) (suc place) h = says_at list place (All-tail LogsShort b list h)

pub logs_are_short : (lists : Lists) (places : List ℕ) → All LogsShort lists.source
    → AllByRecursion IsShortText (filter_map (log_at lists) places)
logs_are_short lists [] h = tt
logs_are_short lists (place ∷ places) h =
    let others = logs_are_short lists places h in
    elim (log_at lists place) as (λ log. SaysShort log → AllByRecursion IsShortText (cons_option log (filter_map (log_at lists) places)))
    [ None ↦ λ _. others | Some text ↦ λ one. (one, others) ] (says_at lists.source place h)

-- ---- programs

pub record IsShortOf (file : List ℕ) (names : List Label) (lists : Lists) : Type 0 where
  pub path : IsShortText file
  pub labels : All IsShortLabel names
  pub few : HasFew lists

-- much of what is done to a program changes none of the three
abbrev pub IsShort : Program → Type 0
IsShort p = IsShortOf p.path p.image.lines.labels p.machine.lists

pub loaded_short : (path text : List ℕ) (stop_on_entry : Bool) (size : ℕ) → error_of text size ≡ None → IsShortText path
    → IsShort (just_loaded (assembled text) path stop_on_entry size)
loaded_short path text stop_on_entry size e h =
    let few : length text ≤ 1048576 = programs_are_short text size e in
    record {
      path = h;
      labels =
          All-weaker (λ (label : Label). IsNameWithin (length text) label.0) IsShortLabel
          (λ label l. record { plain = plain_passes label.0 l.0; few = omega (arith, l.1.1, few) })
          (assembled text).lines.labels (labels_are_texts text);
      few = no_breaks;
    }

-- the program that is given at the start, if one is
pub first_short : (given : Option (List ℕ × List ℕ)) (size : ℕ) → HasImage given size → IsPath given
    → IfSome (first_program given size) IsShort
first_short None size image path = tt
first_short (Some program) size image path = loaded_short program.0 program.1 false size image path

-- one with other breakpoints
with_few : (p : Program) (lists : Lists) → IsShort p → HasFew lists → IsShortOf p.path p.image.lines.labels lists
with_few p lists h few = record { path = h.path; labels = h.labels; few = few }

pub restarted_short : (p : Program) → IsShort p → IsShort (restarted p)
restarted_short p h =
    let again : (list : List Placed) → Few LogsShort 1024 list → Few LogsShort 1024 (map reset list) = mapped reset in
    with_few p (not_hit p.machine.lists) h (record {
      source = again p.machine.lists.source h.few.source;
      instructions = again p.machine.lists.instructions h.few.instructions;
      functions = again p.machine.lists.functions h.few.functions;
      ids = h.few.ids;
    })

pub marked_short : (m : Mark) (p : Program) → IsShort p → IsShort (marked m p)
marked_short m p h = elim p.run as (λ r. IsShort (marked_by r m p)) [ run.Running ↦ h | _ ↦ h ]

pub entered_short : (p : Program) → IsShort p → IsShort (entered p)
entered_short p h = let d : Debugged = p.machine in with_few p _ h (checked_few d.hart.pc d.hart d.memory d.lists h.few)

pub moved_short : (p : Program) → IsShort p → IsShort (moved p)
moved_short p h = let t = the_tick p.machine in with_few p t.after.lists h (tick_few p.machine t.after (Ok t.tick) t.is h.few)

pub told_short : (p : Program) → IsShort p → IsShort (told p)
told_short p h = with_few p _ h (none_named p.machine.lists h.few)

pub left_short : (p : Program) → IsShort p → IsShort (left p)
left_short p h = with_few p no_breakpoints h no_breaks

pub listed_short : (c : Command) (list : List Wanted) → Few (λ w. SaysShort w.log) 1024 list → (p : Program) → IsShort p
    → IsShort (with_list c list p)
listed_short (SetBreakpoints arguments) list l p h =
    with_few p _ h
    (record { source = mapped fresh list l; instructions = h.few.instructions; functions = h.few.functions; ids = omega arith })
listed_short (SetFunctionBreakpoints arguments) list l p h =
    with_few p _ h (record { source = h.few.source; instructions = h.few.instructions; functions = mapped fresh list l; ids = omega arith })
listed_short (SetInstructionBreakpoints arguments) list l p h =
    with_few p _ h (record { source = h.few.source; instructions = mapped fresh list l; functions = h.few.functions; ids = omega arith })
listed_short other list l p h = h
