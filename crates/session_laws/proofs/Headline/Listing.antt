-- `setBreakpoints`, `setFunctionBreakpoints` and `setInstructionBreakpoints`: the breakpoints that their successes tell
-- are those that are set.
use Rattle.session_laws.proofs.Headline.Common.{[], ap, Asked, Bool, BreakInfo, bytes_eq, cond, cons_option, Err, Facts, false, filter_map, fresh, HoldsAt, if_keeps, IfOk, info_of, InstructionBreakpoint, is_debugging_in, length, List, listed, Lists, ltb, map, None, Numbers, Ok, Option, Program, refl, Refusal, ResponseBody, Result, shown_of, slice_get, Some, succeeded, sym, Table, tells, Terms, true, verified_at, verified_instruction, View, Wanted, with_functions, with_instructions, with_source, ℕ, ◌+◌, ◌∙◌, ◌∷◌, ◌≡◌}
use Rattle.std.proofs.lemmas.Slice.Eq.{bytes_eq-Decides}
use Rattle.answers.specs.Breakpoints.{Answer, entries_of, followed_by, list_of, next_after}
use Rattle.answers.specs.SetBreakpoints as source
use Rattle.answers.specs.SetBreakpoints.{is_own, is_too_much, of_source, set_breakpoints}
use Rattle.answers.specs.SetFunctionBreakpoints as function
use Rattle.answers.specs.SetFunctionBreakpoints.{set_function_breakpoints}
use Rattle.answers.specs.SetInstructionBreakpoints as instruction
use Rattle.answers.specs.SetInstructionBreakpoints.{Place, set_instruction_breakpoints}
use Rattle.mirror.specs.declared.asked.Asked.TheVariants as asks
use Rattle.protocol.specs.declared.set_breakpoints.SetBreakpointsArguments.{SetBreakpointsArguments}
use Rattle.protocol.specs.declared.set_breakpoints.SourceBreakpoint.{SourceBreakpoint}
use Rattle.protocol.specs.declared.set_function_breakpoints.SetFunctionBreakpointsArguments.{SetFunctionBreakpointsArguments}
use Rattle.protocol.specs.declared.set_instruction_breakpoints.SetInstructionBreakpointsArguments.{SetInstructionBreakpointsArguments}
use Rattle.replies.specs.declared.response.ResponseBody.TheVariants as body
use Rattle.session_laws.proofs.Headline.Agreeing.{Agrees, KnowsNoStand, never, suits_on}

-- ---- the entries of an answer, and the list that is set

abbrev infos : List Wanted → List BreakInfo
infos list = map info_of (map fresh list)

told_list : {A P E : Type 0} (judged : A → Result P _) (entry : ℕ → A → Result P _ → E) (wanted : ℕ → P → Wanted) (tells : E → Option BreakInfo)
    → ((next : ℕ) (a : A) (place : P) → tells (entry next a (Ok place)) ≡ Some (info_of (fresh (wanted next place))))
    → ((next : ℕ) (a : A) (problem : _) → tells (entry next a (Err problem)) ≡ None)
    → (next : ℕ) (asked : List A) → filter_map tells (entries_of judged entry next asked) ≡ infos (list_of judged wanted next asked)
told_list {P = P} judged entry wanted tells ok err next [] = refl
told_list {P = P} judged entry wanted tells ok err next (a ∷ others) =
    by (judged a) (told_list judged entry wanted tells ok err (next_after next (judged a)) others) where
      by : (r : Result P _)
          → filter_map tells (entries_of judged entry (next_after next r) others) ≡ infos (list_of judged wanted (next_after next r) others)
          → cons_option (tells (entry next a r)) (filter_map tells (entries_of judged entry (next_after next r) others))
          ≡ infos (followed_by wanted next r (list_of judged wanted (next_after next r) others))
      by (Ok place) rest =
          ap (λ (x : Option BreakInfo). cons_option x (filter_map tells (entries_of judged entry (next + 1) others))) (ok next a place)
          ∙ ap (λ (l : List BreakInfo). info_of (fresh (wanted next place)) ∷ l) rest
      by (Err problem) rest =
          ap (λ (x : Option BreakInfo). cons_option x (filter_map tells (entries_of judged entry next others))) (err next a problem) ∙ rest

source_told : (table : Table) (base next : ℕ) (asked : List SourceBreakpoint)
    → filter_map verified_at (entries_of (source.judged true table base) (source.entry base) next asked) ≡ infos (list_of (source.judged true table base) source.wanted next asked)
source_told table base next asked =
    told_list (source.judged true table base) (source.entry base) source.wanted verified_at (λ _ _ _. refl) (λ _ _ _. refl) next asked

none_told : (table : Table) (base next : ℕ) (asked : List SourceBreakpoint)
    → filter_map verified_at (entries_of (source.judged false table base) (source.entry base) next asked) ≡ []
none_told table base next [] = refl
none_told table base next (a ∷ others) = none_told table base next others

-- of those at addresses: at instructions, and at functions
placed_told : {A : Type 0} (judged : A → Result Place _) (next : ℕ) (asked : List A)
    → filter_map verified_instruction (entries_of judged instruction.entry next asked)
    ≡ infos (list_of judged instruction.wanted next asked)
placed_told judged next asked =
    told_list judged instruction.entry instruction.wanted verified_instruction (λ _ _ _. refl) (λ _ _ _. refl) next asked

module _ (f : Facts) (p : Program) (numbers : Numbers) (terms : Terms) (taken : is_debugging_in terms.phase ≡ true)
    (h : Agrees f (Some p) numbers terms) where
  -- ---- what is known then

  -- other breakpoints are known, and set
  breaks_agree : (source : List ℕ → List BreakInfo) (instructions functions : List BreakInfo) (lists : Lists)
      → let q : Program = record p { machine = record p.machine { lists = lists } } in
      ((path : List ℕ) → HoldsAt (slice_get (source path)) (slice_get ((shown_of q numbers).source path)))
      → HoldsAt (slice_get instructions) (slice_get (shown_of q numbers).instructions)
      → HoldsAt (slice_get functions) (slice_get (shown_of q numbers).functions)
      → Agrees (record f { source = source; instructions = instructions; functions = functions }) (Some q) numbers terms
  breaks_agree source instructions functions lists sources those others =
      let g : Facts = record f { source = source; instructions = instructions; functions = functions } in
      let stand : KnowsNoStand f → KnowsNoStand g = λ n. record { frame = n.frame; register = n.register; byte = n.byte } in
      record {
        holds = assumption;
        moving = λ runs. stand (h.moving runs);
        numbered = h.numbered;
        phase = suits_on terms.phase terms.launched f g taken refl (λ quiet. quiet) stand h.phase;
      }

  -- a source that is not the program's has none
  other_source : (path : List ℕ) → Agrees (record f { source = listed path [] f.source }) (Some p) numbers terms
  other_source path =
      breaks_agree (listed path [] f.source) f.instructions f.functions p.machine.lists
      (λ asked. if_keeps (λ (l : List BreakInfo). HoldsAt (slice_get l) (slice_get ((shown_of p numbers).source asked)))
      (bytes_eq path asked) [] (f.source asked) (λ _ place x e. never x e) (λ _. h.holds.source asked)) h.holds.instructions h.holds.functions

  -- the program's own has those that were set
  own_source : (path : List ℕ) (breaks : List BreakInfo) (list : List Wanted) → path ≡ p.path → breaks ≡ infos list
      → Agrees (record f { source = listed path breaks f.source }) (Some (with_source list p)) numbers terms
  own_source path breaks list same is =
      rw (same, is) (breaks_agree (listed p.path (infos list) f.source) f.instructions f.functions (with_source list p).machine.lists
      (λ asked. by (bytes_eq p.path asked) asked (h.holds.source asked)) h.holds.instructions h.holds.functions) where
        by : (b : Bool) (asked : List ℕ)
            → HoldsAt (slice_get (f.source asked)) (slice_get (cond b (map info_of p.machine.lists.source) []))
            → HoldsAt (slice_get (cond b (infos list) (f.source asked))) (slice_get (cond b (infos list) []))
        by true asked old = λ place x e. e
        by false asked old = old

  instructions_so : (list : List Wanted) → Agrees (record f { instructions = infos list }) (Some (with_instructions list p)) numbers terms
  instructions_so list =
      breaks_agree f.source (infos list) f.functions (with_instructions list p).machine.lists h.holds.source (λ place x e. e) h.holds.functions

  functions_so : (list : List Wanted) → Agrees (record f { functions = infos list }) (Some (with_functions list p)) numbers terms
  functions_so list =
      breaks_agree f.source f.instructions (infos list) (with_functions list p).machine.lists h.holds.source h.holds.instructions
      (λ place x e. e)

  -- ---- the answers

  abbrev Told : Asked → Program → ResponseBody → Type 0
  Told asked q b = Agrees (succeeded b asked f) (Some q) numbers terms

  -- what an answer tells is so: by the list that it sets, or without one
  abbrev Sets : Asked → (List Wanted → Program → Program) → Answer → Type 0
  Sets asked set answer =
      IfOk answer.result (λ b. (answer.list ≡ None → Told asked p b)
      × ((list : List Wanted) → answer.list ≡ Some list → Told asked (set list p) b))

  sets_own : (path : List ℕ) (own : Bool) → bytes_eq path p.path ≡ own
      → (table : Table) (view : View) (next : ℕ) (asked : List SourceBreakpoint)
      → Sets (asks.SetBreakpoints (Some path)) with_source (of_source own table view next asked)
  sets_own path true same table view next asked = (
    λ none. absurd (cc),
    λ list is.
        let those : list_of (source.judged true table view.line_base) source.wanted next asked ≡ list = cc in
        own_source path _ list ((bytes_eq-Decides path p.path).0 same) (source_told table view.line_base next asked ∙ ap infos those),
  )
  sets_own path false other table view next asked =
      (λ _. rw (none_told table view.line_base next asked) (other_source path), λ list is. never list is)

  by_path : (path : Option (List ℕ)) (table : Table) (view : View) (next : ℕ) (asked : List SourceBreakpoint) → view.path ≡ p.path
      → Sets (asks.SetBreakpoints path) with_source (of_source (is_own view.path path) table view next asked)
  by_path None table view next asked same = (λ _. h, λ list is. never list is)
  by_path (Some path) table view next asked same =
      sets_own path (bytes_eq path view.path) (ap (λ (x : List ℕ). bytes_eq path x) (sym same)) table view next asked

  -- an answer that sets a list at addresses, unless it is too long, where the facts with that list are these
  sets_placed : {A : Type 0} (judged : A → Result Place _) (asked : Asked) (set : List Wanted → Program → Program)
      (made : List InstructionBreakpoint → ResponseBody) (facts : List BreakInfo → Facts) (much : Bool) (refusal : Refusal)
      → ((entries : List InstructionBreakpoint) → succeeded (made entries) asked f ≡ facts (filter_map verified_instruction entries))
      → ((list : List Wanted) → Agrees (facts (infos list)) (Some (set list p)) numbers terms) → (next : ℕ) (those : List A)
      → Sets asked set (cond much (record { result = Err refusal; list = None }) (record {
        result = Ok (made (entries_of judged instruction.entry next those));
        list = Some (list_of judged instruction.wanted next those);
      }))
  sets_placed judged asked set made facts much refusal tells so next those =
      if_keeps (Sets asked set) much _ _ (λ _. tt) (λ _. (
        λ none. absurd (cc),
        λ list is.
            let wanted : list_of judged instruction.wanted next those ≡ list = cc in
            rw (tells (entries_of judged instruction.entry next those) ∙ ap facts (placed_told judged next those ∙ ap infos wanted))
            (so list),
      ))

  pub source_set_so : (arguments : SetBreakpointsArguments) (table : Table) (view : View) (next : ℕ) → view.path ≡ p.path
      → Sets (asks.SetBreakpoints arguments.source.path) with_source (set_breakpoints table view next arguments)
  source_set_so arguments table view next same =
      if_keeps (Sets (asks.SetBreakpoints arguments.source.path) with_source) (is_too_much arguments.breakpoints) _ _
      (λ _. tt) (λ _. by_path arguments.source.path table view next arguments.breakpoints same)

  pub instructions_set_so : (arguments : SetInstructionBreakpointsArguments) (size next : ℕ)
      → Sets asks.SetInstructionBreakpoints with_instructions (set_instruction_breakpoints size next arguments)
  instructions_set_so arguments size next =
      sets_placed (instruction.judged size) asks.SetInstructionBreakpoints with_instructions
      (λ entries. body.SetInstructionBreakpoints (record { breakpoints = entries })) (λ list. record f { instructions = list })
      (ltb 1024 (length arguments.breakpoints)) _ (λ _. refl) instructions_so next arguments.breakpoints

  pub functions_set_so : (arguments : SetFunctionBreakpointsArguments) (table : Table) (size next : ℕ)
      → Sets asks.SetFunctionBreakpoints with_functions (set_function_breakpoints table size next arguments)
  functions_set_so arguments table size next =
      sets_placed (function.judged table size) asks.SetFunctionBreakpoints with_functions
      (λ entries. body.SetFunctionBreakpoints (record { breakpoints = entries })) (λ list. record f { functions = list })
      (ltb 1024 (length arguments.breakpoints)) _ (λ _. refl) functions_so next arguments.breakpoints
