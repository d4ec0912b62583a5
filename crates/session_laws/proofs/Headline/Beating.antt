-- Each beat of a slice leads to what is known and fits.
use Rattle.session_laws.proofs.Headline.Common.{[], AllocError, ap, arith, beat_of, Bool, BreakInfo, by_tick, checked, counted, Debugged, entered, entry_checked, Facts, Hart, if_keeps, info_of, Instr, is_active, is_active_in, is_hit, is_running, IsTick, List, listed_at, Lists, map, moved, moved_as, None, Numbers, Ok, Option, Placed, Program, refl, Result, runs, Seen, settled, shown_of, Some, Stepped, sym, Terms, the_tick, Tick, true, with_hit, ℕ, ◌∙◌, ◌∷◌, ◌≡◌}
use Rattle.session_laws.proofs.Headline.Agreeing.{Agrees, moving_agrees, never, OwesOf}
use Rattle.session_laws.proofs.Cases.{by_running}
use Rattle.session_laws.proofs.Headline.Leading.{ends_lead, Leads, SameBut, stops_lead, telling_leads}

-- ---- a tick leaves the breakpoints where they are

record SameLists (a b : Lists) : Type 0 where
  source : map info_of a.source ≡ map info_of b.source
  instructions : map info_of a.instructions ≡ map info_of b.instructions
  functions : map info_of a.functions ≡ map info_of b.functions

pub kept_info : (f : Placed → Placed) → ((b : Placed) → info_of b ≡ info_of (f b)) → (list : List Placed)
    → map info_of list ≡ map info_of (map f list)
kept_info f same [] = refl
kept_info f same (b ∷ list) = let first = same b in let rest = kept_info f same list in cc

checked_same : (pc : ℕ) (hart : Hart) (memory : List ℕ) (lists : Lists) → SameLists lists (checked pc hart memory lists)
checked_same pc hart memory lists =
    let same = kept_info (counted pc hart memory) (λ b. if_keeps (λ (x : Placed). info_of b ≡ info_of x) (is_hit pc hart memory b) (with_hit b) b
    (λ _. refl) (λ _. refl)) in
    record { source = same lists.source; instructions = same lists.instructions; functions = same lists.functions }

settled_same : (s : Stepped) (instr : Option Instr) (before d : Debugged) → SameLists d.lists (settled s instr before d).lists
settled_same s instr before d = grind (arith, checked_same d.hart.pc d.hart d.memory d.lists)

-- nor does one that goes back change them
tick_same : (before after : Debugged) (answer : Result Tick AllocError) → IsTick before answer after → SameLists before.lists after.lists
tick_same before after answer is =
    by_tick before after answer is
    (λ due x. rw x.1 (checked_same before.hart.pc before.hart before.memory before.lists))
    (λ due turns x. rw x.1 (grind arith))
    (λ due forward m. rw m.settles.1 (settled_same m.stepped m.instr before (moved_as before after)))

breaks_same : (p : Program) (d : Debugged) (owed : Option Tick) → SameLists p.machine.lists d.lists
    → SameBut p (record p { machine = d; owed = owed })
breaks_same p d owed same = λ _ _. record {
  source = λ path. ap (λ (l : List BreakInfo). listed_at p.path l path) same.source;
  instructions = same.instructions;
  functions = same.functions;
}

moved_same : (p : Program) → SameBut p (moved p)
moved_same p = let t = the_tick p.machine in breaks_same p t.after (moved p).owed (tick_same p.machine t.after (Ok t.tick) t.is)

pub entered_same : (p : Program) → SameBut p (entered p)
entered_same p =
    breaks_same p (entry_checked p.machine) (entered p).owed
    (checked_same p.machine.hart.pc p.machine.hart p.machine.memory p.machine.lists)

-- ---- beats

module _ (terms : Terms) (numbers : Numbers) (f : Facts) where
  -- a program that runs continues, and nothing is told
  goes_agrees : (p : Program) (d : Debugged) (owed : Option Tick) → is_running p.run ≡ true → SameBut p (record p { machine = d; owed = owed })
      → Agrees f (Some p) numbers terms → Agrees f (Some (record p { machine = d; owed = owed })) numbers terms
  goes_agrees p d owed runs same h =
      moving_agrees f (shown_of p numbers) (record p { machine = d; owed = owed }) numbers terms (h.moving runs) h.holds
      (same numbers numbers) h.holds.run h.phase

  pub program_leads : (program : Option Program) (seen : Seen) (more : Bool) → is_active_in terms.phase ≡ is_active seen.now.link
      → OwesOf program → Agrees f program numbers terms → Leads terms numbers f program (beat_of program seen more).acts
  unfolding Leads
  program_leads None seen more active owes h = h
  program_leads (Some p) seen more active owes h =
      by_running seen p more (λ b. Leads terms numbers f (Some p) b.acts) h (λ runs. record {
        tells = λ tick e. telling_leads terms numbers f seen.now p tick active (owes (λ none. never tick (sym none ∙ e))) h;
        ends_for = λ _ _ _. h;
        stops_for = λ why none _. stops_lead terms numbers f p why [] (is_active seen.now.link) active (runs none) h;
        exits_with = λ code none _ _. ends_lead terms numbers f p code (is_active seen.now.link) active (runs none) h;
        enters = λ none _ _. goes_agrees p (entered p).machine (entered p).owed (runs none) (entered_same p) h;
        moves = λ none _ _ _ _. goes_agrees p (moved p).machine (moved p).owed (runs none) (moved_same p) h;
      })
