-- Where the machine continues after a tick, no breakpoint is named that stopped; with nothing to tell, no logpoint is.
use Rattle.debuggee.proofs.Common.{[], ap, Back, back_outcome, back_tick, Bool, cond, Debugged, false, Go, Goal, gone_back, hit_at_pc, In, IsPlain, List, looked_at, map, None, Option, Out, outcome_of, outcome_or, Over, owing, owing_by, plain_tick, refl, ReverseGo, Some, sym, Tick, true, undone, unless_start, with_check, ℕ, ℤ, ◌++◌, ◌||◌, ◌∙◌, ◌∷◌, ◌≡◌}
use Rattle.std.specs.Prelude.{filter}
use Rattle.std.specs.List.{list_any}
use Rattle.breakpoints.specs.Stops.{Lists, Placed, hit_where, ids_where, stands, stops}
use Rattle.stepping.specs.declared.tick.Outcome.{Outcome}
use Rattle.stepping.specs.declared.tick.Outcome.TheVariants.{Went, Stopped, Ended}

-- where none of a list passes the test, none is named
none_named : (test : Placed → Bool) (list : List Placed) → list_any test list ≡ false → ids_where test list ≡ []
none_named test [] e = refl
none_named test (b ∷ list) e = by_first (test b) refl e (none_named test list) where
  by_first : (first : Bool) → test b ≡ first → list_any test (b ∷ list) ≡ false
      → (list_any test list ≡ false → ids_where test list ≡ []) → ids_where test (b ∷ list) ≡ []
  by_first true s h rest = absurd (let never : true ≡ false = sym (ap (λ x. x || list_any test list) s) ∙ h in cc)
  by_first false s h rest =
      ap (λ x. map (λ (c : Placed). c.id) (cond x (b ∷ filter test list) (filter test list))) s
      ∙ rest (sym (ap (λ x. x || list_any test list) s) ∙ h)

none_hit : (source instruction function : Bool) (other : Outcome)
    → outcome_or (record { source = source; instruction = instruction; function = function }) other ≡ Went
    → (source ≡ false) × ((instruction ≡ false) × (function ≡ false))
none_hit true instruction function other e = absurd (cc)
none_hit false true function other e = absurd (cc)
none_hit false false true other e = absurd (cc)
none_hit false false false other e = (refl, (refl, refl))

names_none : (test : Placed → Bool) (lists : Lists) (other : Outcome) → outcome_or (hit_where test lists) other ≡ Went
    → ids_where test lists.source ++ ids_where test lists.instructions ++ ids_where test lists.functions ≡ []
names_none test lists other e =
    let none = none_hit (hit_where test lists).source (hit_where test lists).instruction (hit_where test lists).function other e in
    let source = none_named test lists.source none.0 in
    let instructions = none_named test lists.instructions none.1.0 in
    let functions = none_named test lists.functions none.1.1 in
    λ j. source j ++ instructions j ++ functions j

-- a look at the breakpoints after which the machine continues
pub looks_name_none : (d : Debugged) (goal : Bool) → outcome_of (hit_at_pc d) goal ≡ Went → (with_check d).lists.ids ≡ []
looks_name_none d goal e = names_none (stops d.hart.pc d.hart d.memory) d.lists _ e

-- and one on the way back
looks_back : (g : Goal) (d : Debugged) → back_outcome g d ≡ Went → (looked_at g d).lists.ids ≡ []
looks_back ReverseGo d e = names_none (stands d.hart.pc d.hart d.memory) d.lists (unless_start d.past) e
looks_back _ d e = refl

pub undone_names_none : (d : Debugged) → (back_tick d).outcome ≡ Went → (gone_back d).lists.ids ≡ []
undone_names_none d e = looks_back d.goal (undone d) e

-- ---- what there is to tell of a tick

owing_by_none : (printed : Option ℤ) (outcome : Outcome) (logs : List ℕ) → owing_by printed outcome logs ≡ None
    → (printed ≡ None) × ((outcome ≡ Went) × (logs ≡ []))
owing_by_none None Went [] e = (refl, (refl, refl))
owing_by_none None Went (n ∷ logs) e = absurd (cc)
owing_by_none None (Stopped reason) logs e = absurd (cc)
owing_by_none None (Ended code) logs e = absurd (cc)
owing_by_none (Some n) outcome logs e = absurd (cc)

-- nothing: the machine continues, nothing was printed, and no logpoint has something to say
pub owing_none : (tick : Tick) (after : Debugged) → owing tick after ≡ None
    → (tick.printed ≡ None) × ((tick.outcome ≡ Went) × (after.lists.logs ≡ []))
owing_none tick after e = owing_by_none tick.printed tick.outcome after.lists.logs e

-- and the other way
pub plain_owes_none : (tick : Tick) (after : Debugged) → IsPlain tick after → owing tick after ≡ None
plain_owes_none tick after h =
    ap (λ (t : Tick). owing t after) h.0 ∙ ap (λ (logs : List ℕ). owing_by None Went logs) h.1

owes_by : (printed : Option ℤ) (outcome : Outcome) (logs : List ℕ)
    → (((let t : Tick = record { printed = printed; outcome = outcome } in t) ≡ plain_tick) → logs ≡ [] → ⊥)
    → owing_by printed outcome logs ≡ Some (record { printed = printed; outcome = outcome })
owes_by None Went [] h = absurd (h refl refl)
owes_by None Went (n ∷ logs) h = refl
owes_by None (Stopped reason) logs h = refl
owes_by None (Ended code) logs h = refl
owes_by (Some n) outcome logs h = refl

-- else it is the tick
pub owes_it : (tick : Tick) (after : Debugged) → (IsPlain tick after → ⊥) → owing tick after ≡ Some tick
owes_it tick after h = owes_by tick.printed tick.outcome after.lists.logs (λ a b. h (a, b))
