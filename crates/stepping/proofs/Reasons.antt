-- What one tick after the entry says: it continues where no reason applies, and else gives the first.
use Rattle.stepping.proofs.Common.{Advances, Answers, ap, Applies, arith, Bool, Break, Debugged, Ebreak, Ended, Exception, Exit, false, Function, Hit, hit_in, if◌then◌else◌, Instruction, is_met, IsTrue, moved_as, Moves, Ok, OneStops, Outcome, outcome_of, place, Printed, refl, Retired, settled, Source, stayed, Stepped, Stopped, subst, Tick, tick_of, Trap, true, Went, ℕ, ⊤, ◌≡◌, ◌≤◌}
use Rattle.stepping.specs.declared.tick.Reason.TheVariants.{Goal}
use Rattle.stepping.proofs.Advancing.{advance_equal, advances_so, answers_equal, stays_so}
use Rattle.stepping.proofs.Cases.{by_hit, one_tick, Steps}

-- what applies, where it does not continue
abbrev pub Held : Outcome → Debugged → Type 0
Held Went before = ⊤
Held outcome before = Applies outcome before

-- the machine that is left
abbrev pub Left : Outcome → Debugged → Debugged → Type 0
Left (Stopped (Exception cause)) before after = after ≡ stayed before
Left (Ended code) before after = after ≡ stayed before
Left outcome before after = Advances before after

-- what one tick says
pub record SaysOnce (outcome : Outcome) (before after : Debugged) : Type 0 where
  pub held : Held outcome before
  pub first : (other : Outcome) → Applies other before → place outcome ≤ place other
  pub leaves : Left outcome before after

-- ---- the reasons that an answer of the hart leaves

-- the least place of one
abbrev lowest : Stepped → ℕ
lowest (Trap cause) = 1
lowest (Exit code) = 2
lowest Break = 3
lowest s = 4

above : (before : Debugged) (s : Stepped) → Answers before s → (other : Outcome) → Applies other before → lowest s ≤ place other
above before s a (Stopped (Exception cause)) x = rw (answers_equal before s (Trap cause) a x) (omega arith)
above before s a (Ended code) x = rw (answers_equal before s (Exit code) a x) (omega arith)
above before s a (Stopped Ebreak) x = rw (answers_equal before s Break a x) (omega arith)
above before s a _ x = grind arith

-- ---- after an instruction that retired

abbrev at_goal : Debugged → Bool
at_goal d = is_met d.goal d.start d.table d.hart.pc d.calls.depth

module _ (before after : Debugged) (moves : Advances before after) (s : Stepped) (a : Answers before s) (four : lowest s ≡ 4) where
  -- what is met after the instruction is met in this machine
  met : (Q : Debugged → Type 0) → (d : Debugged) × (Advances before d × Q d) → Q after
  met Q m = subst Q (advance_equal before m.0 after m.1.0 moves) m.1.1

  abbrev hit : Hit
  hit = hit_in after.hart.pc after.hart after.memory before.lists

  first : (goal : Bool) → at_goal after ≡ goal → (other : Outcome) → Applies other before → place (outcome_of hit goal) ≤ place other
  first goal g (Stopped Source) x = let m = met (OneStops before.lists.source) x in grind arith
  first goal g (Stopped Instruction) x = let m = met (OneStops before.lists.instructions) x in grind arith
  first goal g (Stopped Function) x = let m = met (OneStops before.lists.functions) x in grind arith
  first goal g (Stopped Goal) x = let m = met (λ d. IsTrue (at_goal d)) x in grind arith
  first goal g other x = let low = above before s a other x in grind arith

  held : (goal : Bool) → at_goal after ≡ goal → Held (if goal then Stopped Goal else Went) before
  held true g = (after, (moves, g))
  held false g = tt

  retired_says : (goal : Bool) → at_goal after ≡ goal → SaysOnce (outcome_of hit goal) before after
  retired_says goal g = record {
    held = by_hit (λ o. Held o before) hit (if goal then Stopped Goal else Went) (λ s. (after, (moves, s))) (λ i. (after, (moves, i)))
        (λ f. (after, (moves, f))) (held goal g);
    first = first goal g;
    leaves = grind arith;
  }

-- ---- one tick

pub one_says : (before after : Debugged) (tick : Tick) → Moves before (Ok tick) after → SaysOnce tick.outcome before after
one_says before after tick m = rw (one_tick tick _ m.settles.0) (go m.stepped m.moved m.settles.1) where
  go : (s : Stepped) → Steps before s after.hart after.memory → after ≡ settled s m.instr before (moved_as before after)
      → SaysOnce (tick_of s m.instr before.hart.pc (moved_as before after)).outcome before after
  go (Trap cause) i e =
      record { held = (_, i); first = above before (Trap cause) (_, i); leaves = stays_so before after (Trap cause) refl i e }
  go (Exit code) i e = record { held = (_, i); first = above before (Exit code) (_, i); leaves = stays_so before after (Exit code) refl i e }
  go Break i e =
      record { held = (_, i); first = above before Break (_, i); leaves = advances_so before after m.instr Break m.fetched i refl e }
  go Retired i e =
      retired_says before after (advances_so before after m.instr Retired m.fetched i refl e) Retired (_, i) refl _ (ap at_goal e)
  go (Printed number) i e =
      let moves = advances_so before after m.instr (Printed number) m.fetched i refl e in
      retired_says before after moves (Printed number) (_, i) refl _ (ap at_goal e)
