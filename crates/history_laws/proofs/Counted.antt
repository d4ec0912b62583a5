-- How many moves are recorded.
use Rattle.history_laws.proofs.Common.{ap, AreGivenUp, arith, Bool, by_tick, cond, Debugged, false, Goal, length, length-take, List, looked_at, min, moved_as, Ok, one_tick, Position, position_of, refl, take, tick_of, TicksAreCounted, true, undone_by, ◌+◌, ◌-◌, ◌∙◌, ◌∷◌, ◌≡◌}
use Rattle.history_laws.proofs.Ticking.{settled_past}

-- ---- a tick

undone_one : (past : List Position) (g : Goal) (d : Debugged) → d.past ≡ past
    → length (looked_at g (undone_by past d)).past ≡ length past - 1
undone_one past g d e = grind arith

-- as many as were, or one more
recorded_one : (stay : Bool) (p : Position) (past : List Position)
    → length (cond stay past (take 65536 (p ∷ past))) ≡ cond stay (length past) (min (length past + 1) 65536)
recorded_one true p past = refl
recorded_one false p past = let most = length-take 65536 (p ∷ past) in omega (arith, most)

pub ticks_are_counted : TicksAreCounted
ticks_are_counted before after tick t = by_tick before after (Ok tick) t (λ due x. rw (due, x.1))
    (λ due back x. rw (due, back, x.1) (undone_one before.past before.goal before refl))
    (λ due back m. rw (due, back, one_tick tick (tick_of m.stepped m.instr before.hart.pc (moved_as before after)) m.settles.0)
    (ap length (settled_past m.stepped m.instr before after m.settles.1) ∙ recorded_one _ (position_of before) before.past))

-- ---- what gives it up

pub are_given_up : AreGivenUp
are_given_up = record {
  loaded = λ _ _ _ _. refl;
  restarted = λ _. refl;
  sets_hart = λ _ _. refl;
  writes = λ _ _ p none. rw none;
  writes_none = λ _ _ p fault is. rw is;
}
