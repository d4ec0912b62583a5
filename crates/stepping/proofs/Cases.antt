-- A tick is the check at the entry, where that is due; and else a move that is undone, where the run goes back, or a move.
use Rattle.stepping.proofs.Common.{AllocError, arith, back_tick, Bool, Comes, Debugged, entry_checked, entry_tick, false, Function, Goal, gone_back, Hart, Hit, Instr, Instruction, IsFetched, IsMove, IsTick, List, looked_at, machine_of, MatchBool, Moves, Ok, Option, Outcome, outcome_or, place, refl, Result, Retired, settled, Source, Stepped, Stopped, subst₂, suc, sym, Tick, tick_of, true, turns_back, undone, Went, ℕ, ◌<◌, ◌≡◌, ◌≤◌}

abbrev pub Enters : Debugged → Result Tick AllocError → Debugged → Type 0
Enters before answer after = Comes (entry_tick before) (entry_checked before) answer after

abbrev pub GoesBack : Debugged → Result Tick AllocError → Debugged → Type 0
GoesBack before answer after = Comes (back_tick before) (gone_back before) answer after

-- an answer has one tick
pub one_tick : (tick other : Tick) → (let answer : Result Tick AllocError = Ok tick in answer ≡ Ok other) → tick ≡ other
one_tick tick other e = cc

-- what holds in each case holds of a tick
pub by_tick : {P : Type 0} (before after : Debugged) (answer : Result Tick AllocError) → IsTick before answer after
    → (before.check_due ≡ true → Enters before answer after → P)
    → (before.check_due ≡ false → turns_back before.goal ≡ true → GoesBack before answer after → P)
    → (before.check_due ≡ false → turns_back before.goal ≡ false → Moves before answer after → P) → P
by_tick {P} before after answer t entry back move = go before.check_due (turns_back before.goal) refl refl t where
  go : (due turns : Bool) → before.check_due ≡ due → turns_back before.goal ≡ turns
      → MatchBool due (Enters before answer after) (MatchBool turns (GoesBack before answer after) (Moves before answer after)) → P
  go true turns e f h = entry e h
  go false true e f h = back e f h
  go false false e f h = move e f h

-- each case alone, and the other way
module _ (before after : Debugged) (answer : Result Tick AllocError) where
  pub entry_of : before.check_due ≡ true → IsTick before answer after → Enters before answer after
  entry_of due t = rw due at t

  abbrev TickBy : Bool → Bool → Type 0
  TickBy due turns =
      MatchBool due (Enters before answer after) (MatchBool turns (GoesBack before answer after) (Moves before answer after))

  pub back_of : before.check_due ≡ false → turns_back before.goal ≡ true → IsTick before answer after → GoesBack before answer after
  back_of due turns t = subst₂ TickBy due turns t

  pub move_of : before.check_due ≡ false → turns_back before.goal ≡ false → IsTick before answer after → Moves before answer after
  move_of due forward t = subst₂ TickBy due forward t

  pub tick_of_entry : before.check_due ≡ true → Enters before answer after → IsTick before answer after
  tick_of_entry due h = rw due h

  pub tick_of_back : before.check_due ≡ false → turns_back before.goal ≡ true → GoesBack before answer after → IsTick before answer after
  tick_of_back due turns h = subst₂ TickBy (sym due) (sym turns) h

  pub tick_of_move : before.check_due ≡ false → turns_back before.goal ≡ false → Moves before answer after → IsTick before answer after
  tick_of_move due forward h = subst₂ TickBy (sym due) (sym forward) h

  -- where it goes back, a look changes the breakpoints alone
  pub back_leaves : GoesBack before answer after → after ≡ record (undone before) { lists = after.lists }
  back_leaves x = rw x.1 (looked before.goal (undone before)) where
    looked : (g : Goal) (d : Debugged) → looked_at g d ≡ record d { lists = (looked_at g d).lists }
    looked g d = grind arith

-- the hart moves so, with this answer
abbrev pub Steps : Debugged → Stepped → Hart → List ℕ → Type 0
Steps d s hart memory = IsMove (machine_of d.hart d.memory) (record { answer = Ok s; machine = machine_of hart memory })

-- what a move comes to is a tick
pub settled_ticks : (d : Debugged) (hart : Hart) (memory : List ℕ) (instr : Option Instr) (s : Stepped) → d.check_due ≡ false
    → turns_back d.goal ≡ false → IsFetched (machine_of d.hart d.memory) instr → Steps d s hart memory
    → let moved : Debugged = record d { hart = hart; memory = memory } in IsTick d (Ok (tick_of s instr d.hart.pc moved)) (settled s instr d moved)
settled_ticks d hart memory instr Retired due forward f m =
    tick_of_move d _ _ due forward (record { instr = instr; stepped = Retired; fetched = f; moved = m; settles = (refl, refl) })
settled_ticks d hart memory instr s due forward f m =
    tick_of_move d _ _ due forward (record { instr = instr; stepped = s; fetched = f; moved = m; settles = (refl, refl) })

-- ---- which reason is the first: breakpoints come in the order of their lists, and before what else there is

-- what holds of the first breakpoint, and of what else there is where none is met, holds of the outcome
pub by_hit : (P : Outcome → Type 0) (hit : Hit) (other : Outcome) → (hit.source ≡ true → P (Stopped Source))
    → (hit.instruction ≡ true → P (Stopped Instruction)) → (hit.function ≡ true → P (Stopped Function)) → P other
    → P (outcome_or hit other)
by_hit P hit other a b c d = grind arith

-- where the first place would be that of `Went`, no reason applies
pub no_went : (A : Outcome → Type 0) → (A Went → ⊥) → (o : Outcome) → A o → 9 ≤ place o → ⊥
no_went A none o x l = grind arith

-- where none applies below a number, nor at it, none does below the next one
pub none_more : (A : ℕ → Outcome → Type 0) (n : ℕ) → ((lower : ℕ) (o : Outcome) → lower < n → A lower o → ⊥) → ((o : Outcome) → A n o → ⊥)
    → (lower : ℕ) (o : Outcome) → lower < suc n → A lower o → ⊥
none_more A n below here lower o l x = grind arith
