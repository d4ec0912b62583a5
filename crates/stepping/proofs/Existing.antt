-- Each machine has a tick.
use Rattle.stepping.proofs.Common.{AllocError, back_tick, Bool, Debugged, entry_checked, entry_tick, Err, false, gone_back, Hart, HasTick, is_ok, IsMove, Machine, machine_of, Ok, refl, Result, settled, Stepped, subst, tick_of, true, turns_back, ◌≡◌}
use Rattle.rv32i.specs.Laws.{HasMove}
use Rattle.rv32i.proofs.Moving.{moves_answer, the_move}
use Rattle.stepping.proofs.Cases.{settled_ticks, tick_of_back, tick_of_entry}
use Rattle.stepping.proofs.Determined.{fetches}

moves : (d : Debugged) → d.check_due ≡ false → turns_back d.goal ≡ false → HasMove (machine_of d.hart d.memory) → HasTick d
moves d due forward move = go move.effect.answer refl (moves_answer m move.effect move.is) where
  m : Machine
  m = machine_of d.hart d.memory

  hart : Hart
  hart = record { pc = move.effect.machine.pc; x = move.effect.machine.x; zero = move.zero d.hart.zero }

  go : (answer : Result Stepped AllocError) → move.effect.answer ≡ answer → is_ok move.effect.answer ≡ true → HasTick d
  go (Err error) e h = absurd (cc)
  go (Ok s) e h =
      let f = fetches m in
      let moved : Debugged = record d { hart = hart; memory = move.effect.machine.memory } in
      record {
        tick = tick_of s f.0 d.hart.pc moved;
        after = settled s f.0 d moved;
        is = settled_ticks d hart move.effect.machine.memory f.0 s due forward f.1
            (subst (λ (a : Result Stepped AllocError). IsMove m (record { answer = a; machine = move.effect.machine })) e move.is);
      }

by_check : (d : Debugged) (due turns : Bool) → d.check_due ≡ due → turns_back d.goal ≡ turns → HasTick d
by_check d true turns due way =
    record { tick = entry_tick d; after = entry_checked d; is = tick_of_entry d (entry_checked d) (Ok (entry_tick d)) due (refl, refl) }
by_check d false true due way =
    record { tick = back_tick d; after = gone_back d; is = tick_of_back d (gone_back d) (Ok (back_tick d)) due way (refl, refl) }
by_check d false false due way = moves d due way (the_move (machine_of d.hart d.memory))

pub the_tick : (d : Debugged) → HasTick d
the_tick d = by_check d d.check_due (turns_back d.goal) refl refl
