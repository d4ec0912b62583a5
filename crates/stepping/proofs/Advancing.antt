-- Moves at which an instruction retires, and ticks: they are the same, and a machine has one.
use Rattle.stepping.proofs.Common.{Advances, After, AllocError, Answers, ap, arith, Debugged, EachTickAnswers, Effect, Exit, false, gone_on, has_retired, Instr, IsFetched, IsMove, KeepsMachine, Machine, machine_of, moved_as, Moves, None, Ok, one_move, Option, refl, Result, settled, Some, stayed, step_keeps, Stepped, subst, suc, sym, Tick, Trap, true, zero, ℕ, ◌∙◌, ◌≡◌}
use Rattle.std.proofs.Common.{is_ok}
use Rattle.stepping.proofs.Cases.{by_tick, Steps}
use Rattle.stepping.proofs.Determined.{Does, does, fetches, harts_equal, one_decoded, same_moves}

-- ---- a machine answers one thing

pub answers_equal : (before : Debugged) (s t : Stepped) → Answers before s → Answers before t → s ≡ t
answers_equal before s t a b =
    let both : Ok s ≡ Ok t = ap (λ (e : Effect). e.answer) (one_move (machine_of before.hart before.memory) _ _ a.1 b.1) in cc

-- where an instruction retires, the answer says so
pub advanced : (before after : Debugged) (s : Stepped) → Answers before s → Advances before after → has_retired s ≡ true
advanced before after s a m =
    ap has_retired (answers_equal before s m.answer a (machine_of after.hart after.memory, m.moved)) ∙ m.retires

pub each_tick_answers : EachTickAnswers
each_tick_answers before after answer t =
    by_tick before after answer t (λ due h. ap is_ok h.0) (λ due turns h. ap is_ok h.0) (λ due forward m. ap is_ok m.settles.0)

-- ---- an instruction retires, or nothing moves

pub advance_equal : (before after other : Debugged) → Advances before after → Advances before other → after ≡ other
advance_equal before after other a b =
    let m = machine_of before.hart before.memory in
    let instr = one_decoded m a.instr b.instr a.decoded b.decoded in
    let same = same_moves m a.answer b.answer after.hart other.hart after.memory other.memory a.moved b.moved in
    let moved : gone_on (Some a.instr) before (moved_as before after) ≡ gone_on (Some b.instr) before (moved_as before other) =
    λ j. gone_on (Some (instr j)) before (record before { hart = same.hart j; memory = same.memory j }) in
    a.leaves ∙ moved ∙ sym b.leaves

pub advances_so : (before after : Debugged) (instr : Option Instr) (s : Stepped) → IsFetched (machine_of before.hart before.memory) instr
    → Steps before s after.hart after.memory → has_retired s ≡ true → after ≡ gone_on instr before (moved_as before after)
    → Advances before after
advances_so before after None s f m r e =
    let trap = does (machine_of before.hart before.memory) _ None f m in
    let both : Ok s ≡ Ok (Trap trap.0) = ap (λ (e : Effect). e.answer) trap.1 in
    grind arith
advances_so before after (Some i) s f m r e =
    let done = does (machine_of before.hart before.memory) _ (Some i) f m in
    record { instr = i; answer = s; decoded = done.0; moved = m; retires = r; leaves = e }

kept : (s : Stepped) (before after : Machine) → has_retired s ≡ false → KeepsMachine (Ok s) before after → after ≡ before
kept s before after r k = grind arith

machine_stays : (m k : Machine) (s : Stepped) → has_retired s ≡ false → IsMove m (record { answer = Ok s; machine = k }) → k ≡ m
machine_stays m k s r i = let f = fetches m in go f.0 (does m _ f.0 f.1 i) where
  go : (instr : Option Instr) → Does m (record { answer = Ok s; machine = k }) instr → k ≡ m
  go None d = ap (λ (e : Effect). e.machine) d.1
  go (Some j) d = kept s m k r (step_keeps m (record { answer = Ok s; machine = k }) j d.1).unchanged

pub stays_so : (before after : Debugged) (s : Stepped) → has_retired s ≡ false
    → IsMove (machine_of before.hart before.memory) (record { answer = Ok s; machine = machine_of after.hart after.memory })
    → after ≡ stayed (moved_as before after) → after ≡ stayed before
stays_so before after s r m e =
    let same = machine_stays (machine_of before.hart before.memory) (machine_of after.hart after.memory) s r m in
    let hart = harts_equal after.hart before.hart (ap (λ (m : Machine). m.pc) same) (ap (λ (m : Machine). m.x) same) in
    let stays : stayed (moved_as before after) ≡ stayed before = λ j. stayed (record before { hart = hart j; memory = (same j).memory }) in
    e ∙ stays

-- what holds in both cases holds of a move
pub by_move : {P : Type 0} (before after : Debugged) (answer : Result Tick AllocError) → (Advances before after → P)
    → (after ≡ stayed before → P) → Moves before answer after → P
by_move {P} before after answer retires stays m = go m.stepped m.moved m.settles.1 where
  go : (s : Stepped) → Steps before s after.hart after.memory → after ≡ settled s m.instr before (moved_as before after) → P
  go (Exit code) i e = stays (stays_so before after (Exit code) refl i e)
  go (Trap cause) i e = stays (stays_so before after (Trap cause) refl i e)
  go s i e = retires (advances_so before after m.instr s m.fetched i refl e)

-- ---- the machine after a number of moves

-- no check is due there, and the goal is the same
pub record Keeps (start after : Debugged) : Type 0 where
  pub ready : after.check_due ≡ false
  pub goal_is : after.goal ≡ start.goal

pub after_keeps : (n : ℕ) (start after : Debugged) → After n start after → Keeps start after
after_keeps zero start after a = rw a (grind arith)
after_keeps (suc n) start after a =
    let k = after_keeps n start a.0 a.1.0 in record {
      ready = ap (λ (d : Debugged). d.check_due) a.1.1.leaves ∙ k.ready;
      goal_is = ap (λ (d : Debugged). d.goal) a.1.1.leaves ∙ k.goal_is;
    }

pub after_goal : (n : ℕ) (start after : Debugged) → After n start after → after.goal ≡ start.goal
after_goal n start after a = (after_keeps n start after a).goal_is

pub after_equal : (n : ℕ) (start after other : Debugged) → After n start after → After n start other → after ≡ other
after_equal zero start after other a b = a ∙ sym b
after_equal (suc n) start after other a b =
    advance_equal a.0 after other a.1.1 (subst (λ (d : Debugged). Advances d other) (after_equal n start b.0 a.0 b.1.0 a.1.0) b.1.1)
