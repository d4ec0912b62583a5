-- Back, and forth again.
use Rattle.history_laws.proofs.Common.{[], ap, arith, back, BackAndForthAgain, Beginning, Course, Debugged, EndsARun, false, goes, gone_back, Happened, IfSome, Instr, IsMade, IsMove, IsReached, IsUndone, LeadTo, length, List, machine_of, MakesSaying, move_of, moved, moved_as, Moves, moves_equal, MovesAreMade, MovesAreUndone, MovesSaying, MovesTo, next_tick, None, Ok, one_tick, Option, Position, position_of, printed_by, Program, Reached, refl, same_moves, Session, Some, stays, Stepped, subst, suc, sym, the_tick, Tick, tick_of, ticks_lead, zero, ℕ, ◌∙◌, ◌∷◌, ◌≡◌, ◌≤◌}
use Rattle.history_laws.proofs.Recorded.{every_past_is_a_run}
use Rattle.history_laws.proofs.Ticking.{settled_past, undoes}
use Rattle.std.proofs.lemmas.Option.{IfSome_then}

-- ---- one answer

-- a machine that moves to a position answers as its move does
pub answers_equal : (b x y : Position) (s : Stepped) (p : MovesTo b x)
    → IsMove (machine_of b.hart b.memory) (record { answer = Ok s; machine = machine_of y.hart y.memory }) → p.answer ≡ s
answers_equal b x y s p moved =
    (same_moves (machine_of b.hart b.memory) p.answer s x.hart y.hart x.memory y.memory p.moved moved).stepped

-- ---- many moves

back_first : (k : ℕ) (b : Position) (past : List Position) (now : Position)
    → back (suc k) (record { now = now; past = b ∷ past }) ≡ back k (record { now = b; past = past })
back_first zero b past now = refl
back_first (suc k) b past now = ap gone_back (back_first k b past now)

-- there are no moves from here
none_more : (now other : Position) (others : List Stepped) → length others ≡ 0 → MakesSaying others now other
    → (other ≡ now) × (others ≡ [])
none_more now other [] long o = (o, refl)
none_more now other (said ∷ others) long o = absurd (omega (arith, long))

-- one move more
one_more : (k : ℕ) (there b now : Position) → MovesTo b now → IsReached k there b → IsReached (suc k) there now
one_more k there b now move r = record {
  answers = move.answer ∷ r.answers;
  many = let many = r.many in omega (arith, many);
  makes = (b, (r.makes, (move, refl)));
  unique = unique;
} where
  unique : (others : List Stepped) (other : Position) → length others ≡ suc k → MakesSaying others there other
      → (other ≡ now) × (others ≡ move.answer ∷ r.answers)
  unique [] other long o = absurd (omega (arith, long))
  unique (said ∷ others) other long o =
      let before = r.unique others o.0 (omega (arith, long)) o.1.0 in
      let last = subst (λ (x : Position). MovesSaying said x other) before.0 o.1.1 in
      let same : said ≡ move.answer = sym last.1 ∙ answers_equal b other now move.answer last.0 move.moved in
      (moves_equal b other now last.0 move, λ j. same j ∷ before.1 j)

reached : (k : ℕ) (past : List Position) (now : Position) → LeadTo past now → k ≤ length past
    → IsReached k (back k (record { now = now; past = past })).now now
reached zero past now h some =
    record { answers = []; many = refl; makes = refl; unique = λ others other long o. none_more now other others long o }
reached (suc k) [] now h some = absurd (omega (arith, some))
reached (suc k) (b ∷ past) now h some =
    subst (λ (c : Course). IsReached (suc k) c.now now) (sym (back_first k b past now))
    (one_more k _ b now h.0 (reached k past b h.1 (omega (arith, some))))

pub back_and_forth_again : (from : Beginning) (events : List Happened) → BackAndForthAgain (Reached from events)
back_and_forth_again from events =
    IfSome_then (Reached from events).now.debuggee.program (every_past_is_a_run from events)
    (λ p h k some. reached k p.machine.past (position_of p.machine) h.leads some)

-- ---- a move of the program

printed_so : (s : Stepped) (instr : Option Instr) (pc : ℕ) (d : Debugged) → printed_by s ≡ (tick_of s instr pc d).printed
printed_so s instr pc d = grind arith

-- the hart moves, and what it answers is printed
abbrev pub Comes : Debugged → Debugged → Tick → Type 0
Comes before after tick =
    (answer : Stepped) × (MovesSaying answer (position_of before) (position_of after) × (printed_by answer ≡ tick.printed))

move_made : (before after : Debugged) (tick : Tick) → stays tick.outcome ≡ false → LeadTo after.past (position_of after)
    → Moves before (Ok tick) after → Comes before after tick
move_made before after tick goes lead m =
    let s = m.stepped in
    let same : tick ≡ tick_of s m.instr before.hart.pc (moved_as before after) = one_tick tick _ m.settles.0 in
    let past = rw (← same, goes) at (settled_past s m.instr before after m.settles.1) in
    let move = (subst (λ (l : List Position). LeadTo l (position_of after)) past lead).0 in (
      s,
      (
        (move, answers_equal (position_of before) (position_of after) (position_of after) s move m.moved),
        printed_so s m.instr before.hart.pc (moved_as before after) ∙ sym (ap (λ (t : Tick). t.printed) same),
      ),
    )

pub is_made : (p : Program) → EndsARun p.machine → IsMade p
is_made p h due forward goes =
    let t = (the_tick p.machine).is in
    move_made p.machine (moved p).machine (next_tick p) goes (ticks_lead p.machine (moved p).machine (Ok (next_tick p)) h.leads t)
    (move_of p.machine (moved p).machine (Ok (next_tick p)) due forward t)

pub moves_are_made : (from : Beginning) (events : List Happened) → MovesAreMade (Reached from events)
moves_are_made from events = IfSome_then (Reached from events).now.debuggee.program (every_past_is_a_run from events) is_made

all_undone : (program : Option Program) → IfSome program IsUndone
all_undone None = tt
all_undone (Some p) = λ due turns. (undoes p turns due).course

pub moves_are_undone : (s : Session) → MovesAreUndone s
moves_are_undone s = all_undone s.now.debuggee.program
