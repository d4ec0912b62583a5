-- Instructions in a row are ticks with nothing to report.
use Rattle.stepping.proofs.Common.{[], add-one, AllocError, ap, arith, Burst, BurstEnd, Bursts, Course, course_of, Debugged, decoded_is_fetched, Ends, EndsBurst, false, Goes, GoesOn, Instr, IsFar, IsOutOfReach, IsQuiet, IsTick, Kept, List, Lists, machine_at, moved_by, no_check, no_hit, None, noted, Ok, outcome_of, plain_tick, Position, position_at, refl, Result, Retire, Retired, Retires, seen, Some, suc, Tick, turns_back, with_check, zero, ℕ, ◌+◌, ◌<◌, ◌^◌, ◌≡◌, ◌≤◌}
use Rattle.rv32i.specs.declared.instr.Instr.TheVariants.{Jal, Jalr}
use Rattle.stepping.specs.declared.burst.BurstEnd.TheVariants.{Spent, Near, Halted}
use Rattle.stepping.proofs.Cases.{tick_of_move}

-- ---- the calls of instructions in a row

-- an instruction makes one call at most
deeper : (i : Instr) (pc : ℕ) (k : Kept) → (noted k i pc).depth ≤ k.depth + 1
deeper (Jal rd offset) pc k = grind arith
deeper (Jalr rd rs1 imm) pc k = grind arith
deeper i pc k = omega arith

pub retires_deeper : (at next : ℕ) (p q : Position) → Retires at next p q → q.calls.depth ≤ p.calls.depth + 1
retires_deeper at next p q r = omega (arith, ap (λ (k : Kept). k.depth) r.calls, deeper r.instr at p.calls)

retire_deeper : (n : ℕ) (lists : Lists) (reach at next : ℕ) (p q : Course) → Retire n lists reach at p next q
    → q.now.calls.depth ≤ p.now.calls.depth + n
retire_deeper zero lists reach at next p q h = omega (arith, ap (λ (x : Course). x.now.calls.depth) h.1)
retire_deeper (suc n) lists reach at next p q h =
    omega (arith, retire_deeper n lists reach at h.0 p h.1 h.2.0, retires_deeper h.0 next h.1.now q.now h.2.1.0)

-- one instruction more in a row
pub retire_more : (n : ℕ) (lists : Lists) (reach at pc next : ℕ) (p middle after : Course) → Retire n lists reach at p pc middle
    → GoesOn pc middle (Ok next) after → IsFar lists reach next after.now.calls.depth → Retire (n + 1) lists reach at p next after
retire_more n lists reach at pc next p middle after h r far = rw (add-one n) (pc, middle, (h, r, far))

-- ---- a machine in the midst of them

abbrev ids_after : ℕ → List ℕ → List ℕ
ids_after zero ids = ids
ids_after (suc n) ids = []

-- what is named of the breakpoints once this many have retired
abbrev pub lists_after : ℕ → Lists → Lists
lists_after n l = record l { ids = ids_after n l.ids; logs = ids_after n l.logs }

pub lists_some : (n : ℕ) (l : Lists) → 0 < n → record l { ids = []; logs = [] } ≡ lists_after n l
lists_some n l h = grind arith

pub lists_none : (n : ℕ) (l : Lists) → n ≤ 0 → l ≡ lists_after n l
lists_none n l h = grind arith

-- so many more have retired, and its program stands there, with these breakpoints
abbrev pub arrived : ℕ → Course → Lists → Debugged → Debugged
arrived n c lists d =
    record d { hart = c.now.hart; memory = c.now.memory; calls = c.now.calls; retired = d.retired + n; past = c.past; lists = lists }

-- the same, with its hart at this pc
abbrev pub midway : ℕ → ℕ → Course → Debugged → Debugged
midway n pc c d = arrived n (record c { now = position_at pc c.now }) (lists_after n d.lists) d

abbrev looked : Debugged → Result Tick AllocError
looked d = Ok (record { printed = None; outcome = seen d })

midway_first : (d : Debugged) (next : ℕ) (q : Course) → next ≡ d.hart.pc → q ≡ course_of d → midway zero next q d ≡ d
midway_first d next q e f =
    let none : d.retired + 0 ≡ d.retired = omega arith in λ j. record (midway zero (e j) (f j) d) { retired = none j }

module _ (d : Debugged) (due : d.check_due ≡ false) (forward : turns_back d.goal ≡ false) where
  -- an instruction retires, and there is a look at pc
  retired_ticks : (n at next : ℕ) (p q : Course) → GoesOn at p (Ok next) q
      → IsTick (midway n at p d) (looked (midway (suc n) next q d)) (with_check (midway (suc n) next q d))
  retired_ticks n at next p q g =
      let r = g.0 in
      let m : Debugged = midway (suc n) next q d in
      let count : d.retired + suc n ≡ d.retired + n + 1 = omega arith in
      tick_of_move (midway n at p d) (with_check m) (looked m) due forward (record {
        instr = Some r.instr;
        stepped = Retired;
        fetched = decoded_is_fetched (machine_at at p.now) (Some r.instr) r.decoded;
        moved = r.moves;
        settles = (
          λ j. looked (record m { calls = r.calls j }),
          λ j. with_check (record m { calls = r.calls j; retired = count j; past = g.1 j }),
        );
      })

  -- where no breakpoint is at pc, and the goal is out of reach, there is nothing to report
  far_ticks : (n pc next reach : ℕ) (p q : Course) → GoesOn pc p (Ok next) q → IsFar d.lists reach next q.now.calls.depth
      → IsOutOfReach reach d.goal d.start → q.now.calls.depth ≤ 2 ^ 62 → IsTick (midway n pc p d) (Ok plain_tick) (midway (suc n) next q d)
  far_ticks n pc next reach p q g far unmet few =
      let m : Debugged = midway (suc n) next q d in
      let hit = no_hit m.hart.pc m.hart m.memory m.lists far.none in
      let met = unmet d.table next q.now.calls.depth far.deep few in
      let lists = no_check m.hart.pc m.hart m.memory m.lists far.none in
      let quiet : IsQuiet m = record { went = λ j. outcome_of (hit j) (met j); checked = λ j. record m { lists = lists j } } in
      rw (quiet.went, quiet.checked) at (retired_ticks n pc next p q g)

  pub retire_goes : (n reach next : ℕ) (q : Course) → IsOutOfReach reach d.goal d.start → d.calls.depth + n ≤ 2 ^ 62
      → Retire n d.lists reach d.hart.pc (course_of d) next q → Goes n d (midway n next q d)
  retire_goes zero reach next q unmet few h = midway_first d next q h.0 h.1
  retire_goes (suc n) reach next q unmet few h =
      let deep = retire_deeper n d.lists reach d.hart.pc h.0 (course_of d) h.1 h.2.0 in
      let few_there : q.now.calls.depth ≤ 2 ^ 62 = omega (arith, few, deep, retires_deeper h.0 next h.1.now q.now h.2.1.0) in
      let tick = far_ticks n h.0 next reach h.1 q h.2.1 h.2.2 unmet few_there in
      (midway n h.0 h.1 d, (retire_goes n reach h.0 h.1 unmet (omega (arith, few)) h.2.0, (tick, refl)))

  bursts_end : (most reach : ℕ) (burst : Burst) (after : Course) → IsOutOfReach reach d.goal d.start → d.calls.depth + most ≤ 2 ^ 62
      → Bursts most d.lists reach (course_of d) burst after
      → Ends most burst.went burst.ending d (midway (moved_by burst.went burst.ending) burst.pc after d)
  bursts_end most reach burst after unmet few h = go burst.ending h.ends where
    there : Debugged
    there = midway burst.went h.pc h.middle d

    goes : burst.went ≤ most → Goes burst.went d there
    goes le = retire_goes burst.went reach h.pc h.middle unmet (omega (arith, few, le)) h.retire

    go : (ending : BurstEnd) → EndsBurst most burst.went ending h.pc h.middle burst.pc after
        → Ends most burst.went ending d (midway (moved_by burst.went ending) burst.pc after d)
    go Spent e = (e.0, rw (e.1.0, e.1.1) (goes (omega (arith, e.0))))
    go Near e =
        let tick = retired_ticks burst.went h.pc burst.pc h.middle after e.1 in
        (e.0, (there, (goes (omega (arith, e.0)), rw (add-one burst.went) (record { due = due; tick = tick }))))
    go (Halted halt) e =
        let says = e.1.0.0 in
        (e.0, rw (e.1.1, e.1.0.1) (goes (omega (arith, e.0)), due, record { instr = says.instr; fetched = says.fetched; says = says.says }))

-- and once pc and the count are set
pub arrives : (most reach moved : ℕ) (burst : Burst) (after there : Course) (lists : Lists) (d now : Debugged) → d ≡ now
    → now.check_due ≡ false → turns_back now.goal ≡ false → now.retired + most ≤ 2 ^ 62 → IsOutOfReach reach d.goal d.start
    → d.calls.depth ≤ d.retired → Bursts most d.lists reach (course_of d) burst after → moved ≡ moved_by burst.went burst.ending
    → there ≡ record after { now = position_at burst.pc after.now } → lists ≡ lists_after (moved_by burst.went burst.ending) d.lists
    → Ends most burst.went burst.ending now (arrived moved there lists d)
arrives most reach moved burst after there lists d now is due forward few unmet deep h m t l =
    let few_there : d.calls.depth + most ≤ 2 ^ 62 = omega (arith, few, deep, ap (λ (x : Debugged). x.retired) is) in
    let same : arrived moved there lists d ≡ midway (moved_by burst.went burst.ending) burst.pc after d = λ j. arrived (m j) (t j) (l j) d in
    rw (← is, same) (bursts_end d (rw is due) (rw is forward) most reach burst after unmet few_there h)
