-- An instruction that halts ends a run.
use Rattle.stepping.proofs.Common.{[], AllocError, ap, arith, Break, calls, counted_by, Course, course_of, Debugged, Effect, Err, false, Halt, Halts, IsMove, IsTick, left_by, List, Machine, machine_of, MayLackMemory, None, Ok, past_after, plain_tick, position_at, position_of, refl, Result, Retired, settled, Some, Stepped, subst, sum, sym, Tick, tick_of, Trap, true, turns_back, ℕ, ◌+◌, ◌∙◌, ◌≡◌, ◌≢◌}
use Rattle.rv32i.specs.Steps.{settles}
use Rattle.rv32i.specs.declared.instr.Instr.TheVariants.{Ecall, Ebreak}
use Rattle.rv32i.specs.declared.performing.Halt.TheVariants.{Stopped, NoMemory, Calls, Breaks}
use Rattle.rv32i.proofs.Moving.{moves_answer}
use Rattle.stepping.proofs.Cases.{settled_ticks}

-- the machine with another pc
abbrev pub at_pc : Debugged → ℕ → Debugged
at_pc d pc = record d { hart = record d.hart { pc = pc } }

-- ---- what it ends with is no plain tick, and the machine's

abbrev Ticks : Debugged → Debugged → Stepped → Type 0
Ticks d moved s = (tick_of s None 0 moved ≢ plain_tick) × IsTick d (Ok (tick_of s None 0 moved)) (settled s None d moved)

-- by the answer, of which one is that no memory was left
abbrev pub EndsWith : Debugged → Result Stepped AllocError → Debugged → Type 0
EndsWith d (Ok s) moved = Ticks d moved s
EndsWith d (Err error) moved = (moved ≡ d) × MayLackMemory d

-- ---- an environment call

-- it depends on no byte of memory
abbrev with_memory : List ℕ → Effect → Effect
with_memory memory e = record { answer = e.answer; machine = record e.machine { memory = memory } }

calls_so : (pc : ℕ) (x memory : List ℕ)
    → with_memory memory (calls (record { pc = pc; x = x; memory = [] })) ≡ calls (record { pc = pc; x = x; memory = memory })
calls_so pc x memory = grind arith

-- and no instruction retires by it but to print
calls_answer : (m : Machine) → (calls m).answer ≡ Ok Retired → ⊥
calls_answer m = grind arith

-- ---- each halt

halt_ends : (d : Debugged) (halt : Halt) (answer : Result Stepped AllocError) (pc : ℕ) → d.check_due ≡ false → turns_back d.goal ≡ false
    → Halts d.hart.pc halt (position_of d) → settles halt d.hart.pc d.hart.x answer pc → EndsWith d answer (at_pc d pc)
halt_ends d (Stopped cause) answer pc due forward h s = rw (s.0, s.1) (
  λ e. grind arith,
  settled_ticks d d.hart d.memory h.instr (Trap cause) due forward h.fetched h.says,
)
halt_ends d NoMemory answer pc due forward h s = rw (s.0, s.1)
    (refl, record { moves = due; needs = λ f. h.says; back = λ t. absurd (let never : false ≡ true = sym forward ∙ t in cc) })
halt_ends d Breaks answer pc due forward h s = rw (s.0, s.1) (
  λ e. grind arith,
  settled_ticks d (record d.hart { pc = sum d.hart.pc 4 }) d.memory (Some Ebreak) Break due forward (rw h.says.0 at h.fetched) h.says.1,
)
halt_ends d Calls answer pc due forward h s = go answer effect (subst (IsMove (machine_of d.hart d.memory)) (sym effect) h.says.1) where
  made : Result Stepped AllocError → Effect
  made answer = record { answer = answer; machine = machine_of (record d.hart { pc = pc }) d.memory }

  effect : made answer ≡ calls (machine_of d.hart d.memory)
  effect = ap (with_memory d.memory) s ∙ calls_so d.hart.pc d.hart.x d.memory

  go : (answer : Result Stepped AllocError) → made answer ≡ calls (machine_of d.hart d.memory)
      → IsMove (machine_of d.hart d.memory) (made answer) → EndsWith d answer (at_pc d pc)
  go (Ok Retired) e m = absurd (calls_answer (machine_of d.hart d.memory) (ap (λ (x : Effect). x.answer) (sym e)))
  go (Ok s) e m = (
    λ plain. grind arith,
    settled_ticks d (record d.hart { pc = pc }) d.memory (Some Ecall) s due forward (rw h.says.0 at h.fetched) m,
  )
  go (Err error) e m = absurd (let never : false ≡ true = moves_answer (machine_of d.hart d.memory) (made (Err error)) m in cc)

-- ---- once its move was recorded and counted

-- where a course stands, with this many retired in all
abbrev pub standing : Course → ℕ → Debugged → Debugged
standing c n d = record d { hart = c.now.hart; memory = c.now.memory; calls = c.now.calls; past = c.past; retired = n }

-- a course that was settled
abbrev pub settled_to : ℕ → Result Stepped AllocError → Course → Course
settled_to pc answer c = record { now = position_at pc c.now; past = past_after answer c }

-- how that ends a run of the machine of this view
module _ (d now : Debugged) (is : d ≡ now) (due : now.check_due ≡ false) (forward : turns_back now.goal ≡ false) (halt : Halt)
    (halts : Halts now.hart.pc halt (position_of now)) where
  pub halt_ticks : (s : Stepped) (pc count : ℕ) (c : Course) (tick : Tick) (after : Debugged)
      → settles halt d.hart.pc d.hart.x (Ok s) pc → c ≡ settled_to pc (Ok s) (course_of d) → count ≡ counted_by s
      → tick ≡ tick_of s None 0 (standing c (d.retired + count) d) → after ≡ left_by s (standing c (d.retired + count) d)
      → (tick ≢ plain_tick) × IsTick now (Ok tick) after
  halt_ticks s pc count c tick after m to counted told left =
      let tick_is : tick ≡ tick_of s None 0 (at_pc d pc) = grind arith in
      let after_is : after ≡ settled s None d (at_pc d pc) = grind arith in
      rw (← is, tick_is, after_is) (halt_ends d halt (Ok s) pc (rw is due) (rw is forward) (rw is halts) m)

  pub halt_lacks : (error : AllocError) (pc : ℕ) (c : Course) → settles halt d.hart.pc d.hart.x (Err error) pc
      → c ≡ settled_to pc (Err error) (course_of d) → (standing c d.retired d ≡ now) × MayLackMemory now
  halt_lacks error pc c m to =
      let lacks = halt_ends d halt (Err error) pc (rw is due) (rw is forward) (rw is halts) m in
      (ap (λ (x : Course). standing x d.retired d) to ∙ lacks.0 ∙ is, rw is at lacks.1)
