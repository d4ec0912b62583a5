-- A machine has one tick. Its move is the only one, so the hart after it is known by pc and registers, and all else that
-- a tick answers and leaves follows.
use Rattle.stepping.proofs.Common.{AllocError, ap, Cause, Debugged, decoded_is_fetched, Effect, effect_of, Encodes, Err, fetch_fault, FetchOutside, Hart, Illegal, Instr, IsDecodedAtPc, IsDecoding, IsFetched, IsIllegal, IsMove, JumpMisaligned, List, Machine, machine_of, MatchResult, MemFault, moved_as, Moves, None, Ok, one_move, Option, refl, Result, Some, Stepped, sym, Tick, TickIsDeterministic, trapped, word_at, ℕ, ◌∙◌, ◌≡◌}
use Rattle.image.specs.declared.fault.MemFault.TheVariants as fault
use Rattle.rv32i.proofs.Moving.{one_decoding, the_decoding}
pub use Rattle.course.proofs.Moving.{harts_equal}
use Rattle.stepping.proofs.Cases.{back_of, by_tick, entry_of, move_of}

-- ---- what a machine fetches

abbrev Fetched : Option Instr → Result ℕ MemFault → Type 0
Fetched instr word = MatchResult word (λ w. IsDecoding w instr) (λ fault. instr ≡ None)

-- it is one instruction, or none
pub one_fetched : (m : Machine) (a b : Option Instr) → IsFetched m a → IsFetched m b → a ≡ b
one_fetched m a b x y = go (word_at m.memory m.pc) x y where
  go : (word : Result ℕ MemFault) → Fetched a word → Fetched b word → a ≡ b
  go (Ok w) d e = one_decoding w a b d e
  go (Err fault) d e = d ∙ sym e

pub one_decoded : (m : Machine) (i j : Instr) → IsDecodedAtPc m (Some i) → IsDecodedAtPc m (Some j) → i ≡ j
one_decoded m i j a b =
    let both : Some i ≡ Some j = one_fetched m (Some i) (Some j) (decoded_is_fetched m (Some i) a) (decoded_is_fetched m (Some j) b) in cc

pub fetches : (m : Machine) → (instr : Option Instr) × IsFetched m instr
fetches m = go (word_at m.memory m.pc) refl where
  go : (word : Result ℕ MemFault) → word_at m.memory m.pc ≡ word → (instr : Option Instr) × IsFetched m instr
  go (Ok w) e = let d = the_decoding w in (d.instr, rw e d.is)
  go (Err fault) e = (None, rw e refl)

-- a move is what that instruction does, and a trap where there is none
abbrev pub Does : Machine → Effect → Option Instr → Type 0
Does m e (Some i) = IsDecodedAtPc m (Some i) × (e ≡ effect_of i m)
Does m e None = (cause : Cause) × (e ≡ trapped cause m)

pub does : (m : Machine) (e : Effect) (instr : Option Instr) → IsFetched m instr → IsMove m e → Does m e instr
does m e instr f i = go (word_at m.memory m.pc) refl instr f i where
  go : (word : Result ℕ MemFault) → word_at m.memory m.pc ≡ word → (instr : Option Instr) → Fetched instr word
      → MatchResult word (λ w. ((j : Instr) → Encodes j w → e ≡ effect_of j m) × (IsIllegal w → e ≡ trapped Illegal m)) (λ f. e ≡ fetch_fault f m)
      → Does m e instr
  go (Ok w) is (Some i) d h = ((w, (is, d)), h.0 i d)
  go (Ok w) is None d h = (Illegal, h.1 d)
  go (Err f) is (Some i) d h = absurd (cc)
  go (Err fault.Misaligned) is None d h = (JumpMisaligned, h)
  go (Err f) is None d h = (FetchOutside, h)

-- ---- one move

-- two moves answer the same, and leave the same
pub record Same (s t : Stepped) (h g : Hart) (k l : List ℕ) : Type 0 where
  pub stepped : s ≡ t
  pub hart : h ≡ g
  pub memory : k ≡ l

pub same_moves : (m : Machine) (s t : Stepped) (h g : Hart) (k l : List ℕ)
    → IsMove m (record { answer = Ok s; machine = machine_of h k }) → IsMove m (record { answer = Ok t; machine = machine_of g l })
    → Same s t h g k l
same_moves m s t h g k l a b =
    let e = one_move m _ _ a b in
    let both : Ok s ≡ Ok t = ap (λ (e : Effect). e.answer) e in
    record {
      stepped = cc;
      hart = harts_equal h g (ap (λ (e : Effect). e.machine.pc) e) (ap (λ (e : Effect). e.machine.x) e);
      memory = ap (λ (e : Effect). e.machine.memory) e;
    }

-- what a debugged machine leaves of a move is what it settles
pub one_settled : (before after other : Debugged) (answer another : Result Tick AllocError) → Moves before answer after
    → Moves before another other → (answer ≡ another) × (after ≡ other)
one_settled before after other answer another a b =
    let m = machine_of before.hart before.memory in
    let instr = one_fetched m a.instr b.instr a.fetched b.fetched in
    let same = same_moves m a.stepped b.stepped after.hart other.hart after.memory other.memory a.moved b.moved in
    let moved : moved_as before after ≡ moved_as before other = λ j. record before { hart = same.hart j; memory = same.memory j } in
    let settles = rw (same.stepped, instr, moved) at a.settles in
    (settles.0 ∙ sym b.settles.0, settles.1 ∙ sym b.settles.1)

pub tick_is_deterministic : TickIsDeterministic
tick_is_deterministic before after other answer another a b =
    by_tick before after answer a
    (λ due x. (let also = entry_of before other another due b in (x.0 ∙ sym also.0, x.1 ∙ sym also.1)))
    (λ due turns x. (let also = back_of before other another due turns b in (x.0 ∙ sym also.0, x.1 ∙ sym also.1)))
    (λ due forward x. one_settled before after other answer another x (move_of before other another due forward b))
