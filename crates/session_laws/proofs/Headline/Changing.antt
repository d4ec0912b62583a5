-- `setVariable` and `writeMemory`: what is known of registers and of memory is so after the change.
use Rattle.session_laws.proofs.Headline.Common.{[], address_in, ap, AreRegisters, arith, byte_at, bytes_eq, can_begin, cond, drop, eqb, eqb-false, eqb-true, Err, Facts, false, fault_at, find_at, Frame, get_or-set_other, get_or-set_same, Hart, has, has_bytes, HoldsAt, if_keeps, IfOk, inl, inr, leb, length, length-take, List, lt-ltb, ltb, ltb-true, min, name_answer, nat_tests, None, Numbers, offset_by, Ok, Option, position_or_len, Program, range_with_len, refl, Refusal, register_at, register_of, Registers, Result, set_in, Setting, setting_of, SetVariableArguments, slice_get_within, Some, Stack, start_at, subst, suc, succeeded, sym, take, Target, Terms, TooMuch, true, value_of, valued, with_bytes, with_hart, with_register, word_of, Writing, writings_fit, written, zero, ℕ, ◌&&◌, ◌+◌, ◌-◌, ◌<◌, ◌^◌, ◌∙◌, ◌≡◌, ◌≤◌, ◌⊎◌}
use Rattle.answers.specs.WriteMemory.{fitting, start_by, write_memory, written as written_by, written_at, writing_of}
use Rattle.image.proofs.Maps.{keeps_above, keeps_below, writes_bytes}
use Rattle.mirror.specs.Folding.{over}
use Rattle.mirror.specs.declared.asked.Asked.TheVariants as asks
use Rattle.protocol.specs.declared.write_memory.WriteMemoryArguments.{WriteMemoryArguments}
use Rattle.rv32i.specs.Names.{name_of, number_named}
use Rattle.session_laws.proofs.Headline.Agreeing.{Agrees, stand_agrees, Stands}
use Rattle.session_laws.proofs.Headline.Valuing.{over_all, value_at, valued_so}
use Rattle.session_laws.proofs.Headline.Showing.{get_range}

-- ---- one register is set

register_set : (hart : Hart) (n value : ℕ) → length hart.x ≡ 32 → ltb (suc n) 32 ≡ true
    → register_at (with_register hart (suc n) value) (suc n) ≡ Some value
register_set hart n value long less =
    let small = ltb-true (suc n) 32 less in
    let set = get_or-set_same hart.x (suc n) value 0 (omega (arith, long, small)) in
    value_at (with_register hart (suc n) value) (suc n) less ∙ ap (λ (v : ℕ). Some v) set

register_kept : (hart : Hart) (n value k : ℕ) → eqb (suc n) k ≡ false
    → register_at (with_register hart (suc n) value) k ≡ register_at hart k
register_kept hart n value k other =
    ap (λ (v : ℕ). cond (eqb k 32) (Some hart.pc) (cond (ltb k 32) (Some v) None))
    (get_or-set_other hart.x (suc n) k value 0 (λ e. eqb-false (suc n) k other (sym e)))

-- ---- the register that is named

record IsRegister (name : List ℕ) (r : ℕ) : Type 0 where
  named : register_of name ≡ Some r
  less : ltb r 32 ≡ true
  some : eqb r 0 ≡ false

number_less : (name : List ℕ) (r : ℕ) → number_named name ≡ Some r → ltb r 32 ≡ true
unfolding number_named
number_less name r e =
    let test = λ (number : ℕ). bytes_eq (name_of number) name in
    let place = position_or_len test (range_with_len 0 32) in
    let got = get_range 0 32 place r (sym (find_at test (range_with_len 0 32)) ∙ e) in
    let is = got.0 in
    let less = got.1 in lt-ltb r 32 (omega (arith, is, less))

which : (name : List ℕ) (r : ℕ) → name_answer name ≡ Ok r → IsRegister name r
which name r e =
    let is : number_named name ≡ Some r = grind arith in
    record { named = grind (arith, is); less = number_less name r is; some = grind arith }

-- ---- `setVariable`

module _ (f : Facts) (p : Program) (numbers : Numbers) (terms : Terms) (s : Stands f p numbers terms) (arguments : SetVariableArguments) where
  set_agrees : (r value : ℕ) → AreRegisters p.machine.hart.x → IsRegister arguments.name r
      → Agrees (record f { register = valued (register_of arguments.name) value f.register })
      (Some (with_hart (with_register p.machine.hart r value) p)) numbers terms
  set_agrees zero value registers is = absurd (let no : true ≡ false = is.some in cc)
  set_agrees (suc n) value registers is =
      let hart = p.machine.hart in
      let h = s.agrees.holds in
      stand_agrees f p (with_register hart (suc n) value) p.machine.memory [] numbers numbers terms f.frame
      (valued (register_of arguments.name) value f.register) f.byte s h.frame
      (rw is.named (valued_so (suc n) value f.register (register_at hart) (register_at (with_register hart (suc n) value))
      (register_set hart n value registers.count is.less) (register_kept hart n value) h.register))
      h.byte s.agrees.numbered

  abbrev pub SetSo : Result Setting Refusal → Type 0
  SetSo result =
      IfOk result (λ setting. Agrees (succeeded setting.body (asks.SetVariable arguments.name) f)
      (Some (with_hart setting.hart p)) numbers terms)

  pub setting_so : AreRegisters p.machine.hart.x → (found : Result Target Refusal) → SetSo (set_in arguments p.machine found)
  setting_so registers (Ok (Frame index)) = tt
  setting_so registers (Ok Registers) = by (name_answer arguments.name) refl (value_of arguments.value) where
    by : (named : Result ℕ Refusal) → name_answer arguments.name ≡ named → (value : Option ℕ)
        → SetSo (setting_of p.machine.hart named value)
    by (Err refusal) e value = tt
    by (Ok r) e None = tt
    by (Ok r) e (Some value) = set_agrees r value registers (which arguments.name r e)
  setting_so registers (Ok Stack) = tt
  setting_so registers (Err refusal) = tt

-- ---- `writeMemory`

abbrev IsOutside : ℕ → ℕ → ℕ → Type 0
IsOutside first count place = (place < first) ⊎ (first + count ≤ place)

-- a place at which nothing is written, where what is written ends at an address
outside : (first count place : ℕ) → count ≤ 4294967296 - first
    → (leb first place && ltb place (first + count) && ltb place (2 ^ 32)) ≡ false → IsOutside first count place
outside first count place fits e = grind (arith, nat_tests)

written_hold : (memory : List ℕ) (address : ℕ) (bytes : List ℕ) (old : ℕ → Option ℕ) → length bytes ≤ 4294967296 - address
    → has_bytes memory address (length bytes) ≡ true → HoldsAt old (byte_at memory)
    → HoldsAt (over address bytes old) (byte_at (with_bytes memory address bytes))
written_hold memory address bytes old fits has h =
    over_all (λ place x. byte_at (with_bytes memory address bytes) place ≡ Some x) address bytes old
    (λ j x e. writes_bytes memory address j bytes has (slice_get_within bytes j x e) ∙ e)
    (λ place x out e. kept place (outside address (length bytes) place fits out) ∙ h place x e) where
      kept : (place : ℕ) → IsOutside address (length bytes) place → byte_at (with_bytes memory address bytes) place ≡ byte_at memory place
      kept place (inl below) = keeps_below memory address place bytes has below
      kept place (inr above) = keeps_above memory address place bytes has above

no_fault : (memory : List ℕ) (address count : ℕ) → fault_at memory 1 address count ≡ None → has_bytes memory address count ≡ true
no_fault memory address count e = grind arith

module _ (f : Facts) (p : Program) (numbers : Numbers) (terms : Terms) (s : Stands f p numbers terms) (arguments : WriteMemoryArguments) where
  write_agrees : (address : ℕ) (bytes : List ℕ) → length bytes ≤ 4294967296 - address
      → fault_at p.machine.memory 1 address (length bytes) ≡ None
      → Agrees (record f { byte = over address bytes f.byte }) (Some (written address bytes p)) numbers terms
  write_agrees address bytes fits none =
      let memory = p.machine.memory in
      let h = s.agrees.holds in
      stand_agrees f p p.machine.hart (written address bytes p).machine.memory (written address bytes p).machine.past numbers numbers terms
      f.frame f.register (over address bytes f.byte) s h.frame h.register
      (rw none (written_hold memory address bytes f.byte fits (no_fault memory address (length bytes) none) h.byte))
      s.agrees.numbered

  abbrev pub WriteSo : Option ℕ → Result Writing Refusal → Type 0
  WriteSo place result =
      IfOk result (λ writing. Agrees (succeeded writing.body (asks.WriteMemory place arguments.bytes) f)
      (Some (written writing.address (take writing.count arguments.bytes) p)) numbers terms)

  -- where what is written fits
  abbrev Writes : Option ℕ → Result Writing Refusal → Type 0
  Writes place result =
      IfOk result (λ writing. (writing.count ≤ length arguments.bytes)
      × (fault_at p.machine.memory 1 writing.address writing.count ≡ None)) → WriteSo place result

  writes_so : (address count : ℕ) → count ≤ 4294967296 - address → Writes (Some address) (Ok (writing_of address count))
  writes_so address count room fits =
      let few = fits.0 in
      let long : length (take count arguments.bytes) ≡ count = let e = length-take count arguments.bytes in omega (arith, e, few) in
      write_agrees address (take count arguments.bytes) (rw long room) (rw long fits.1)

  written_so : (address : ℕ)
      → Writes (Some address) (written_at p.machine.memory arguments.allow_partial (length arguments.bytes) address)
  written_so address =
      let all = length arguments.bytes in
      let some = fitting p.machine.memory all address in
      let room : some ≤ 4294967296 - address =
      let e = length-take (min all (4294967296 - address)) (drop (address - 65536) p.machine.memory) in omega (arith, e) in
      if_keeps (Writes (Some address)) (eqb some all) _ _
      (λ same. writes_so address all (subst (λ (n : ℕ). n ≤ 4294967296 - address) (eqb-true some all same) room))
      (λ _. if_keeps (Writes (Some address)) arguments.allow_partial _ _ (λ _. writes_so address some room) (λ _ _. tt))

  starts_so : (place : Option ℕ)
      → Writes place (written_by p.machine.memory arguments (start_at p.machine.memory (length arguments.bytes) place))
  starts_so None = λ fits. tt
  starts_so (Some address) =
      if_keeps (λ (start : Result ℕ Refusal). Writes (Some address) (written_by p.machine.memory arguments start))
      (can_begin p.machine.memory (length arguments.bytes) address) _ _ (λ _. written_so address) (λ _ fits. tt)

  pub writing_so : WriteSo (address_in arguments.memory_reference arguments.offset) (write_memory arguments p.machine.memory)
  writing_so = by (word_of arguments.memory_reference) (writings_fit arguments p.machine.memory) where
    by : (reference : Option ℕ)
        → Writes (offset_by arguments.offset reference) (written_by p.machine.memory arguments (start_by p.machine.memory arguments reference))
    by None = λ fits. tt
    by (Some reference) =
        if_keeps (λ (start : Result ℕ Refusal). Writes (offset_by arguments.offset (Some reference)) (written_by p.machine.memory arguments start))
        (ltb 65536 (length arguments.bytes)) (Err TooMuch) _ (λ _ fits. tt) (λ _. starts_so (offset_by arguments.offset (Some reference)))
