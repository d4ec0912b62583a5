-- `variables` and `readMemory`: the registers and the bytes that their successes tell have these values.
use Rattle.session_laws.proofs.Headline.Common.{[], after_variable, after_variables, All, All-drop, All-head, All-map, All-nil, All-push, All-tail, All-take, AllPass-from_list_all, and_parts, arith, Asked, at_most, begins, Bool, byte_at, bytes_from, can_begin, codes, drop, eqb, eqb-true, Err, Facts, false, Filter, first_address, Frame, Hart, HoldsAt, if_keeps, IfOk, Indexed, IsTrue, leb, leb-true, length, List, list_all, ltb, map, min, nat_tests, None, Numbers, offset_by, Ok, Option, Program, read, ReadMemoryArguments, refl, Refusal, register_at, register_of, Registers, ResponseBody, Result, same_Some, slice_get, slice_index, Some, Stack, start, start_at, start_by, subst, suc, succeeded, sym, take, Target, Terms, true, valued, Variable, VariablesArguments, zero, ℕ, ◌&&◌, ◌++◌, ◌+◌, ◌-◌, ◌<◌, ◌^◌, ◌∙◌, ◌∷◌, ◌≡◌}
use Rattle.answers.specs.Variables.{asked_of, body_by, of_kind, variables_in}
use Rattle.mirror.specs.declared.asked.Asked.TheVariants as asks
use Rattle.rv32i.specs.Names.{name_of, number_named}
use Rattle.variables.specs.Registers.{counter, numbers as register_numbers, register, registers}
use Rattle.variables.specs.Stack.{stack_words, word}
use Rattle.answers.proofs.MemoryBytes.{begins_inside, byte_there}
use Rattle.mirror.specs.Folding.{over}
use Rattle.session_laws.proofs.Headline.Agreeing.{Agrees, never, stand_agrees, Stands}

-- a variable that has a register's name has its value
abbrev pub IsTrueOf : Hart → Variable → Type 0
IsTrueOf hart v = (number : ℕ) → register_of v.name ≡ Some number → register_at hart number ≡ Some v.value

abbrev AllTrue : Hart → List Variable → Type 0
AllTrue hart list = All (IsTrueOf hart) list

-- ---- what is known of registers

-- what was known of the registers, with one more value, is so where that is
pub valued_so : (r value : ℕ) (old was so : ℕ → Option ℕ) → so r ≡ Some value → ((k : ℕ) → eqb r k ≡ false → so k ≡ was k) → HoldsAt old was
    → HoldsAt (valued (Some r) value old) so
valued_so r value old was so is others h place x e =
    if_keeps (λ (y : Option ℕ). y ≡ Some x → so place ≡ Some x) (eqb r place) (Some value) (old place)
    (λ same e. subst (λ (k : ℕ). so k ≡ Some value) (eqb-true r place same) is ∙ e) (λ other e. others place other ∙ h place x e) e

after_variables_hold : (hart : Hart) (list : List Variable) (old : ℕ → Option ℕ) → AllTrue hart list → HoldsAt old (register_at hart)
    → HoldsAt (after_variables old list) (register_at hart)
after_variables_hold hart [] old t h = h
after_variables_hold hart (v ∷ list) old t h =
    after_variables_hold hart list (after_variable old v) (All-tail (IsTrueOf hart) v list t)
    (elim (register_of v.name) as (λ register. ((number : ℕ) → register ≡ Some number → register_at hart number ≡ Some v.value)
    → HoldsAt (valued register v.value old) (register_at hart)) [
      | None ↦ λ is. h
      | Some r ↦ λ is. valued_so r v.value old (register_at hart) (register_at hart) (is r refl) (λ _ _. refl) h
    ] (All-head (IsTrueOf hart) v list t))

-- ---- parts of a list

at_most_true : (hart : Hart) (count : Option ℕ) (list : List Variable) → AllTrue hart list → AllTrue hart (at_most count list)
at_most_true hart None list h = h
at_most_true hart (Some count) list h =
    if_keeps (AllTrue hart) (eqb count 0) list (take count list) (λ _. h) (λ _. All-take (IsTrueOf hart) count list h)

of_kind_true : (hart : Hart) (filter : Option Filter) (list : List Variable) → AllTrue hart list → AllTrue hart (of_kind filter list)
of_kind_true hart (Some Indexed) list h = All-nil (IsTrueOf hart)
of_kind_true hart _ list h = h

asked_true : (hart : Hart) (arguments : VariablesArguments) (list : List Variable) → AllTrue hart list
    → AllTrue hart (asked_of arguments list)
asked_true hart arguments list h =
    let kind : List Variable = of_kind arguments.filter list in
    at_most_true hart arguments.count (drop arguments.start kind)
    (All-drop (IsTrueOf hart) arguments.start kind (of_kind_true hart arguments.filter list h))

-- ---- the two lists

-- a register's number is the one that its name has
is_number : Option ℕ → ℕ → Bool
is_number None number = false
is_number (Some n) number = eqb n number && ltb number 32

they_are : list_all (λ n. is_number (register_of (name_of n)) n) register_numbers ≡ true
unfolding is_number number_named
they_are = refl

pub value_at : (hart : Hart) (n : ℕ) → ltb n 32 ≡ true → register_at hart n ≡ Some (slice_index hart.x n)
value_at hart n e = let other : eqb n 32 ≡ false = grind (arith, nat_tests, e) in rw (other, e)

register_true : (hart : Hart) (n : ℕ) (is : Option ℕ) → register_of (name_of n) ≡ is → is_number is n ≡ true
    → IsTrueOf hart (register hart n)
unfolding is_number
register_true hart n None named so = absurd (let no : false ≡ true = so in cc)
register_true hart n (Some m) named so = λ number e.
    let two = and_parts (eqb m n) (ltb n 32) so in
    let same : number ≡ n = same_Some number m (sym e ∙ named) ∙ eqb-true m n two.0 in
    subst (λ (k : ℕ). register_at hart k ≡ Some (slice_index hart.x n)) (sym same) (value_at hart n two.1)

registers_true : (hart : Hart) → AllTrue hart (registers hart)
unfolding registers
registers_true hart =
    All-push (IsTrueOf hart) (map (register hart) register_numbers) (counter hart)
    (All-map (IsTrueOf hart) (register hart) register_numbers
    (λ k d less. register_true hart _ _ refl (AllPass-from_list_all (λ n. is_number (register_of (name_of n)) n) register_numbers they_are k d less)))
    (λ number e. subst (λ (k : ℕ). register_at hart k ≡ Some hart.pc) (same_Some 32 number e) refl)

no_register : (rest : List ℕ) → register_of (codes "sp+" ++ rest) ≡ None
unfolding number_named
no_register rest = refl

stack_true : (hart : Hart) (memory : List ℕ) → AllTrue hart (stack_words hart memory)
unfolding stack_words
stack_true hart memory =
    All-map (IsTrueOf hart) (word memory (slice_index hart.x 2)) _ (λ _ _ _ number e. never number (sym (no_register _) ∙ e))

-- ---- places

-- what is so of each that a list tells, and of what was known outside of it, is so of what is known then
pub over_all : {A : Type 0} (P : ℕ → A → Type 0) (first : ℕ) (items : List A) (old : ℕ → Option A)
    → ((j : ℕ) → (x : A) → slice_get items j ≡ Some x → P (first + j) x)
    → ((place : ℕ) → (x : A) → (leb first place && ltb place (first + length items) && ltb place (2 ^ 32)) ≡ false → old place ≡ Some x → P place x)
    → (place : ℕ) → (x : A) → over first items old place ≡ Some x → P place x
unfolding over
over_all {A = A} P first items old each before place x e =
    if_keeps (λ (found : Option A). found ≡ Some x → P place x)
    (leb first place && ltb place (first + length items) && ltb place (2 ^ 32)) _ _
    (λ so e.
    let low = leb-true first place (and_parts _ _ (and_parts _ _ so).0).0 in
    let there : first + (place - first) ≡ place = omega (arith, low) in
    subst (λ (k : ℕ). P k x) there (each (place - first) x e)) (λ so e. before place x so e) e

pub get_take : {A : Type 0} (n : ℕ) (l : List A) (j : ℕ) (x : A) → slice_get (take n l) j ≡ Some x → (slice_get l j ≡ Some x) × (j < n)
get_take {A = A} zero l j x e = never x e
get_take {A = A} (suc n) [] j x e = never x e
get_take {A = A} (suc n) (y ∷ l) zero x e = (e, omega arith)
get_take {A = A} (suc n) (y ∷ l) (suc j) x e = let rest = get_take {A = A} n l j x e in (rest.0, let less = rest.1 in omega (arith, less))

bytes_so : (memory : List ℕ) (count address : ℕ) → IsTrue (can_begin memory count address) → (j x : ℕ)
    → slice_get (bytes_from memory count address) j ≡ Some x → byte_at memory (address + j) ≡ Some x
bytes_so memory count address begins j x e =
    let got = get_take (min count (4294967296 - address)) (drop (address - first_address) memory) j x e in
    let few : j < count = let less = got.1 in omega (arith, less) in
    sym (byte_there memory address j (begins_inside memory count address j begins few)) ∙ got.0

-- ---- the answers

-- the body that an answer is
pub that_body : (P : ResponseBody → Type 0) (a b : ResponseBody) → P a → (let r : Result ResponseBody Refusal = Ok a in r ≡ Ok b) → P b
that_body P a b h e = subst P (let same : a ≡ b = cc in same) h

module _ (f : Facts) (p : Program) (numbers : Numbers) (terms : Terms) (s : Stands f p numbers terms) where
  listed_agrees : (arguments : VariablesArguments) (list : List Variable) → AllTrue p.machine.hart list
      → Agrees (record f { register = after_variables f.register (asked_of arguments list) }) (Some p) numbers terms
  listed_agrees arguments list all =
      let hart = p.machine.hart in
      let h = s.agrees.holds in
      stand_agrees f p hart p.machine.memory p.machine.past numbers numbers terms f.frame
      (after_variables f.register (asked_of arguments list)) f.byte s h.frame
      (after_variables_hold hart (asked_of arguments list) f.register (asked_true hart arguments list all) h.register) h.byte s.agrees.numbered

  abbrev TellsSo : Asked → ResponseBody → Type 0
  TellsSo asked body = Agrees (succeeded body asked f) (Some p) numbers terms

  pub variables_agree : (arguments : VariablesArguments) (found : Result Target Refusal)
      → IfOk (body_by arguments (variables_in p.machine found)) (TellsSo asks.Variables)
  variables_agree arguments (Ok (Frame index)) = tt
  variables_agree arguments (Ok Registers) = listed_agrees arguments (registers p.machine.hart) (registers_true p.machine.hart)
  variables_agree arguments (Ok Stack) =
      listed_agrees arguments (stack_words p.machine.hart p.machine.memory) (stack_true p.machine.hart p.machine.memory)
  variables_agree arguments (Err refusal) = tt

  abbrev Reads : ℕ → Result ℕ Refusal → Type 0
  Reads count start = IfOk (read p.machine.memory count start) (TellsSo asks.ReadMemory)

  bytes_agree : (count address : ℕ) → IsTrue (can_begin p.machine.memory count address)
      → Agrees (record f { byte = over address (bytes_from p.machine.memory count address) f.byte }) (Some p) numbers terms
  bytes_agree count address begins =
      let memory = p.machine.memory in
      let h = s.agrees.holds in
      stand_agrees f p p.machine.hart memory p.machine.past numbers numbers terms f.frame f.register
      (over address (bytes_from memory count address) f.byte) s h.frame h.register
      (over_all (λ place x. byte_at memory place ≡ Some x) address (bytes_from memory count address) f.byte
      (bytes_so memory count address begins) (λ place x _ e. h.byte place x e)) s.agrees.numbered

  read_at : (count : ℕ) (address : Option ℕ) → Reads count (start_at p.machine.memory count address)
  read_at count None = tt
  read_at count (Some address) =
      if_keeps (Reads count) (can_begin p.machine.memory count address) (Ok address) _ (bytes_agree count address) (λ _. tt)

  pub read_agrees : (arguments : ReadMemoryArguments) (reference : Option ℕ)
      → Reads arguments.count (start_by p.machine.memory arguments reference)
  read_agrees arguments None = tt
  read_agrees arguments (Some reference) =
      if_keeps (Reads arguments.count) (ltb 65536 arguments.count) _ _ (λ _. tt)
      (λ _. read_at arguments.count (offset_by arguments.offset (Some reference)))
