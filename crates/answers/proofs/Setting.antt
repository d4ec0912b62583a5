-- A register that is set.
use Rattle.answers.proofs.Common.{ap, Bool, bytes_eq, codes, cond, eqb, Err, false, Hart, List, name_answer, None, NotWritable, Ok, Option, refl, Refusal, Result, setting_of, SetVariable, Some, suc, sym, true, unless_zero, value_answer, with_register, with_value, zero, ℕ, ◌∙◌, ◌≡◌}
use Rattle.stepping.proofs.Determined.{harts_equal}
use Rattle.rv32i.specs.Names.{number_named}

-- no name is that of x0
not_zero : (found : Option ℕ) → unless_zero found ≡ Ok 0 → ⊥
not_zero None e = cc
not_zero (Some number) e = by (eqb number 0) refl where
  clash : eqb number 0 ≡ true → eqb number 0 ≡ false → ⊥
  clash a b = cc

  by : (b : Bool) → eqb number 0 ≡ b → ⊥
  by true is =
      let none : unless_zero (Some number) ≡ Err NotWritable = ap (λ (b : Bool). cond b (Err NotWritable) (Ok number)) is in absurd (cc)
  by false is =
      let yes : unless_zero (Some number) ≡ Ok number = ap (λ (b : Bool). cond b (Err NotWritable) (Ok number)) is in
      let same : number ≡ 0 = cc in
      absurd (clash (ap (λ (n : ℕ). eqb n 0) same ∙ refl) is)

name_not_zero : (name : List ℕ) → name_answer name ≡ Ok 0 → ⊥
name_not_zero name e = by (bytes_eq name (codes "pc")) refl where
  by : (b : Bool) → bytes_eq name (codes "pc") ≡ b → ⊥
  by true is =
      let none : name_answer name ≡ Err NotWritable = ap (λ (b : Bool). cond b (Err NotWritable) (unless_zero (number_named name))) is in
      absurd (cc)
  by false is = not_zero (number_named name) (sym (ap (λ (b : Bool). cond b (Err NotWritable) (unless_zero (number_named name))) is) ∙ e)

pub refused : (hart : Hart) (named : Result ℕ Refusal) (value : Option ℕ) (refusal : Refusal) → Err refusal ≡ value_answer named value
    → Err refusal ≡ setting_of hart named value
refused hart (Err other) value refusal e = let same : refusal ≡ other = cc in ap (λ (r : Refusal). Err r) same
refused hart (Ok number) None refusal e = let same : Err refusal ≡ value_answer (Ok number) None = e in cc
refused hart (Ok number) (Some v) refusal e = absurd (cc)

set_by : (hart new : Hart) (named : Result ℕ Refusal) (value : Option ℕ) (v : ℕ) → (named ≡ Ok 0 → ⊥) → Ok v ≡ value_answer named value
    → new.x ≡ with_value named value hart.x → new.pc ≡ hart.pc
    → Ok (record { body = SetVariable (record { value = v }); hart = new }) ≡ setting_of hart named value
set_by hart new (Err refusal) value v some e x pc = absurd (cc)
set_by hart new (Ok number) None v some e x pc = absurd (cc)
set_by hart new (Ok zero) (Some w) v some e x pc = absurd (some refl)
set_by hart new (Ok (suc number)) (Some w) v some e x pc =
    let same : v ≡ w = cc in
    let harts : new ≡ with_register hart (suc number) w = harts_equal new (with_register hart (suc number) w) pc x in
    ap (λ (n : ℕ). Ok (record { body = SetVariable (record { value = n }); hart = new })) same
    ∙ ap (λ (h : Hart). Ok (record { body = SetVariable (record { value = w }); hart = h })) harts

pub set : (hart new : Hart) (name : List ℕ) (value : Option ℕ) (v : ℕ) → Ok v ≡ value_answer (name_answer name) value
    → new.x ≡ with_value (name_answer name) value hart.x → new.pc ≡ hart.pc
    → Ok (record { body = SetVariable (record { value = v }); hart = new }) ≡ setting_of hart (name_answer name) value
set hart new name value v e x pc = set_by hart new (name_answer name) value v (name_not_zero name) e x pc
