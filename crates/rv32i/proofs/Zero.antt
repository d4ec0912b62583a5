-- x0 stays 0 where a register is set back.
use Rattle.rv32i.proofs.Common.{arith, Bool, cond, eqb, false, get_or-set_other, Machine, nat_tests, refl, slice_index, slice_set, true, ◌∙◌, ◌≡◌}
use Rattle.rv32i.specs.Undoing.{undone}
use Rattle.rv32i.specs.declared.undo.Undo.{Undo}

pub undone_zero : (u : Undo) (m : Machine) → slice_index m.x 0 ≡ 0 → slice_index (undone u m).x 0 ≡ 0
undone_zero u m h = by_test (eqb u.register 0) refl where
  by_test : (b : Bool) → eqb u.register 0 ≡ b → slice_index (cond b m.x (slice_set m.x u.register u.value)) 0 ≡ 0
  by_test true e = h
  by_test false e =
      get_or-set_other m.x u.register 0 u.value 0 (λ same. (let is : eqb u.register 0 ≡ true = grind (arith, nat_tests) in cc)) ∙ h
