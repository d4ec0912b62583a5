use Rattle.statements.proofs.Common.{codes, cond-true, is_name, refl}
use Rattle.statements.proofs.Addresses.{register_is}
use Rattle.statements.proofs.AnyOperands.{name_operand, register_operand, three_means, three_ok, two_means, two_ok}

pub returns : Rattle.statements.proofs.laws.labels_are_targets.Goals.returns
returns c = record {
  branch = λ name a b label condition rs1 rs2 e n k h.
      three_means name e (register_operand n) (register_operand k) (name_operand label h)
      (three_ok _ (register_is n) (register_is k) (cond-true (is_name label) _ _ h));
  jump = λ d label rd n h.
      two_means (codes "jal") refl (register_operand n) (name_operand label h) (two_ok _ (register_is n) (cond-true (is_name label) _ _ h));
}
