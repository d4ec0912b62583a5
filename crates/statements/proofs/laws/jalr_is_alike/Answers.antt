use Rattle.statements.proofs.Common.{access_with, and_left, and_then, arith, begins_low, codes, IsOperand, JumpAndLinkRegister, LineError, List, Low, lower, not, not-true, Ok, read, refl, register_in, Result, sym, with_three, with_two, ℕ, ◌∙◌, ◌≡◌}
use Rattle.statements.proofs.Addresses.{IsAddress, IsLow, address_means, inner, low_number, low_part, no_blanks, part_address, plain_address}
use Rattle.statements.proofs.AnyOperands.{three_means}
use Rattle.statements.specs.declared.operations.ImmediateOperation.TheVariants as m

at_address : (x y : Result ℕ LineError) (z : Result Low LineError)
    → and_then x (λ rd. and_then y (λ rs1. and_then z (λ imm. Ok (lower m.Jalr rd rs1 imm))))
    ≡ and_then x (λ rd. and_then (access_with z y) (λ access. Ok (lower m.Jalr rd access.base access.offset)))
at_address x y z = grind arith

jalr_so : {d s i address : List ℕ} {low : Result Low LineError} → IsOperand d → IsOperand s → IsLow i low
    → IsAddress address (access_with low (register_in s)) → read (with_three (codes "jalr") d s i) ≡ read (with_two (codes "jalr") d address)
jalr_so {d} {s} {low = low} o p a b =
    three_means (codes "jalr") refl o p a.0 (rw a.1 (at_address (register_in d) (register_in s) low))
    ∙ sym (address_means (codes "jalr") JumpAndLinkRegister refl refl o b refl)

pub returns : Rattle.statements.proofs.laws.jalr_is_alike.Goals.returns
returns c = record {
  number = λ d s i od os oi u. jalr_so od os (oi, low_number i (not-true (begins_low i) (and_left (not (begins_low i)) _ u))) (plain_address i s no_blanks oi u (inner os));
  part = λ d s x od os n u. jalr_so od os (low_part x no_blanks n) (part_address x s no_blanks no_blanks n u (inner os));
}
