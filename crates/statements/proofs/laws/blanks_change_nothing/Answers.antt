use Rattle.statements.proofs.Common.{[], LineError, List, Low, refl, Result, SameImmediate, sym, ℕ, ◌∙◌}
use Rattle.statements.proofs.Addresses.{IsLow, bare_address, immediate_means, low_part, no_blanks, part_address, plain_address, same_address, upper_means}

same_immediate : {a b : List ℕ} {value : Result Low LineError} → IsLow a value → IsLow b value → SameImmediate a b
same_immediate p q name rd rs1 op e x y = immediate_means name e x y p refl ∙ sym (immediate_means name e x y q refl)

pub returns : Rattle.statements.proofs.laws.blanks_change_nothing.Goals.returns
returns c = record {
  offset = λ i r p q s o u n a b c. same_address (plain_address i r (p, q, s, a, b, c) o u n) (plain_address i r no_blanks o u n);
  register = λ r q s n b c. same_address (bare_address r q s b c n) (bare_address r [] [] refl refl n);
  part = λ x r p q s t u v nx ux n hp hq hs ht hu hv.
      same_address (part_address x r (p, q, s, hp, hq, hs) (t, u, v, ht, hu, hv) nx ux n) (part_address x r no_blanks no_blanks nx ux n);
  low = λ x p q s n a b c. same_immediate (low_part x (p, q, s, a, b, c) n) (low_part x no_blanks n);
  high = λ d x p q s o n a b c. upper_means d x (p, q, s, a, b, c) o n refl ∙ sym (upper_means d x no_blanks o n refl);
}
