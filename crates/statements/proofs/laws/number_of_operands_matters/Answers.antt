use Rattle.statements.proofs.Common.{[], arith, BadOperand, commas, counted, Data, Err, false, length, List, meaning, Mnemonic, nat_tests, not, refl, suc, true, ℕ, ◌==◌, ◌∷◌, ◌≡◌}
use Rattle.statements.specs.RefusalLaws.{takes_count}
use Rattle.statements.proofs.AnyOperands.{list_means}

count_wrong : (mnemonic : Mnemonic) (list : List (List ℕ)) → takes_count mnemonic (length list) ≡ false
    → meaning mnemonic (counted list) (commas list) ≡ Err BadOperand
count_wrong (Data width) [] h = refl
count_wrong (Data width) (a ∷ more) h = let t : not (suc (length more) == 0) ≡ true = grind (arith, nat_tests) in cc
count_wrong mnemonic (a ∷ b ∷ c ∷ d ∷ more) h = refl
count_wrong mnemonic list h = cc

pub returns : Rattle.statements.proofs.laws.number_of_operands_matters.Goals.returns
returns c name mnemonic operands e o h = list_means name operands e o (count_wrong mnemonic operands h)
