-- The reads that files answered, one after the other.
use Rattle.transport.proofs.Common.{[], append-nil, append_assoc, AreUnused, arith, IsGiven, List, Option, read_for, Records, ℕ, ◌++◌}

-- nothing more is known
pub Records-nil : {X : Type 0} (a : Option (List X)) → Records a a []
Records-nil a = grind (arith, append-nil)

-- first these, and then those
pub Records-trans : {X : Type 0} (a b c : Option (List X)) (xs ys : List X) → Records a b xs → Records b c ys → Records a c (xs ++ ys)
Records-trans a b c xs ys p q = grind (arith, append_assoc)

-- a read whose file no answer was given is one of what the answer wants
pub unused : (wants file : Option (List ℕ)) → IsGiven wants file → AreUnused wants (read_for wants file)
unused wants file g = grind arith
