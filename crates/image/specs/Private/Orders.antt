-- What a line table keeps beside what a contract sees of it, which is whether a label
-- can be found by halving.
use Rattle.std.specs.Prelude.{◌≡◌, ℕ, ◌≤◌, List, AllPairs, String}
use Rattle.std.specs.Map.{values_of}
use Rattle.image.specs.declared.lines.LabelOrder.{LabelOrder}
use Rattle.image.specs.declared.lines.LabelOrder.TheVariants.{Rising}
use Rattle.image.specs.Lines.{Row, RowsRise}

-- no address is less than one before it
abbrev pub NeverFall : List ℕ → Type 0
NeverFall addresses = AllPairs (λ address later. address ≤ later) addresses

-- the rows rise, and where the order says so, the labels' addresses never fall
pub record IsKept {Z : Type 0} (rows : List Row) (labels : List (String Z × ℕ)) (end : ℕ) (order : LabelOrder)
    : Type 0 where
  pub rise : RowsRise rows end
  pub rising : order ≡ Rising → NeverFall (values_of labels)
