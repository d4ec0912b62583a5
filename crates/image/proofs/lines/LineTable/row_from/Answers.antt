use Rattle.image.proofs.Common.{always_returns_same, ap, find, line_in, nat_le, nat_lt, of_calls, RowsRise, rules, slice_get, slice_get-get_or, slice_get_past, sym, Table, ◌∙◌, ◌≡◌}
use Rattle.image.proofs.Finding.{found_from_point}
use Rattle.image.proofs.Rows.{lines_tested, le_not_lt}
use Rattle.image.proofs.lines.LineTable.row_from.Goals as goal
use Rattle.image.proofs.lines.LineTable.row_from.Goals.{After-partition_point-index}

-- what the search of the rows found
found : (c : After-partition_point-index)
    → find (λ row. nat_le c.args.line (line_in row)) c.args.self.now.rows ≡ slice_get c.as_slice-rows.result.now c.partition_point-index.result
found c =
    let rows = c.as_slice-rows.result.now in
    let same : c.args.self.now.rows ≡ rows = ap (λ (t : Table). t.rows) (sym c.self.view_is) ∙ sym c.as_slice-rows.ensures.value in
    let rise : RowsRise rows c.self.inside.end = rw c.as_slice-rows.ensures.value c.self.invariant.rise in
    let point = c.partition_point-index.ensures.partitioned (λ row. nat_lt (line_in row) c.args.line)
    (always_returns_same _ _ _ (λ a r f k. search (rules, of_calls)))
    (λ i j d l m up. lines_tested rows c.self.inside.end c.args.line d rise i j l m up) in
    ap (find (λ row. nat_le c.args.line (line_in row))) same
    ∙ found_from_point (λ row. nat_lt (line_in row) c.args.line)
    (λ row. nat_le c.args.line (line_in row)) rows c.partition_point-index.result
    (λ row. le_not_lt c.args.line (line_in row)) c.partition_point-index.ensures.bound point.0 point.1

pub returns-then-index-rows-clause-row : goal.returns-then-index-rows-clause-row
returns-then-index-rows-clause-row c =
    sym (found (goal.at.returns-then-index-rows-clause-row c).After-partition_point-index
    ∙ slice_get-get_or c.as_slice-rows.result.now c.partition_point-index.result (0, 0, 0) c.if-index-rows.true)

pub returns-else-index-rows-clause-row : goal.returns-else-index-rows-clause-row
returns-else-index-rows-clause-row c =
    sym (found (goal.at.returns-else-index-rows-clause-row c).After-partition_point-index
    ∙ slice_get_past c.as_slice-rows.result.now c.partition_point-index.result c.if-index-rows.false)
