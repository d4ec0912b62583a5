use Rattle.image.proofs.Common.{ap, line_in, option_map, sym, ◌∙◌}
use Rattle.image.proofs.Rows.{covered, uncovered, past_all}
use Rattle.image.proofs.lines.LineTable.line_of.Goals as goal

pub returns-in_err-row-clause-line : goal.returns-in_err-row-clause-line
returns-in_err-row-clause-line c =
    c.from_residual.ensures
    ∙ sym (ap (option_map line_in) (past_all c.args.self.now.rows c.args.addr (sym c.row_ending_after.ensures.row ∙ c.in_err-row.was)))

pub returns-then-row-addr-clause-line : goal.returns-then-row-addr-clause-line
returns-then-row-addr-clause-line c =
    sym (ap (option_map line_in)
    (covered c.args.self.now.rows c.args.self.now.end c.args.addr c.in_ok-row.row c.row_ending_after.ensures.rise
    (sym c.row_ending_after.ensures.row ∙ c.in_ok-row.was) c.if-row-addr.true))

pub returns-else-row-addr-clause-line : goal.returns-else-row-addr-clause-line
returns-else-row-addr-clause-line c =
    sym (ap (option_map line_in)
    (uncovered c.args.self.now.rows c.args.self.now.end c.args.addr c.in_ok-row.row c.row_ending_after.ensures.rise
    (sym c.row_ending_after.ensures.row ∙ c.in_ok-row.was) c.if-row-addr.false))
