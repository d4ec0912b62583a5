use Rattle.image.proofs.Common.{ap, option_map, start_of, sym, ◌∙◌}
use Rattle.image.proofs.Rows.{line_there, line_not_there, line_past_all}
use Rattle.image.proofs.lines.LineTable.address_of.Goals as goal

pub returns-in_err-row-clause-address : goal.returns-in_err-row-clause-address
returns-in_err-row-clause-address c =
    c.from_residual.ensures
    ∙ sym (ap (option_map start_of) (line_past_all c.args.self.now.rows c.args.line (sym c.row_from.ensures.row ∙ c.in_err-row.was)))

pub returns-then-row-line-clause-address : goal.returns-then-row-line-clause-address
returns-then-row-line-clause-address c =
    sym (ap (option_map start_of)
    (line_there c.args.self.now.rows c.args.line c.in_ok-row.row (sym c.row_from.ensures.row ∙ c.in_ok-row.was) c.if-row-line.true))

pub returns-else-row-line-clause-address : goal.returns-else-row-line-clause-address
returns-else-row-line-clause-address c =
    sym (ap (option_map start_of)
    (line_not_there c.args.self.now.rows c.args.self.now.end c.args.line c.in_ok-row.row c.row_from.ensures.rise
    (sym c.row_from.ensures.row ∙ c.in_ok-row.was) c.if-row-line.false))
