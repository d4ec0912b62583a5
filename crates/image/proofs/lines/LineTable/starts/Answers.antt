use Rattle.std.proofs.Common.{sym, ◌∙◌}
use Rattle.image.proofs.Rows.{starts_there, starts_nowhere}
use Rattle.image.proofs.lines.LineTable.starts.Goals as goal

pub returns-in-Some : goal.returns-in-Some
returns-in-Some c =
    sym (starts_there c.args.self.now.rows c.args.self.now.end c.args.addr c.in-Some.row c.row_ending_after.ensures.rise
    (sym c.row_ending_after.ensures.row ∙ c.in-Some.is))

pub returns-in-None : goal.returns-in-None
returns-in-None c =
    sym (starts_nowhere c.args.self.now.rows c.args.self.now.end c.args.addr c.row_ending_after.ensures.rise
    (sym c.row_ending_after.ensures.row ∙ c.in-None.is))
