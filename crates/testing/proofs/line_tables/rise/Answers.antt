use Rattle.std.proofs.Common.{◌≤◌, slice_index_or, refl, arith}
use Rattle.image.specs.Lines.{Row, line_in, start_of, words_in}
use Rattle.testing.proofs.Rows.{rising-step}

pub loop-row-preserved : Rattle.testing.proofs.line_tables.rise.Goals.loop-row-preserved
loop-row-preserved c =
    let index = c.loop-row.row-index in
    let row : Row = slice_index_or c.args.rows.now index (0, 0, 0) in
    let at_line = c.from.ensures in
    let at_start = c.from-else-from-line.ensures in
    let test_line = c.if-from-line.false in
    let test_start = c.if-from-address.false in
    let test_words = c.if-row-eq0.false in
    let line : c.loop-row.line ≤ line_in row = omega arith in
    let start : c.loop-row.address ≤ start_of row = omega arith in
    let words : 1 ≤ words_in row = omega arith in
    rw (c.from-line.ensures, c.from-in-loop-row.ensures, c.from-in-loop-row-2.ensures)
    (rising-step c.args.rows.now index c.loop-row.line c.loop-row.address (line_in row) (start_of row)
    (words_in row) c.loop-row-test.true refl c.loop-row.invariant line start c.if-row-ne0.false words)
