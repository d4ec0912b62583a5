abbrev pub invariant-loop-row : Rattle.testing.proofs.line_tables.rise.Given.invariant-loop-row
invariant-loop-row l = Rattle.testing.proofs.Rows.IsRising (Rattle.std.specs.Prelude.take l.row-index l.rows) l.line l.address
