use Rattle.std.proofs.Common.{◌≡◌, ◌++◌, drop, string_bytes}
use Rattle.rvdap.proofs.debug.output.text_of.Given as goal
use Rattle.rvdap.specs.Colours.{written}

-- what was written so far, and what is to be written of the pieces that are left, are all
abbrev pub invariant-loop-piece : goal.invariant-loop-piece
invariant-loop-piece l = written l.colours l.pieces ≡ string_bytes l.text ++ written l.colours (drop l.piece-index l.pieces)
