use Rattle.mirror.specs.Kept.{facts_of}
use Rattle.std.proofs.Common.{◌≡◌}
use Rattle.console.proofs.page.filled.Given as goal
use Rattle.console.specs.Private.Pages.{pieces_of}

-- each part so far has its piece
abbrev pub invariant-loop-part : goal.invariant-loop-part
invariant-loop-part l = l.pieces.items ≡ pieces_of l.path (facts_of l.mirror.known) l.yielded
