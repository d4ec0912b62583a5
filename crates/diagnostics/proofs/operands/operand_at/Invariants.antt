use Rattle.diagnostics.proofs.Common.{left, option_copied}

abbrev pub decreases-fields : Rattle.diagnostics.proofs.operands.operand_at.Given.decreases-fields
decreases-fields l = left (option_copied l.rest)
