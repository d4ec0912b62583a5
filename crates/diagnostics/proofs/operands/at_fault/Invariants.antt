use Rattle.diagnostics.proofs.Common.{left, option_copied}

abbrev pub decreases-fields : Rattle.diagnostics.proofs.operands.at_fault.Given.decreases-fields
decreases-fields l = left (option_copied l.rest)
