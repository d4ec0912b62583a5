use Rattle.breakpoints.proofs.Common.{drop, parsed, parsed_from, place_of, Some, ◌≡◌}

abbrev pub invariant-loop-token : Rattle.breakpoints.proofs.parsing.parse.Given.invariant-loop-token
invariant-loop-token l = parsed l.tokens ≡ parsed_from (Some (place_of l.state)) (drop l.token-index l.tokens)
