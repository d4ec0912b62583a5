-- the slice after at least this many beats; none ended it
abbrev pub invariant-loop : Rattle.session.proofs.state.State.slice.Given.invariant-loop
invariant-loop l = Rattle.session.specs.Private.Beats.Reached l.moves l.counter l.fn.self l.moved l.self
