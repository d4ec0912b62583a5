use Rattle.breakpoints.proofs.Common.{ap, place_of, sym, ◌∙◌}
use Rattle.std.specs.Option.{option_map}
use Rattle.breakpoints.proofs.Shifted.{none_here}

pub returns-in-None : Rattle.breakpoints.proofs.parsing.parse.Goals.returns-in-None
returns-in-None c =
    sym (c.loop-token.invariant
    ∙ none_here c.args.tokens.now c.loop-token.token-index (place_of c.loop-token.state) c.token-item.result c.loop-token-test.true
    (sym c.token-item.is) (sym c.in_ok-next.ensures ∙ ap (option_map place_of) c.in-None.is))
