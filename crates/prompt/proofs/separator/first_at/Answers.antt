use Rattle.prompt.proofs.Separating.{after_first}

pub loop-rest-preserved : Rattle.prompt.proofs.separator.first_at.Goals.loop-rest-preserved
loop-rest-preserved c =
    let on = after_first c.args.separator c.args.text.now c.loop-rest.rest.now c.loop-rest.at c.in-len1-up.len_at_least c.if-separates.ensures
    c.loop-rest.invariant.first c.loop-rest.invariant.place in
    record { first = on.first; place = on.place }
