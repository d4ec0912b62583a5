use Rattle.framing.proofs.Common.{[], refl, sym, waiting_in}
use Rattle.framing.proofs.Holding.{held, Stand, starts_known}
use Rattle.framing.proofs.Passing.{nothing_read, nothing_whole}
use Rattle.framing.proofs.Readings.{starts_empty}
use Rattle.framing.proofs.state.State.new.Goals as goal

pub invariant_of-result : goal.invariant_of-result
invariant_of-result c =
    let waits = sym (starts_empty c.args.limit) in
    let s : Stand c.new.result.items 0 0 [] [] [] = record { spelled = c.new.ensures.items; place_is = refl; done_is = refl } in
    record { holds = held s (nothing_whole c.args.limit) waits (starts_known waits); mark_holds = tt }

pub returns : goal.returns
returns c = rw (c.new.ensures.items, nothing_read c.args.limit, waiting_in) refl
