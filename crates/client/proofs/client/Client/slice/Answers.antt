use Rattle.session.specs.declared.event.Event.TheVariants as event
use Rattle.client.proofs.Following.{calls_inside}

pub returns : Rattle.client.proofs.client.Client.slice.Goals.returns
returns c = calls_inside _ _ c.self.view_is c.slice.new.self (event.Slice c.args.moves) _ tt c.slice.ensures.stands
