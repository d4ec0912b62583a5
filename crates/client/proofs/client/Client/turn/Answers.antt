use Rattle.std.specs.Option.{option_copied}
use Rattle.session.specs.declared.event.Event.TheVariants as event
use Rattle.client.proofs.Following.{calls_inside}

pub returns : Rattle.client.proofs.client.Client.turn.Goals.returns
returns c = calls_inside _ _ c.self.view_is c.turn.new.self (event.Turn (option_copied c.args.file)) _ tt c.turn.ensures.stands
