use Rattle.std.proofs.Common.{◌∙◌}
use Rattle.mirror.proofs.Maps.{list_put}

pub returns : Rattle.mirror.proofs.sources.Sources.tell.Goals.returns
returns c =
    list_put c.args.path.now c.in_ok-copied.field-0 c.args.breaks c.args.self.now c.self.inside.lists.items c.push.new.self.items c.in_ok-copied.ensures (c.self.view_is ∙ c.drop_list.ensures) c.in_ok-push.ensures.items
