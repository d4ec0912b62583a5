-- A look-up in the map is one among the members that the map represents.
use Rattle.std.proofs.Common.{option_map, ap, ◌∙◌}
use Rattle.serde_json.specs.View.{view}
use Rattle.serde_json.proofs.Views.{view_of_ref, view-lookup}

pub returns : Rattle.protocol.proofs.properties.member.Goals.returns
returns c =
    view_of_ref c.get.result ∙ ap (option_map view) c.get.ensures.value
    ∙ view-lookup c.args.name.now c.args.members.now.entries
