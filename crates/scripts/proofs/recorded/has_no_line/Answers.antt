use Rattle.std.proofs.Common.{◌∙◌, ap}
use Rattle.std.specs.Option.{is_none}
use Rattle.scripts.proofs.Recording.{counted, none_of}

pub returns : Rattle.scripts.proofs.recorded.has_no_line.Goals.returns
returns c =
    none_of _ _ c.is_none.ensures ∙ ap is_none c.end_of_line.ensures ∙ counted c.args.text.now
