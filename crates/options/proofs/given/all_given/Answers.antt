use Rattle.std.proofs.Common.{◌∙◌}
use Rattle.clap.proofs.WalkLemmas.{raw_values-rows}
use Rattle.clap.specs.Words.{found_of}

pub returns : Rattle.options.proofs.given.all_given.Goals.returns
returns c = c.get_strs.ensures ∙ raw_values-rows (found_of c.args.matches.now) c.args.id.now
