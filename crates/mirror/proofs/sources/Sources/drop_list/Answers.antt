use Rattle.mirror.proofs.Common.{ap, bytes_eq, filter, not, rules, ◌∙◌}
use Rattle.std.proofs.lemmas.Fn.{filter_same}

pub returns : Rattle.mirror.proofs.sources.Sources.drop_list.Goals.returns
returns c =
    filter_same _ (λ list. not (bytes_eq list.path c.args.path.now)) _ (λ x b f' r. search rules) _ _ c.retain.ensures.filtered
    ∙ ap (filter (λ list. not (bytes_eq list.path c.args.path.now))) c.self.view_is
