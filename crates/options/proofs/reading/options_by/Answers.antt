use Rattle.std.proofs.Common.{◌∙◌, map, string_bytes}
use Rattle.clap.specs.Words.{app_of}
use Rattle.options.specs.Options.{IsConsistent}
use Rattle.options.proofs.Parsing.{broken, not_ok, refused, taken}
use Rattle.options.proofs.Consistent.{consistent}
use Rattle.options.proofs.reading.options_by.Goals as goal

pub returns-in_err-matches-clause-answers : goal.returns-in_err-matches-clause-answers
returns-in_err-matches-clause-answers c =
    refused (app_of c.args.command.now)
    (map string_bytes c.args.words.now) c.in_err-matches.field-0.0 c.from_residual.result c.requires c.in_err-matches.ensures.kinds c.from_residual.ensures.1

pub returns-in_err-matches-clause-consistent : goal.returns-in_err-matches-clause-consistent
returns-in_err-matches-clause-consistent c =
    not_ok c.from_residual.result IsConsistent c.from_residual.ensures.0

pub returns-in-Ok : goal.returns-in-Ok
returns-in-Ok c =
    let is = taken (app_of c.args.command.now)
    (map string_bytes c.args.words.now) c.in_ok-matches.matches c.requires c.in_ok-matches.ensures.kinds c.in_ok-matches.ensures.ok.2 ∙ c.in-Ok.ensures in
    record { answers = is; consistent = consistent (map string_bytes c.args.words.now) c.in-Ok.options is }

pub returns-in-Err-clause-answers : goal.returns-in-Err-clause-answers
returns-in-Err-clause-answers c =
    let is = taken (app_of c.args.command.now)
    (map string_bytes c.args.words.now) c.in_ok-matches.matches c.requires c.in_ok-matches.ensures.kinds c.in_ok-matches.ensures.ok.2 in
    broken (map string_bytes c.args.words.now) _ c.in-Err.fault c.error_of.result is c.in-Err.ensures c.error_of.ensures
