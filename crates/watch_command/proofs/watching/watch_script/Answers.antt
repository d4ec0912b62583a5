use Rattle.watch_command.proofs.Common.{ap, Config, Done, Fails, fault_of, HasWatched, StepsFail, subst, sym, ℕ, ◌+◌, ◌∙◌}
use Rattle.scripts.specs.declared.fault.ScriptFault.{ScriptFault}
use Rattle.watch_command.proofs.Failing.{none_watched, some_watched}
use Rattle.watch_command.proofs.watching.watch_script.Goals as goal

pub returns-in-Ok-clause-ok : goal.returns-in-Ok-clause-ok
returns-in-Ok-clause-ok g c =
    some_watched c.args.script.now (g.F.Files.past c.args.files.now)
    (g.F.Files.past c.watch_steps.new.files) c.in_ok-steps.field-0.steps.items
    c.in_ok-steps.field-0.watch c.in_ok-steps.ensures
    (subst (λ (x : Config). Done c.in_ok-steps.field-0.steps.items (g.F.Files.past c.args.files.now)
    (g.F.Files.past c.watch_steps.new.files) (HasWatched x c.in_ok-steps.field-0.watch))
    c.config.ensures c.in-Ok.ensures.ok)

pub returns-in-Err-clause-err : goal.returns-in-Err-clause-err
returns-in-Err-clause-err g c =
    let said = c.fault_of.ensures ∙ ap (λ (n : ℕ). fault_of (n + 1) c.in-Err.fault) (c.len.ensures ∙ c.in_ok-steps.field-0.steps.ok.0) in
    let fails = subst (λ (x : Config). StepsFail c.in-Err.fault x c.in_ok-steps.field-0.steps.items c.in_ok-steps.field-0.watch
    (g.F.Files.past c.args.files.now) (g.F.Files.past c.watch_steps.new.files) (g.W.Write.contents c.args.writer.now)
    (g.W.Write.contents c.watch_steps.new.writer))
    c.config.ensures c.in-Err.ensures.err in
    subst (λ (fault : ScriptFault). Fails fault c.args.script.now (g.F.Files.past c.args.files.now) (g.F.Files.past c.watch_steps.new.files)
    (g.W.Write.contents c.args.writer.now) (g.W.Write.contents c.watch_steps.new.writer)) (sym said)
    (none_watched c.args.script.now (g.F.Files.past c.args.files.now)
    (g.F.Files.past c.watch_steps.new.files) c.in_ok-steps.field-0.steps.items c.in_ok-steps.field-0.watch c.in_ok-steps.ensures
    (g.W.Write.contents c.args.writer.now) (g.W.Write.contents c.watch_steps.new.writer) c.in-Err.fault fails)
