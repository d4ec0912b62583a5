use Rattle.watch_command.proofs.Common.{Err, Replays, Result, subst, sym}
use Rattle.session.specs.Begins.{Begins, HasBegun}
use Rattle.session.specs.declared.limits.Limits.{Limits}
use Rattle.watch_command.proofs.Showing.{none_begins, replays}
use Rattle.watch_command.specs.declared.asked.ReplayFault.{ReplayFault}
use Rattle.watch_command.proofs.replaying.replay.Goals as goal

pub returns-in-Err : goal.returns-in-Err
returns-in-Err g c =
    subst (λ (fault : ReplayFault). Replays c.args.config c.args.asked c.args.steps.items (g.F.Files.past c.args.files.now)
    (g.F.Files.past c.args.files.now) (g.W.Write.contents c.args.writer.now) (g.W.Write.contents c.args.writer.now) (Err fault))
    (sym c.no_session.ensures)
    (none_begins c.args.config c.args.asked c.args.steps.items (g.F.Files.past c.args.files.now)
    (g.W.Write.contents c.args.writer.now) c.in-Err.error
    (subst (λ (l : Limits). Begins c.args.config l (Err c.in-Err.error)) c.greatest.ensures c.in-Err.ensures))

pub returns-in-Ok : goal.returns-in-Ok
returns-in-Ok g c =
    subst (λ (r : Result (Unit {0}) ReplayFault). Replays c.args.config c.args.asked c.args.steps.items (g.F.Files.past c.args.files.now)
    (g.F.Files.past c.replay_in-written.new.files) (g.W.Write.contents c.args.writer.now) (g.W.Write.contents c.replay_in-written.new.writer) r)
    (sym c.answered.ensures)
    (replays c.args.asked c.args.steps.items (g.F.Files.past c.args.files.now)
    (g.F.Files.past c.replay_in-written.new.files) (g.W.Write.contents c.args.writer.now)
    (g.W.Write.contents c.replay_in-written.new.writer) c.args.config c.in-Ok.session
    (subst (λ (l : Limits). HasBegun c.args.config l c.in-Ok.session) c.greatest.ensures c.in-Ok.ensures) c.replay_in-written.result
    c.replay_in-written.ensures)
