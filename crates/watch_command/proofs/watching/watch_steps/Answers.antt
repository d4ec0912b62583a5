use Rattle.watch_command.proofs.Common.{Err, Event, List, subst, WatchAnswers}
use Rattle.watch_command.proofs.Failing.{unwatched}

pub returns-in-Err-found-clause-err : Rattle.watch_command.proofs.watching.watch_steps.Goals.returns-in-Err-found-clause-err
returns-in-Err-found-clause-err g c =
    unwatched c.args.config c.args.steps.items c.args.watch (g.F.Files.past c.args.files.now)
    (g.F.Files.past c.events_of.new.files)
    (g.W.Write.contents c.args.writer.now) c.in-Ok-events_of.events.items c.in-Ok-events_of.ensures c.in-Err-found.error
    (subst (λ (events : List Event). WatchAnswers c.args.config events c.args.watch
    (Err c.in-Err-found.error)) c.deref.ensures.value c.in-Err-found.ensures)
