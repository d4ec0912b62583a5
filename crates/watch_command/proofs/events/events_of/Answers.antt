use Rattle.watch_command.proofs.Common.{[], Event, HasEvents, List, subst, sym, ◌++◌, ◌∷◌}
use Rattle.watch_command.proofs.Reading.{next_event, none_yet}
use Rattle.watch_command.proofs.events.events_of.Goals as goal

pub loop-step-init : goal.loop-step-init
loop-step-init g c =
    let known = g.F.Files.past c.args.files.now in
    subst (λ (l : List Event). HasEvents [] known known l) (sym c.new-events.ensures.items) (none_yet known)

pub loop-step-preserved : goal.loop-step-preserved
loop-step-preserved g c =
    subst (λ (l : List Event). HasEvents (c.loop-step.yielded ++ c.in-Some.step ∷ []) (g.F.Files.past c.args.files.now)
    (g.F.Files.past c.event_of.new.files) l)
    (sym c.in_ok-push.ensures.items)
    (next_event c.loop-step.yielded c.in-Some.step _ _ _ c.loop-step.events.items c.in_ok-event_of.field-0 c.loop-step.invariant
    c.in_ok-event_of.ensures)
