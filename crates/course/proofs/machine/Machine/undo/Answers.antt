use Rattle.course.proofs.Common.{ap, arith, CanBeKept, CanBeUnmade, Kept, machine_in, Position, PutsInBlank, subst, sym, Undo, undo_in, undone, unmade, unnoted, ◌∙◌}
use Rattle.course.specs.declared.calls.Called.{Called}
use Rattle.course.proofs.Making.{known_undone, on_err, unmade_by}
use Rattle.course.proofs.machine.Machine.undo.Goals as goal

pub invariant_of-self-2 : goal.invariant_of-self-2
invariant_of-self-2 c =
    let p : Position = record { hart = c.self.inside.hart; memory = c.self.inside.memory; calls = c.self.inside.calls } in
    let fit = subst (λ (q : Position). CanBeUnmade c.args.made.now q) (sym c.self.view_is) c.requires in
    let calls = c.unnote.ensures ∙ ap (λ (called : Called). unnoted called c.self.inside.calls) c.called.ensures in (
      record {
        known = known_undone c.undo-undo.result p c.undo.new.self c.undo.new.memory c.self.inside.entries.items _ c.stored.result
            c.self.invariant.0.known c.in_ok-undo.ensures.ok c.stored.ensures c.forget_words.ensures.forgets;
        roomy = omega (arith, c.forget_words.ensures.room, c.self.invariant.0.roomy);
      },
      subst (λ (k : Kept). CanBeKept k) (sym calls) fit,
    )

pub returns-clause-ok : goal.returns-clause-ok
returns-clause-ok c =
    let p : Position = record { hart = c.self.inside.hart; memory = c.self.inside.memory; calls = c.self.inside.calls } in
    let calls = c.unnote.ensures ∙ ap (λ (called : Called). unnoted called c.self.inside.calls) c.called.ensures in
    let machine = c.in_ok-undo.ensures.ok ∙ ap (λ (u : Undo). undone u (machine_in p)) c.undo-undo.ensures in
    unmade_by c.args.made.now p c.undo.new.self c.undo.new.memory c.unnote.new.self machine calls
    ∙ ap (unmade c.args.made.now) c.self.view_is

pub returns-in_err-undo-clause-lacks : goal.returns-in_err-undo-clause-lacks
returns-in_err-undo-clause-lacks c =
    on_err c.from_residual.result
    (subst (λ (q : Position). PutsInBlank (undo_in c.args.made.now) q.memory) c.self.view_is
    (subst (λ (u : Undo). PutsInBlank u c.self.inside.memory) c.undo-undo.ensures c.in_err-undo.ensures.lacks))
