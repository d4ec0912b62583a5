use Rattle.watch_command.proofs.Common.{ap, Unframed, ◌∙◌}
use Rattle.watch_command.proofs.Spoken.{telling_last, telling_more}
use Rattle.watch_command.proofs.knowing.Knowing.add_messages.Goals as goal

pub loop-body-preserved : goal.loop-body-preserved
loop-body-preserved c = record {
  told =
      telling_more c.args.number c.args.unframer.now.waiting c.loop-body.unframer.waiting _ c.args.text.now.items c.loop-body.text.items c.add_message.new.text.items
      c.in-Some.body.now c.in-Some.ensures.body
      (ap (λ (u : Unframed). u.waiting) c.next_body.follows.holds-at-none) c.in_ok-add_message.ensures.lines
      c.loop-body.invariant.told;
  same = c.add_message.ensures.same ∙ c.loop-body.invariant.same;
}

pub returns-clause-lines : goal.returns-clause-lines
returns-clause-lines c =
    telling_last c.args.number c.args.unframer.now.waiting c.loop-body.unframer.waiting c.args.text.now.items c.loop-body.text.items c.in_default.ensures.body
    c.loop-body.invariant.told
