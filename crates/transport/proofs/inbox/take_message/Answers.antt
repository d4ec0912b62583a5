use Rattle.transport.proofs.Common.{ap, Ok, sym, ◌∙◌}
use Rattle.transport.proofs.ServerLemmas.{ignored, gave, fails}
use Rattle.transport.proofs.inbox.take_message.Goals as goal

pub returns-in-Err : goal.returns-in-Err
returns-in-Err c = record {
  takes =
      λ heard s. fails c.loop-body.unframer heard c.in-Some.body.now c.in-Err.error c.in-Some.ensures c.in-Err.ensures.means
      (c.loop-body.invariant.heard heard s);
  all = λ h. cc;
  tail = c.loop-body.invariant.tail;
}

pub loop-body-preserved : goal.loop-body-preserved
loop-body-preserved c = record {
  heard =
      λ heard s. ignored c.loop-body.unframer _ heard c.in-Some.body.now c.in-Some.ensures c.next_body.follows.holds-at-none
      (sym c.in-Ok.ensures.means ∙ ap (λ i. Ok i) c.in-Ignored.is) (c.loop-body.invariant.heard heard s);
  tail = rw c.next_body.follows.holds-at-none c.loop-body.invariant.tail;
}

pub returns-in_default-incoming : goal.returns-in_default-incoming
returns-in_default-incoming c = record {
  takes =
      λ heard s. gave c.loop-body.unframer _ heard c.in-Some.body.now c.in-Ok.incoming c.in_default-incoming.not-Ignored
      c.in-Some.ensures c.next_body.follows.holds-at-none (sym c.in-Ok.ensures.means) (c.loop-body.invariant.heard heard s);
  all = λ h. cc;
  tail = rw c.next_body.follows.holds-at-none c.loop-body.invariant.tail;
}
