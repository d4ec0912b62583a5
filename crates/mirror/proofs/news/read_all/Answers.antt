use Rattle.mirror.proofs.Common.{ap, sym, Unframed, ◌∙◌}
use Rattle.mirror.proofs.Streaming.{error_more, messages_more, smaller}
use Rattle.mirror.proofs.news.read_all.Goals as goal

pub loop-body-smaller : goal.loop-body-smaller
loop-body-smaller c = smaller c.loop-body.unframer _ c.in-Some.body.now c.next_body.follows.holds-at-none c.in-Some.ensures.body

pub loop-body-preserved : goal.loop-body-preserved
loop-body-preserved c =
    let u = c.loop-body.unframer in
    let lent = c.next_body.follows.holds-at-none in
    let first = c.in-Some.ensures.body in
    let is = sym c.in_ok-message.ensures ∙ c.in-Ok.is in
    record {
      messages =
          messages_more u _ c.in-Some.body.now c.in-Ok.message c.loop-body.messages.items _ _ lent first is c.in_ok-push-in-Ok.ensures.items c.loop-body.invariant.messages;
      error = error_more u _ c.in-Some.body.now c.in-Ok.message _ lent first is c.loop-body.invariant.error;
      before = ap (λ (w : Unframed). w.before) lent ∙ c.loop-body.invariant.before;
      limit = ap (λ (w : Unframed). w.limit) lent ∙ c.loop-body.invariant.limit;
      tail = ap (λ (w : Unframed). w.tail) lent ∙ c.loop-body.invariant.tail;
    }
