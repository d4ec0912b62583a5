use Rattle.std.proofs.Common.{◌<◌, true, false, length, sym, ◌∙◌, arith}
use Rattle.queues.proofs.Arriving.{changes_next, fate_next}
use Rattle.queues.proofs.arrivals.cancel.Goals.{then-mark, else-mark}

pub loop-i-preserved : Rattle.queues.proofs.arrivals.cancel.Goals.loop-i-preserved
loop-i-preserved c =
    let xs = c.args.pending.now.items in
    let ys = c.loop-i.pending.items in
    let within : c.loop-i.i < length xs = omega (arith, c.loop-i-test.true, c.len-i-end.ensures, c.args.pending.now.ok) in
    record {
      items = changes_next _ xs ys c.loop-i.i _ _ within c.loop-i.invariant.items c.index_mut.ensures.value c.mark.ensures.cancelled;
      fate = elim c.if-mark.branch [
        | then-mark w ↦ w.fate-is ∙ fate_next _ xs ys _ c.loop-i.i _ true within c.loop-i.invariant.items c.index_mut.ensures.value
            (sym w.if-mark.true ∙ c.mark.ensures.named)
        | else-mark w ↦ w.fate-is ∙ c.loop-i.invariant.fate
            ∙ fate_next _ xs ys _ c.loop-i.i _ false within c.loop-i.invariant.items c.index_mut.ensures.value
            (sym w.if-mark.false ∙ c.mark.ensures.named)
      ];
      len = c.loop-i.invariant.len;
      capacity = c.loop-i.invariant.capacity;
    }
