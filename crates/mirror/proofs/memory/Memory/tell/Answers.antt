use Rattle.mirror.proofs.Common.{ap, arith, at, List, over, ℕ, ◌<◌, ◌^◌, ◌∙◌}
use Rattle.std.proofs.lemmas.Option.{slice_get-get_or}
use Rattle.mirror.proofs.Maps.{place_next, upto_last, upto_none, upto_step, upto_whole}
use Rattle.mirror.proofs.memory.Memory.tell.Goals as goal

pub loop-byte-init : goal.loop-byte-init
loop-byte-init c = record { told = λ q. upto_none c.args.first q c.args.bytes.now (at c.self.inside.map.entries); place = omega arith }

pub loop-byte-preserved : goal.loop-byte-preserved
loop-byte-preserved c =
    let here = rw c.in-Some.is at c.loop-byte.invariant.place in
    let fits : c.in-Some.address < 2 ^ 32 = omega arith in
    record {
      told = upto_step c.args.first c.loop-byte.byte-index c.in-Some.address c.args.bytes.now _ _ _ _ here fits
          (slice_get-get_or c.args.bytes.now c.loop-byte.byte-index 0 c.loop-byte-test.true) c.loop-byte.invariant.told c.in_ok-insert-in-Some.ensures.updates.0;
      place = place_next c.after-place.result c.in-Some.address c.args.first c.loop-byte.byte-index here c.after-place.ensures;
    }

pub returns-after-loop-byte : goal.returns-after-loop-byte
returns-after-loop-byte c = upto_whole c.args.first c.loop-byte.byte-index c.args.bytes.now _ _ (omega arith) c.loop-byte.invariant.told
    ∙ ap (λ (es : List (ℕ × ℕ)). over c.args.first c.args.bytes.now (at es)) c.self.view_is

pub returns-in-None : goal.returns-in-None
returns-in-None c =
    let used = rw c.in-None.is at c.loop-byte.invariant.place in
    upto_last c.args.first c.loop-byte.byte-index c.args.bytes.now _ _ (omega arith) used c.loop-byte.invariant.told
    ∙ ap (λ (es : List (ℕ × ℕ)). over c.args.first c.args.bytes.now (at es)) c.self.view_is
