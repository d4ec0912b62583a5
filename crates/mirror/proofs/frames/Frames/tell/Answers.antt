use Rattle.mirror.proofs.Common.{ap, arith, at, frame_of, length, List, map, option_map, over, refl, Some, sym, ℕ, ◌<◌, ◌^◌, ◌∙◌, ◌≡◌, ◌≤◌}
use Rattle.std.proofs.lemmas.List.{length-map}
use Rattle.std.proofs.lemmas.Option.{slice_get-map, slice_get_read}
use Rattle.facts.specs.declared.frame.FrameInfo.{FrameInfo}
use Rattle.mirror.proofs.Maps.{place_next, upto_last, upto_none, upto_step, upto_whole}
use Rattle.mirror.proofs.frames.Frames.tell.Goals as goal

pub loop-frame-init : goal.loop-frame-init
loop-frame-init c =
    record { told = λ q. upto_none c.args.first q (map frame_of c.args.frames.now) (at c.self.inside.map.entries); place = omega arith }

pub loop-frame-preserved : goal.loop-frame-preserved
loop-frame-preserved c =
    let here = rw c.in-Some.is at c.loop-frame.invariant.place in
    let fits : c.in-Some.index < 2 ^ 32 = omega arith in
    record {
      told = upto_step c.args.first c.loop-frame.frame-index c.in-Some.index (map frame_of c.args.frames.now) _ _ _ _ here fits
          (slice_get-map frame_of c.args.frames.now c.loop-frame.frame-index
          ∙ ap (option_map frame_of)
          (slice_get_read c.args.frames.now
          (length c.args.frames.now) c.loop-frame.frame-index c.frame-item.result refl c.loop-frame-test.true c.frame-item.is)
          ∙ ap Some (sym c.in_ok-told_frame-in-Some.ensures))
          c.loop-frame.invariant.told c.in_ok-insert-in-Some.ensures.updates.0;
      place = place_next c.after-place.result c.in-Some.index c.args.first c.loop-frame.frame-index here c.after-place.ensures;
    }

pub returns-after-loop-frame : goal.returns-after-loop-frame
returns-after-loop-frame c =
    let whole : c.loop-frame.frame-index ≡ length (map frame_of c.args.frames.now) = omega (arith, length-map c.args.frames.now frame_of) in
    upto_whole c.args.first c.loop-frame.frame-index (map frame_of c.args.frames.now) _ _ whole c.loop-frame.invariant.told
    ∙ ap (λ (es : List (ℕ × FrameInfo)). over c.args.first (map frame_of c.args.frames.now) (at es)) c.self.view_is

pub returns-in-None : goal.returns-in-None
returns-in-None c =
    let used = rw c.in-None.is at c.loop-frame.invariant.place in
    let within : c.loop-frame.frame-index ≤ length (map frame_of c.args.frames.now) = omega
    (arith, length-map c.args.frames.now frame_of) in
    upto_last c.args.first c.loop-frame.frame-index (map frame_of c.args.frames.now) _ _ within used c.loop-frame.invariant.told
    ∙ ap (λ (es : List (ℕ × FrameInfo)). over c.args.first (map frame_of c.args.frames.now) (at es)) c.self.view_is
