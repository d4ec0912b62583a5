use Rattle.std.proofs.Common.{◌≡◌, ◌+◌, ◌<◌, ◌++◌, [], ◌∷◌, List, length, ap, ◌∙◌, drop, arith, slice_index, ℕ}
use Rattle.answers.specs.StackTrace.{addresses}
use Rattle.facts.specs.declared.frame.FrameInfo.{FrameInfo}
use Rattle.snapshots.specs.Shown.{frame_in}
use Rattle.snapshots.specs.Snapshots.{frames_from}
use Rattle.course.specs.Calls.{Kept}
use Rattle.snapshots.proofs.Seeing.{one_more}

pub loop-index-preserved : Rattle.snapshots.proofs.captured.frames.Goals.loop-index-preserved
loop-index-preserved c =
    let places : List ℕ = addresses c.args.machine.now in
    let calls : length c.calls.result.now.calls ≡ length c.args.machine.now.calls.calls = ap
    (λ (k : Kept). length k.calls) c.calls.ensures in
    let within : c.loop-index.index < length places = omega (arith, c.loop-index-test.true, c.kept-total.ensures.kept, calls) in
    let framed : c.in_ok-frame.field-0 ≡ frame_in c.args.lines.now c.args.handles.now c.loop-index.index
    (slice_index places c.loop-index.index) =
    c.in_ok-frame.ensures ∙ ap (frame_in c.args.lines.now c.args.handles.now c.loop-index.index) c.address_of-address.ensures in
    let more : c.push.new.self.items ≡ c.loop-index.frames.items ++ frame_in c.args.lines.now c.args.handles.now c.loop-index.index
    (slice_index places c.loop-index.index) ∷ [] =
    c.in_ok-push.ensures.items ∙ ap (λ (f : FrameInfo). c.loop-index.frames.items ++ f ∷ []) framed in
    ap (λ (l : List FrameInfo). l ++ frames_from c.args.lines.now c.args.handles.now (c.loop-index.index + 1)
    (drop (c.loop-index.index + 1) places)) more
    ∙ one_more c.args.lines.now c.args.handles.now places c.loop-index.index c.loop-index.frames.items
    (frames_from c.args.lines.now c.args.handles.now 0 places) within c.loop-index.invariant
