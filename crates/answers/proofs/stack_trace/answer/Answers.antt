use Rattle.answers.proofs.Common.{addresses, ap, arith, frames_from, length, List, map, number_in, Some, Target, with_targets, ◌+◌, ◌-◌, ◌∙◌, ◌≡◌}
use Rattle.answers.proofs.Frames.{many_numbers, many_targets, shown}
use Rattle.answers.proofs.stack_trace.answer.Goals as goal

pub to_come-requires : goal.to_come-requires
to_come-requires c =
    let many : length c.in_ok-targets.targets.items
    ≡ c.end_in-end.result - c.first_in-first.result = many_targets c.first_in-first.result c.end_in-end.result c.in_ok-targets.targets.items c.in_ok-targets.ensures in
    let same : length c.deref.result.now ≡ length c.in_ok-targets.targets.items = ap length c.deref.ensures.value in
    let within = c.end_in-end.ensures.high in
    let limit = c.kept-total.ensures.within_limit in
    omega (arith, many, same, within, limit)

pub frames-requires-clause-within : goal.frames-requires-clause-within
frames-requires-clause-within c =
    let many : length c.in_ok-targets.targets.items
    ≡ c.end_in-end.result - c.first_in-first.result = many_targets c.first_in-first.result c.end_in-end.result c.in_ok-targets.targets.items c.in_ok-targets.ensures in
    let same : length c.deref.result.now ≡ length c.in_ok-targets.targets.items = ap length c.deref.ensures.value in
    let each : length c.in_ok-numbers.numbers.items ≡ length c.deref.result.now = many_numbers
    (with_targets c.args.handles.now c.deref.result.now) c.deref.result.now c.in_ok-numbers.numbers.items c.in_ok-numbers.ensures in
    let lent : length c.deref-2.result.now ≡ length c.in_ok-numbers.numbers.items = ap length c.deref-2.ensures.value in
    let kept : c.kept-total.result ≡ length c.args.runner.now.calls.calls = search in
    let low = c.end_in-end.ensures.low in
    let within = c.end_in-end.ensures.high in
    omega (arith, many, same, each, lent, kept, low, within)

pub frames-requires-clause-few : goal.frames-requires-clause-few
frames-requires-clause-few c =
    let many : length c.in_ok-targets.targets.items
    ≡ c.end_in-end.result - c.first_in-first.result = many_targets c.first_in-first.result c.end_in-end.result c.in_ok-targets.targets.items c.in_ok-targets.ensures in
    let same : length c.deref.result.now ≡ length c.in_ok-targets.targets.items = ap length c.deref.ensures.value in
    let each : length c.in_ok-numbers.numbers.items ≡ length c.deref.result.now = many_numbers
    (with_targets c.args.handles.now c.deref.result.now) c.deref.result.now c.in_ok-numbers.numbers.items c.in_ok-numbers.ensures in
    let lent : length c.deref-2.result.now ≡ length c.in_ok-numbers.numbers.items = ap length c.deref-2.ensures.value in
    let low = c.end_in-end.ensures.low in
    let within = c.end_in-end.ensures.high in
    let limit = c.kept-total.ensures.within_limit in
    omega (arith, many, same, each, lent, low, within, limit)

pub returns : goal.returns
returns c =
    let kept : c.kept-total.result ≡ length c.args.runner.now.calls.calls = search in
    let all : c.kept-total.result + 1 ≡ length (addresses c.args.runner.now) = omega (arith, kept) in
    let targets = c.in_ok-targets.targets.items in
    let ids = c.in_ok-numbers.numbers.items in
    let numbered : map Some ids ≡ map (number_in (with_targets c.args.handles.now targets)) targets =
    c.in_ok-numbers.ensures ∙ ap (λ (l : List Target). map (number_in (with_targets c.args.handles.now l)) l) c.deref.ensures.value in
    let framed : c.in_ok-frames.frames.items ≡ frames_from c.args.lines.now c.args.view.now
    (addresses c.args.runner.now) c.first_in-first.result ids =
    c.in_ok-frames.ensures
    ∙ ap (frames_from c.args.lines.now c.args.view.now (addresses c.args.runner.now) c.first_in-first.result) c.deref-2.ensures.value in
    let entries : c.from_vec.result ≡ frames_from c.args.lines.now c.args.view.now
    (addresses c.args.runner.now) c.first_in-first.result ids = c.from_vec.ensures ∙ framed in
    shown c.args.arguments.now c.args.runner.now c.args.lines.now c.args.handles.now c.args.view.now c.first_in-first.result c.end_in-end.result (c.kept-total.result + 1) targets ids c.from_vec.result all c.first_in-first.ensures.first c.end_in-end.ensures.end c.end_in-end.ensures.high c.in_ok-targets.ensures numbered entries
