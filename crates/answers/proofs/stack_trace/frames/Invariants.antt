use Rattle.answers.proofs.Common.{addresses, drop, frames_from, ◌++◌, ◌+◌, ◌≡◌}

abbrev pub invariant-loop-offset : Rattle.answers.proofs.stack_trace.frames.Given.invariant-loop-offset
invariant-loop-offset l = record {
  frames : l.frames.items ++ frames_from l.lines l.view (addresses l.runner) (l.first + l.offset) (drop l.offset l.numbers) ≡ frames_from l.lines l.view (addresses l.runner) l.first l.numbers;
}
