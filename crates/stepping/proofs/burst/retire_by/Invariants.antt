use Rattle.stepping.proofs.Common.{Retire, ◌+◌, ◌≡◌, ◌≤◌}

abbrev pub invariant-loop-went : Rattle.stepping.proofs.burst.retire_by.Given.invariant-loop-went
invariant-loop-went g l = record {
  retire : Retire l.went l.fn.breaks l.fn.reach l.fn.course.now.hart.pc l.fn.course l.pc l.course;
  deep : l.course.now.calls.depth ≤ l.fn.course.now.calls.depth + l.went;
  stays : l.course.now.hart.pc ≡ l.fn.course.now.hart.pc;
}
