use Rattle.answers.proofs.Common.{drop, entries_of, list_in, list_of, ◌++◌, ◌+◌, ◌≡◌, ◌≤◌}
use Rattle.answers.specs.SetBreakpoints as spec

abbrev pub invariant-loop-breakpoint : Rattle.answers.proofs.set_breakpoints.entries_of.Given.invariant-loop-breakpoint
invariant-loop-breakpoint l = record {
  entries : l.entries.items ++ entries_of (spec.judged l.own l.lines l.base) (spec.entry l.base) l.draft.next_id (drop l.breakpoint-index l.asked) ≡ entries_of (spec.judged l.own l.lines l.base) (spec.entry l.base) l.fn.draft.next_id l.asked;
  list : list_in l.draft ++ list_of (spec.judged l.own l.lines l.base) spec.wanted l.draft.next_id (drop l.breakpoint-index l.asked) ≡ list_in l.fn.draft ++ list_of (spec.judged l.own l.lines l.base) spec.wanted l.fn.draft.next_id l.asked;
  room : l.draft.next_id ≤ l.fn.draft.next_id + l.breakpoint-index;
}
