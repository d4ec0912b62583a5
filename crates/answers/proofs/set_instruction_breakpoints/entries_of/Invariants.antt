use Rattle.answers.proofs.Common.{drop, entries_of, list_in, list_of, ◌++◌, ◌+◌, ◌≡◌, ◌≤◌}
use Rattle.answers.specs.SetInstructionBreakpoints as spec

abbrev pub invariant-loop-breakpoint : Rattle.answers.proofs.set_instruction_breakpoints.entries_of.Given.invariant-loop-breakpoint
invariant-loop-breakpoint l = record {
  entries : l.entries.items ++ entries_of (spec.judged l.size) spec.entry l.draft.next_id (drop l.breakpoint-index l.asked) ≡ entries_of (spec.judged l.size) spec.entry l.fn.draft.next_id l.asked;
  list : list_in l.draft ++ list_of (spec.judged l.size) spec.wanted l.draft.next_id (drop l.breakpoint-index l.asked) ≡ list_in l.fn.draft ++ list_of (spec.judged l.size) spec.wanted l.fn.draft.next_id l.asked;
  room : l.draft.next_id ≤ l.fn.draft.next_id + l.breakpoint-index;
}
