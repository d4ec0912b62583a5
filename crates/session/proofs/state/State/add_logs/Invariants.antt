use Rattle.session.proofs.Common.{drafted_all, drop, filter_map, log_at, log_event, logged, map, Program, Some, ◌≡◌}

abbrev pub invariant-loop-place : Rattle.session.proofs.state.State.add_logs.Given.invariant-loop-place
invariant-loop-place l = record {
  rest : (p : Program) → l.self.now.debuggee.program ≡ Some p → drafted_all l.self.now.limits (map log_event (filter_map (log_at p.machine.lists) (drop l.place-index p.machine.lists.logs))) l.draft ≡ drafted_all l.self.now.limits (map log_event (logged p.machine.lists)) l.fn.draft;
}
