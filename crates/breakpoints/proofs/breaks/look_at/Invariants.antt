use Rattle.breakpoints.proofs.Common.{ids_where, length, list_any, stands, take, vec_capacity, vec_len, ◌++◌, ◌+◌, ◌-◌, ◌≡◌, ◌≤◌}

abbrev pub invariant-loop-breakpoint : Rattle.breakpoints.proofs.breaks.look_at.Given.invariant-loop-breakpoint
invariant-loop-breakpoint l = record {
  ids : l.ids.items ≡ l.fn.ids.items ++ ids_where (stands l.pc l.hart l.memory) (take l.breakpoint-index l.list);
  found : l.found ≡ list_any (stands l.pc l.hart l.memory) (take l.breakpoint-index l.list);
  room : vec_len l.ids + (length l.list - l.breakpoint-index) ≤ vec_capacity l.ids;
  count : vec_len l.ids ≤ vec_len l.fn.ids + l.breakpoint-index;
  capacity : vec_capacity l.fn.ids ≤ vec_capacity l.ids;
}
