use Rattle.course.proofs.Common.{length, Makes, vec_capacity, ◌≡◌}

abbrev pub invariant-loop-k : Rattle.course.proofs.places.make.Given.invariant-loop-k
invariant-loop-k l = record {
  here : length l.entries.items ≡ l.k;
  makes : Makes l.k l.fn.entries.items l.entries.items;
  room : vec_capacity l.entries ≡ vec_capacity l.fn.entries;
}
