use Rattle.course.proofs.Common.{AreKnown, List, vec_capacity, ℕ, ◌*◌, ◌+◌, ◌/◌, ◌≡◌}

abbrev pub invariant-loop-k : Rattle.course.proofs.places.forget_words.Given.invariant-loop-k
invariant-loop-k l = record {
  forgets : (memory : List ℕ) → AreKnown memory 0 0 l.fn.entries.items
      → AreKnown memory (l.at / 4 * 4) (l.at / 4 * 4 + 4 * l.k) l.entries.items;
  room : vec_capacity l.entries ≡ vec_capacity l.fn.entries;
}
