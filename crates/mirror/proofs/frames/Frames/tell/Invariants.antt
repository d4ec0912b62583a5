use Rattle.mirror.proofs.Common.{at, frame_of, map, PlaceIs, upto, ℕ, ◌+◌, ◌≡◌}

-- the frames so far are told
abbrev pub invariant-loop-frame : Rattle.mirror.proofs.frames.Frames.tell.Given.invariant-loop-frame
invariant-loop-frame l = record {
  told : (place : ℕ)
      → at l.self-inside.map.entries place ≡ upto l.frame-index l.first (map frame_of l.frames) (at l.initial.self-inside.map.entries) place;
  place : PlaceIs l.place (l.first + l.frame-index);
}
