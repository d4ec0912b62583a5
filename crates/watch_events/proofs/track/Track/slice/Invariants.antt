-- this many moves were made, one after the other, and the last of them ended so
abbrev pub invariant-loop-made : Rattle.watch_events.proofs.track.Track.slice.Given.invariant-loop-made
invariant-loop-made l = record {
  slices : Rattle.watch_events.proofs.Tracked.SlicesOf l.fn.self l._made l.ending l.self;
  same : Rattle.watch_events.specs.Private.Tracking.SameWatched l.fn.self l.self;
}
