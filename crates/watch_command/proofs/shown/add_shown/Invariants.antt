use Rattle.watch_command.proofs.Common.{drop, flat_map, shown_byte, ◌++◌, ◌≡◌}

-- what is shown so far, and what is left
abbrev pub invariant-loop-byte : Rattle.watch_command.proofs.shown.add_shown.Given.invariant-loop-byte
invariant-loop-byte l =
    l.text.items ++ flat_map (shown_byte l.utf8) (drop l.byte-index l.words) ≡ l.fn.text.items ++ flat_map (shown_byte l.utf8) l.words
