use Rattle.std.proofs.Common.{◌≡◌, take}

-- the lists so far
abbrev pub invariant-loop-list : Rattle.mirror.proofs.sources.Sources.copied.Given.invariant-loop-list
invariant-loop-list l = l.lists.items ≡ take l.list-index l.list-items
