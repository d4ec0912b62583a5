use Rattle.mirror.proofs.Common.{at, facts_of, folded, take, ◌≡◌}
use Rattle.std.specs.Prelude.{fold}

-- the messages so far are folded
abbrev pub invariant-loop-message : Rattle.mirror.proofs.news.fold_all.Given.invariant-loop-message
invariant-loop-message l = facts_of l.next ≡ fold (folded (at l.requests)) (facts_of l.initial.next) (take l.message-index l.messages)
