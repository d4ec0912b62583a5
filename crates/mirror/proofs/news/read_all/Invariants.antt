use Rattle.mirror.proofs.Common.{error_of, length, messages_of, ◌++◌, ◌≡◌}
use Rattle.mirror.proofs.news.read_all.Given as goal

-- the messages so far, and those of the bodies that still wait, are all; no body so far is no message
abbrev pub invariant-loop-body : goal.invariant-loop-body
invariant-loop-body l = record {
  messages : l.messages.items ++ messages_of l.unframer.waiting ≡ messages_of l.fn.unframer.waiting;
  error : error_of l.unframer.waiting ≡ error_of l.fn.unframer.waiting;
  before : l.unframer.before ≡ l.fn.unframer.before;
  limit : l.unframer.limit ≡ l.fn.unframer.limit;
  tail : l.unframer.tail ≡ l.fn.unframer.tail;
}

abbrev pub decreases-loop-body : goal.decreases-loop-body
decreases-loop-body l = length l.unframer.waiting
