use Rattle.std.proofs.Common.{◌≡◌, ◌++◌, length}
use Rattle.mirror.specs.Streams.{messages_of, messages_so_far}
use Rattle.client.proofs.messages.messages_in.Given as goal

-- the messages so far, and those of the bodies that still wait, are all
abbrev pub invariant-loop-body : goal.invariant-loop-body
invariant-loop-body l = l.messages.items ++ messages_of l.unframer.waiting ≡ messages_so_far l.bytes

abbrev pub decreases-loop-body : goal.decreases-loop-body
decreases-loop-body l = length l.unframer.waiting
