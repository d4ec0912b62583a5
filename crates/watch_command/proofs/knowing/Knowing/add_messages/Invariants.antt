use Rattle.std.proofs.Common.{◌≡◌, length}
use Rattle.watch_command.proofs.Spoken.{Telling}
use Rattle.watch_command.proofs.knowing.Knowing.add_messages.Given as goal

-- the messages so far were said
abbrev pub invariant-loop-body : goal.invariant-loop-body
invariant-loop-body l = record {
  told : Telling l.number l.fn.unframer.waiting l.unframer.waiting l.fn.text.items l.text.items;
  same : l.self.config ≡ l.fn.self.config;
}

abbrev pub decreases-loop-body : goal.decreases-loop-body
decreases-loop-body l = length l.unframer.waiting
