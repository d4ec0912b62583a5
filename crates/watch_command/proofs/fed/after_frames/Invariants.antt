use Rattle.watch_command.proofs.Common.{HasLeft, length, reading_of}
use Rattle.watch_command.proofs.fed.after_frames.Given as goal

-- what is left are the frames of the bodies that wait, and what comes after them
abbrev pub invariant-loop-body : goal.invariant-loop-body
invariant-loop-body l = HasLeft l.left l.unframer.waiting (reading_of 1048576 l.bytes).tail

abbrev pub decreases-loop-body : goal.decreases-loop-body
decreases-loop-body l = length l.unframer.waiting
