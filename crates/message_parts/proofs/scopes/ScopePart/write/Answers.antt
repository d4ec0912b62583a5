use Rattle.message_parts.proofs.Appending.{and_then, object_written}
use Rattle.message_parts.proofs.scopes.ScopePart.write.Goals as goal

pub returns-in_ok-number-in-Registers : goal.returns-in_ok-number-in-Registers
returns-in_ok-number-in-Registers c =
    rw c.in-Registers.is
    (object_written c.end_object.result c.in_ok-begin_object-in-Registers.ensures
    (and_then c.in_ok-truth-in-Registers.ensures
    (and_then c.in_ok-text-in-Registers.ensures
    (and_then c.in_ok-text-in-Registers-2.ensures c.in_ok-number-in-Registers.ensures))) c.end_object.ensures)

pub returns-in_ok-number-in-Stack : goal.returns-in_ok-number-in-Stack
returns-in_ok-number-in-Stack c =
    rw c.in-Stack.is (object_written c.end_object-in-Stack.result c.in_ok-begin_object-in-Stack.ensures
    (and_then c.in_ok-truth-in-Stack.ensures
    (and_then c.in_ok-text-in-Stack.ensures c.in_ok-number-in-Stack.ensures)) c.end_object-in-Stack.ensures)
