use Rattle.message_parts.proofs.Appending.{and_then, object_written}
use Rattle.message_parts.proofs.set_instruction_breakpoints.InstructionBreakpointPart.write.Goals as goal

pub returns-in_ok-truth-in-Verified : goal.returns-in_ok-truth-in-Verified
returns-in_ok-truth-in-Verified c =
    rw c.in-Verified.is (object_written c.end_object.result c.in_ok-begin_object-in-Verified.ensures
    (and_then c.in_ok-number-in-Verified.ensures
    (and_then c.in_ok-address-in-Verified.ensures c.in_ok-truth-in-Verified.ensures)) c.end_object.ensures)

pub returns-in_ok-truth-in-Unverified : goal.returns-in_ok-truth-in-Unverified
returns-in_ok-truth-in-Unverified c =
    let text = rw c.as_str.ensures at c.in_ok-text-in-Unverified.ensures in
    rw c.in-Unverified.is
    (object_written c.end_object-in-Unverified.result c.in_ok-begin_object-in-Unverified.ensures
    (and_then text c.in_ok-truth-in-Unverified.ensures) c.end_object-in-Unverified.ensures)
