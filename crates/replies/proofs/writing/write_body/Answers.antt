use Rattle.message_parts.proofs.Appending.{member_if_written}
use Rattle.replies.proofs.writing.write_body.Goals as goal

pub returns-in_ok-key-in-Initialize : goal.returns-in_ok-key-in-Initialize
returns-in_ok-key-in-Initialize c =
    rw c.in-Initialize.is (member_if_written _ _ c.body.result c.in_ok-key-in-Initialize.ensures c.body.ensures)

pub returns-in_ok-key-in-Threads : goal.returns-in_ok-key-in-Threads
returns-in_ok-key-in-Threads c =
    rw c.in-Threads.is (member_if_written _ _ c.body-in-Threads.result c.in_ok-key-in-Threads.ensures c.body-in-Threads.ensures)

pub returns-in_ok-key-in-Continue : goal.returns-in_ok-key-in-Continue
returns-in_ok-key-in-Continue c =
    rw c.in-Continue.is (member_if_written _ _ c.body-in-Continue.result c.in_ok-key-in-Continue.ensures c.body-in-Continue.ensures)

pub returns-in-SetVariable : goal.returns-in-SetVariable
returns-in-SetVariable c = rw c.in-SetVariable.is c.part-in-SetVariable.ensures

pub returns-in-Evaluate : goal.returns-in-Evaluate
returns-in-Evaluate c = rw c.in-Evaluate.is c.part-in-Evaluate.ensures

pub returns-in_ok-key-in-ReadMemory : goal.returns-in_ok-key-in-ReadMemory
returns-in_ok-key-in-ReadMemory c =
    rw c.in-ReadMemory.is (member_if_written _ _ c.body-in-ReadMemory.result c.in_ok-key-in-ReadMemory.ensures c.body-in-ReadMemory.ensures)
