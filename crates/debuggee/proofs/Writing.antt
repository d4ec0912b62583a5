-- Bytes are written to the memory of a program.
use Rattle.debuggee.proofs.Common.{ap, Debugged, Err, IsWritten, length, List, Ok, past_left, Position, Program, Result, written, ℕ, ◌∙◌, ◌≡◌}
use Rattle.image.specs.Memory.{WritesOrLacks, fault_at, memory_after, unless_fault, with_bytes}
use Rattle.image.specs.declared.fault.MemFault.{MemFault}
use Rattle.image.specs.declared.fault.MemFault.TheVariants.{Misaligned, Outside, NoMemory}
use Rattle.debuggee.proofs.Advancing.{with_machine}

-- this machine, with such memory and such a past
abbrev with_memory : Debugged → List ℕ → List Position → Debugged
with_memory d memory past = record d { memory = memory; past = past }

writes : (address : ℕ) (bytes : List ℕ) (p : Program) (after : Debugged) (answer : Result (Unit {0}) MemFault)
    → let fault = fault_at p.machine.memory 1 address (length bytes) in answer ≡ unless_fault fault tt
    → after.memory ≡ memory_after fault (with_bytes p.machine.memory address bytes) p.machine.memory
    → after ≡ with_memory p.machine after.memory (past_left answer p.machine.past)
    → (answer ≡ unless_fault fault tt) × (with_machine p after ≡ written address bytes p)
writes address bytes p after answer answers leaves e =
    (answers, ap (with_machine p) (e ∙ λ j. with_memory p.machine (leaves j) (past_left (answers j) p.machine.past)))

pub writes_so : (address : ℕ) (bytes : List ℕ) (p : Program) (after : Debugged) (answer : Result (Unit {0}) MemFault)
    → WritesOrLacks 1 p.machine.memory address bytes answer after.memory
    → after ≡ with_memory p.machine after.memory (past_left answer p.machine.past) → IsWritten address bytes p answer (with_machine p after)
writes_so address bytes p after (Ok unit) h e = writes address bytes p after (Ok unit) h.answers h.leaves e
writes_so address bytes p after (Err Misaligned) h e = writes address bytes p after (Err Misaligned) h.answers h.leaves e
writes_so address bytes p after (Err Outside) h e = writes address bytes p after (Err Outside) h.answers h.leaves e
writes_so address bytes p after (Err NoMemory) h e =
    (h.0, ap (with_machine p) (e ∙ ap (λ (memory : List ℕ). with_memory p.machine memory p.machine.past) h.1))
