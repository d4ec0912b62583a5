-- The body of the event `stopped`: why the machine stopped (DAP specification, `StoppedEvent`).
--
-- All threads stop; there is one. The body lists the numbers of the breakpoints that stopped it, where there
-- are any, and has a text where there is more to say of the reason, as of an exception.
use Rattle.std.specs.Prelude.{ℕ, List, [], ◌∷◌, Some, true, codes}
use Rattle.serde_json.specs.Data.{boolean, number, unsigned}
use Rattle.message_parts.specs.Forms.{Form, object_of, none, field, fixed, optional, unless_empty, made_of, one_of, whole}
use Rattle.message_parts.specs.Forms.{text}
use Rattle.message_parts.specs.declared.stopped.Reason.{Reason}
use Rattle.message_parts.specs.declared.stopped.Reason.TheVariants.{Entry, Step, Breakpoint, InstructionBreakpoint}
use Rattle.message_parts.specs.declared.stopped.Reason.TheVariants.{FunctionBreakpoint, Exception, Pause}
use Rattle.message_parts.specs.declared.stopped.Stopped.{Stopped}

-- the reasons
abbrev pub reasons : List Reason
reasons = Entry ∷ Step ∷ Breakpoint ∷ InstructionBreakpoint ∷ FunctionBreakpoint ∷ Exception ∷ Pause ∷ []

-- the name of a reason
abbrev pub reason_name : Reason → List ℕ
reason_name Entry = codes "entry"
reason_name Step = codes "step"
reason_name Breakpoint = codes "breakpoint"
reason_name InstructionBreakpoint = codes "instruction breakpoint"
reason_name FunctionBreakpoint = codes "function breakpoint"
reason_name Exception = codes "exception"
reason_name Pause = codes "pause"

-- a reason
abbrev pub reason : Form Reason
reason = one_of reason_name reasons

-- the body
abbrev pub stopped : Form Stopped
stopped =
    made_of (λ s. (s.hit_breakpoint_ids, (s.reason, (s.text, tt))))
    (λ p. Some (record { hit_breakpoint_ids = p.0; reason = p.1.0; text = p.1.1.0 }))
    (object_of (fixed (codes "allThreadsStopped") (boolean true)
    (unless_empty (codes "hitBreakpointIds") whole
    (field (codes "reason") reason
    (optional (codes "text") text
    (fixed (codes "threadId") (number (unsigned 1)) none))))))
