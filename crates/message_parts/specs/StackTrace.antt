-- The body that answers `stackTrace`: where the program is, and from where it was called.
--
-- A frame has a number, a name, the address at which it is, and the line there, with its source (DAP specification,
-- `StackFrame`). An address that belongs to no line has no source. `totalFrames` counts all frames; the answer may give
-- only some of them (`StackTraceResponse`).
use Rattle.std.specs.Prelude.{Some, codes}
use Rattle.message_parts.specs.Forms.{Form, object_of, none, field, optional, made_of, whole, text, list}
use Rattle.message_parts.specs.Addresses.{address}
use Rattle.message_parts.specs.declared.stack_trace.Source.{Source}
use Rattle.message_parts.specs.declared.stack_trace.StackFrame.{StackFrame}
use Rattle.message_parts.specs.declared.stack_trace.StackTrace.{StackTrace}

-- a source
abbrev pub source : Form Source
source = made_of (λ s. (s.name, (s.path, tt))) (λ p. Some (record { name = p.0; path = p.1.0 }))
    (object_of (field (codes "name") text (field (codes "path") text none)))

-- a frame
abbrev pub stack_frame : Form StackFrame
stack_frame =
    made_of (λ f. (f.column, (f.id, (f.instruction_pointer_reference, (f.line, (f.name, (f.source, tt)))))))
    (λ p. Some (record {
      column = p.0;
      id = p.1.0;
      instruction_pointer_reference = p.1.1.0;
      line = p.1.1.1.0;
      name = p.1.1.1.1.0;
      source = p.1.1.1.1.1.0;
    }))
    (object_of (field (codes "column") whole
    (field (codes "id") whole
    (field (codes "instructionPointerReference") address
    (field (codes "line") whole
    (field (codes "name") text
    (optional (codes "source") source none)))))))

-- the body
abbrev pub stack_trace : Form StackTrace
stack_trace =
    made_of (λ t. (t.stack_frames, (t.total_frames, tt)))
    (λ p. Some (record { stack_frames = p.0; total_frames = p.1.0 }))
    (object_of (field (codes "stackFrames") (list stack_frame) (field (codes "totalFrames") whole none)))
