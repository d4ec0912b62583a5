-- The body that answers `writeMemory`: how many bytes were written (DAP specification, `WriteMemoryResponse`).
use Rattle.std.specs.Prelude.{Some, codes}
use Rattle.message_parts.specs.Forms.{Form, object_of, none, field, made_of, whole}
use Rattle.message_parts.specs.declared.write_memory.WriteMemory.{WriteMemory}

abbrev pub write_memory : Form WriteMemory
write_memory = made_of (λ b. (b.bytes_written, tt)) (λ p. Some (record { bytes_written = p.0 }))
    (object_of (field (codes "bytesWritten") whole none))
