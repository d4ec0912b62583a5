-- The body that answers `readMemory`: bytes of memory (DAP specification, `ReadMemoryResponse`).
--
-- It has the address of the first byte, and the bytes as far as there are any. Where there are fewer than were asked
-- for, it says how many are missing.
use Rattle.std.specs.Prelude.{ℕ, ◌==◌, Option, Some, None, if◌then◌else◌, codes}
use Rattle.message_parts.specs.Addresses.{address}
use Rattle.message_parts.specs.EncodedBytes.{encoded_bytes}
use Rattle.message_parts.specs.Forms.{Form, object_of, none, field, optional, made_of, whole}
use Rattle.message_parts.specs.declared.read_memory.ReadMemory.{ReadMemory}

-- a number that is not said where it is 0
abbrev pub unless_0 : ℕ → Option ℕ
unless_0 n = if n == 0 then None else Some n

-- the number, where it is said or not
abbrev pub or_0 : Option ℕ → ℕ
or_0 None = 0
or_0 (Some n) = n

abbrev pub read_memory : Form ReadMemory
read_memory = made_of (λ m. (m.address, (m.bytes, (unless_0 m.unreadable_bytes, tt))))
    (λ p. Some (record { address = p.0; bytes = p.1.0; unreadable_bytes = or_0 p.1.1.0 }))
    (object_of (field (codes "address") address
    (field (codes "data") encoded_bytes
    (optional (codes "unreadableBytes") whole none))))
