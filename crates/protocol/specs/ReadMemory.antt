-- The request `readMemory` (`ReadMemoryRequest`): what its arguments mean.
--
-- The editor names an address by a text, which is read later, may add an integer to it, and says how many
-- bytes it wants.
use Rattle.std.specs.Prelude.{None, Option, Some, codes, pos, refl, unwrap_or, ◌≡◌}
use Rattle.serde_json.specs.Data.{Members, member, no_members, number, string, unsigned}
use Rattle.serde_json.specs.Find.{as_str}
use Rattle.protocol.specs.Properties.{integer, natural, property, ◌>>=◌}
use Rattle.protocol.specs.Arguments.{optional, required}
use Rattle.protocol.specs.declared.members.TheConstants.{MEMORY_REFERENCE, OFFSET, COUNT}
use Rattle.protocol.specs.declared.read_memory.ReadMemoryArguments.{ReadMemoryArguments}
use Rattle.protocol.specs.declared.read_memory.TheConstants.{NAME}
use Rattle.protocol.specs.declared.command.Command.TheVariants as command
use Rattle.protocol.specs.Rows.{Row, row}

-- the arguments; None where the address or the number of bytes is absent, or one has another type
abbrev pub read_memory_arguments : Members → Option ReadMemoryArguments
read_memory_arguments members = do
  memory_reference ← required as_str (property MEMORY_REFERENCE.now members)
  offset ← optional integer (property OFFSET.now members)
  count ← required natural (property COUNT.now members)
  Some (record { memory_reference = memory_reference; offset = unwrap_or offset (pos 0); count = count })

-- the request
abbrev pub read_memory_request : Row
read_memory_request = row NAME.now read_memory_arguments (λ a. command.ReadMemory a)

four_bytes : read_memory_arguments
    (member (codes "count") (number (unsigned 4))
    (member (codes "memoryReference") (string (codes "0x00010000")) no_members))
    ≡ Some (record { memory_reference = codes "0x00010000"; offset = pos 0; count = 4 })
four_bytes = refl

their_number_has_to_be_there : read_memory_arguments
    (member (codes "memoryReference") (string (codes "0x00010000")) no_members)
    ≡ None
their_number_has_to_be_there = refl

four_bytes_further_on : read_memory_arguments
    (member (codes "count") (number (unsigned 4))
    (member (codes "memoryReference") (string (codes "0"))
    (member (codes "offset") (number (unsigned 8)) no_members)))
    ≡ Some (record { memory_reference = codes "0"; offset = pos 8; count = 4 })
four_bytes_further_on = refl
