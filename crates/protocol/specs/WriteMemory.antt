-- The request `writeMemory` (`WriteMemoryRequest`): what its arguments mean.
--
-- The editor names an address by a text, which is read later, may add an integer to it, and gives the bytes
-- in base64. It may allow that not all of them are written.
use Rattle.std.specs.Prelude.{None, Option, Some, codes, false, pos, refl, unwrap_or, ◌≡◌}
use Rattle.serde_json.specs.Data.{Members, member, no_members, string}
use Rattle.serde_json.specs.Find.{as_bool, as_str}
use Rattle.protocol.specs.Properties.{integer, property, ◌>>=◌}
use Rattle.protocol.specs.Arguments.{base64, optional, required}
use Rattle.protocol.specs.declared.members.TheConstants.{MEMORY_REFERENCE, OFFSET}
use Rattle.protocol.specs.declared.write_memory.WriteMemoryArguments.{WriteMemoryArguments}
use Rattle.protocol.specs.declared.write_memory.TheConstants.{NAME, DATA, ALLOW_PARTIAL}
use Rattle.protocol.specs.declared.command.Command.TheVariants as command
use Rattle.protocol.specs.Rows.{Row, row}

-- the arguments; None where the address or the bytes are absent, or one has another type
abbrev pub write_memory_arguments : Members → Option WriteMemoryArguments
write_memory_arguments members = do
  memory_reference ← required as_str (property MEMORY_REFERENCE.now members)
  offset ← optional integer (property OFFSET.now members)
  bytes ← required base64 (property DATA.now members)
  allow_partial ← optional as_bool (property ALLOW_PARTIAL.now members)
  Some (record {
    memory_reference = memory_reference;
    offset = unwrap_or offset (pos 0);
    bytes = bytes;
    allow_partial = unwrap_or allow_partial false;
  })

-- the request
abbrev pub write_memory_request : Row
write_memory_request = row NAME.now write_memory_arguments (λ a. command.WriteMemory a)

bytes_have_to_be_there : write_memory_arguments
    (member (codes "memoryReference") (string (codes "0x00010000")) no_members)
    ≡ None
bytes_have_to_be_there = refl

their_names : (DATA.now ≡ codes "data") × (ALLOW_PARTIAL.now ≡ codes "allowPartial")
their_names = (refl, refl)
