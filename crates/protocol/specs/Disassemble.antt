-- The request `disassemble` (`DisassembleRequest`): what its arguments mean.
--
-- The editor names an address by a text, which is read later, and says how many instructions it wants. It
-- may add a number of bytes and one of instructions, both integers. `resolveSymbols` is not looked at.
use Rattle.std.specs.Prelude.{None, Option, Some, codes, pos, refl, unwrap_or, ◌≡◌}
use Rattle.serde_json.specs.Data.{Members, member, no_members, number, string, unsigned}
use Rattle.serde_json.specs.Find.{as_str}
use Rattle.protocol.specs.Properties.{integer, natural, property, ◌>>=◌}
use Rattle.protocol.specs.Arguments.{optional, required}
use Rattle.protocol.specs.declared.members.TheConstants.{MEMORY_REFERENCE, OFFSET}
use Rattle.protocol.specs.declared.disassemble.DisassembleArguments.{DisassembleArguments}
use Rattle.protocol.specs.declared.disassemble.TheConstants.{NAME, INSTRUCTION_OFFSET, INSTRUCTION_COUNT}
use Rattle.protocol.specs.declared.command.Command.TheVariants as command
use Rattle.protocol.specs.Rows.{Row, row}

-- the arguments; None where the address or the number of instructions is absent, or one has another type
abbrev pub disassemble_arguments : Members → Option DisassembleArguments
disassemble_arguments members = do
  memory_reference ← required as_str (property MEMORY_REFERENCE.now members)
  offset ← optional integer (property OFFSET.now members)
  instruction_offset ← optional integer (property INSTRUCTION_OFFSET.now members)
  instruction_count ← required natural (property INSTRUCTION_COUNT.now members)
  Some (record {
    memory_reference = memory_reference;
    offset = unwrap_or offset (pos 0);
    instruction_offset = unwrap_or instruction_offset (pos 0);
    instruction_count = instruction_count;
  })

-- the request
abbrev pub disassemble_request : Row
disassemble_request = row NAME.now disassemble_arguments (λ a. command.Disassemble a)

from_an_address : disassemble_arguments
    (member (codes "instructionCount") (number (unsigned 8))
    (member (codes "memoryReference") (string (codes "0x00010000")) no_members))
    ≡ Some (record {
      memory_reference = codes "0x00010000";
      offset = pos 0;
      instruction_offset = pos 0;
      instruction_count = 8;
    })
from_an_address = refl

their_number_has_to_be_there : disassemble_arguments
    (member (codes "memoryReference") (string (codes "0x00010000")) no_members)
    ≡ None
their_number_has_to_be_there = refl

from_another : disassemble_arguments
    (member (codes "instructionCount") (number (unsigned 8))
    (member (codes "instructionOffset") (number (unsigned 2))
    (member (codes "memoryReference") (string (codes "0"))
    (member (codes "offset") (number (unsigned 4)) no_members))))
    ≡ Some (record {
      memory_reference = codes "0";
      offset = pos 4;
      instruction_offset = pos 2;
      instruction_count = 8;
    })
from_another = refl
