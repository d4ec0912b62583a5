-- The request `setInstructionBreakpoints` (`SetInstructionBreakpointsRequest`): what its arguments mean.
--
-- The editor says which breakpoints at addresses it wants. Each has an address, which is a text, and
-- may have a number that is added to it, and two texts. The texts are read later. `mode` is not looked at.
use Rattle.std.specs.Prelude.{◌≡◌, [], Option, Some, None, pos, codes, refl, unwrap_or}
use Rattle.serde_json.specs.Data.{Data, object, array, no_items, string, Members, no_members, member, number, unsigned}
use Rattle.serde_json.specs.Find.{as_object, as_str}
use Rattle.protocol.specs.Properties.{◌>>=◌, property, integer}
use Rattle.protocol.specs.Arguments.{required, optional, list}
use Rattle.protocol.specs.declared.members.TheConstants.{BREAKPOINTS, CONDITION, HIT_CONDITION, OFFSET}
use Rattle.protocol.specs.declared.set_instruction_breakpoints.InstructionBreakpoint.{InstructionBreakpoint}
use Rattle.protocol.specs.declared.set_instruction_breakpoints.SetInstructionBreakpointsArguments as given
use Rattle.protocol.specs.declared.set_instruction_breakpoints.TheConstants.{NAME, INSTRUCTION_REFERENCE}
use Rattle.protocol.specs.declared.command.Command.TheVariants as command
use Rattle.protocol.specs.Rows.{Row, row}

-- a breakpoint; its address has to be there
abbrev pub instruction_breakpoint : Data → Option InstructionBreakpoint
instruction_breakpoint value = do
  members ← as_object value
  reference ← required as_str (property INSTRUCTION_REFERENCE.now members)
  offset ← optional integer (property OFFSET.now members)
  condition ← optional as_str (property CONDITION.now members)
  hits ← optional as_str (property HIT_CONDITION.now members)
  Some (record {
    instruction_reference = reference;
    offset = unwrap_or offset (pos 0);
    condition = condition;
    hit_condition = hits;
  })

-- the arguments; None where the breakpoints are absent, or one has another type
abbrev pub set_instruction_breakpoints_arguments : Members → Option given.SetInstructionBreakpointsArguments
set_instruction_breakpoints_arguments members = do
  breakpoints ← required (list instruction_breakpoint) (property BREAKPOINTS.now members)
  Some (record { breakpoints = breakpoints })

-- the request
abbrev pub set_instruction_breakpoints_request : Row
set_instruction_breakpoints_request =
    row NAME.now set_instruction_breakpoints_arguments (λ a. command.SetInstructionBreakpoints a)

none_at_all : set_instruction_breakpoints_arguments (member (codes "breakpoints") (array no_items) no_members)
    ≡ Some (record { breakpoints = [] })
none_at_all = refl

a_list_has_to_be_there : set_instruction_breakpoints_arguments no_members ≡ None
a_list_has_to_be_there = refl

at_an_address : instruction_breakpoint
    (object (member (codes "instructionReference") (string (codes "0x00010000")) no_members))
    ≡ Some (record {
      instruction_reference = codes "0x00010000";
      offset = pos 0;
      condition = None;
      hit_condition = None;
    })
at_an_address = refl

with_an_offset : instruction_breakpoint
    (object (member (codes "instructionReference") (string (codes "0"))
    (member (codes "offset") (number (unsigned 4)) no_members)))
    ≡ Some (record { instruction_reference = codes "0"; offset = pos 4; condition = None; hit_condition = None })
with_an_offset = refl
