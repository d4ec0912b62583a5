-- What `setInstructionBreakpoints` answers (DAP specification, `SetInstructionBreakpointsRequest`).
--
-- A breakpoint is at the address that its reference and offset come to. That has to lie in memory and to be a multiple
-- of 4, as instructions do.
use Rattle.std.specs.Prelude.{ℕ, ◌+◌, ◌%◌, ◌==◌, nat_le, nat_lt, Bool, ◌&&◌, if◌then◌else◌, length, Option, Some, None}
use Rattle.std.specs.Prelude.{Result, Ok, Err}
use Rattle.image.specs.Memory.{first_address}
use Rattle.protocol.specs.declared.set_instruction_breakpoints.InstructionBreakpoint.{InstructionBreakpoint}
use Rattle.protocol.specs.declared.set_instruction_breakpoints.SetInstructionBreakpointsArguments as given
use Rattle.protocol.specs.declared.refusal.Refusal.TheVariants.{TooMuch}
use Rattle.message_parts.specs.declared.set_instruction_breakpoints.InstructionBreakpoint as replied
use Rattle.message_parts.specs.declared.set_instruction_breakpoints.InstructionBreakpoint.TheVariants.{Verified, Unverified}
use Rattle.replies.specs.declared.response.ResponseBody.TheVariants.{SetInstructionBreakpoints}
use Rattle.breakpoints.specs.Stops.{Wanted}
use Rattle.answers.specs.Breakpoints.{Answer, entries_of, list_of, message_of}
use Rattle.numerals.specs.MemoryReferences.{address_in}
use Rattle.answers.specs.Conditions.{Conditions, conditions_of}
use Rattle.answers.specs.declared.problem.Problem.{Problem}
use Rattle.answers.specs.declared.problem.Problem.TheVariants.{BadAddress}

-- a breakpoint that can be set: its address and its conditions
pub record Place : Type 0 where
  pub address : ℕ
  pub conditions : Conditions

-- whether an address can be an instruction's, in a memory of this many bytes
abbrev pub is_instructions : ℕ → ℕ → Bool
is_instructions size address =
    nat_le first_address address && (nat_lt address (first_address + size) && (address % 4 == 0))

abbrev pub if_instructions : ℕ → Option ℕ → Option ℕ
if_instructions size None = None
if_instructions size (Some address) = if is_instructions size address then Some address else None

abbrev pub placed : Result Conditions Problem → Option ℕ → Result Place Problem
placed (Err problem) found = Err problem
placed (Ok conditions) None = Err BadAddress
placed (Ok conditions) (Some address) = Ok (record { address = address; conditions = conditions })

-- the address that is asked for, if an instruction can be there
abbrev pub asked_address : ℕ → InstructionBreakpoint → Option ℕ
asked_address size asked = if_instructions size (address_in asked.instruction_reference asked.offset)

-- whether a breakpoint can be set, and where
abbrev pub judged : ℕ → InstructionBreakpoint → Result Place Problem
judged size asked = placed (conditions_of asked.condition asked.hit_condition) (asked_address size asked)

-- what is said of one that is asked for; `id` is its number where it is set
abbrev pub verified : ℕ → Place → replied.InstructionBreakpoint
verified id place = Verified id place.address

abbrev pub unverified : Problem → replied.InstructionBreakpoint
unverified problem = Unverified (message_of problem)

abbrev pub entry : {A : Type 0} → ℕ → A → Result Place Problem → replied.InstructionBreakpoint
entry id asked (Ok place) = verified id place
entry id asked (Err problem) = unverified problem

abbrev pub wanted : ℕ → Place → Wanted
wanted id place =
    record {
      id = id;
      address = place.address;
      condition = place.conditions.condition;
      hit = place.conditions.hit;
      log = None;
    }

-- the answer, with a memory of this many bytes
abbrev pub set_instruction_breakpoints : ℕ → ℕ → given.SetInstructionBreakpointsArguments → Answer
set_instruction_breakpoints size next arguments =
    if nat_lt 1024 (length arguments.breakpoints) then record { result = Err TooMuch; list = None }
    else record {
      result = Ok (SetInstructionBreakpoints (record {
        breakpoints = entries_of (judged size) entry next arguments.breakpoints;
      }));
      list = Some (list_of (judged size) wanted next arguments.breakpoints);
    }
