-- The arguments of each request stand in the order of their names, and nest little.
use Rattle.std.proofs.Common.{arith, List, refl, true, ℕ, ◌≡◌, ◌≤◌}
use Rattle.json.proofs.Printed.Utf8.{are_ascii, IsUtf8-are_ascii}
use Rattle.message_parts.proofs.EncodedBytes.{lawful_encoded_bytes}
use Rattle.message_parts.proofs.Lawful.{Lawful, LawfulFields, lawful_field, lawful_fixed, lawful_list, lawful_made_of, lawful_none, lawful_object, lawful_one_of, lawful_optional, lawful_signed, lawful_text, lawful_truth, lawful_whole}
use Rattle.message_parts.specs.Forms.{Fields, first_named, one_of}
use Rattle.message_parts.specs.Order.{are_members_ordered}
use Rattle.serde_json.specs.Data.{Members, members_depth}
use Rattle.std.specs.Prelude.{Some}
use Rattle.protocol.specs.declared.command.Command.{Command}
use Rattle.protocol.specs.declared.command.Command.TheVariants as command
use Rattle.protocol.specs.declared.filter.Filter.{Filter}
use Rattle.protocol.specs.declared.filter.Filter.TheVariants.{Indexed, Named}
use Rattle.protocol.specs.declared.granularity.Granularity.{Granularity}
use Rattle.protocol.specs.declared.granularity.Granularity.TheVariants.{Statement, Line, Instruction}
use Rattle.protocol.specs.declared.set_breakpoints.SourceBreakpoint.{SourceBreakpoint}
use Rattle.protocol.specs.declared.set_function_breakpoints.FunctionBreakpoint.{FunctionBreakpoint}
use Rattle.protocol.specs.declared.set_instruction_breakpoints.InstructionBreakpoint.{InstructionBreakpoint}
use Rattle.requests.specs.Arguments.{filter_name, filters, granularities, granularity_name, members_of}
use Rattle.requests.specs.Arguments as arguments

-- ---- names that stand for a choice

same_granularity : (g : Granularity) → first_named granularity_name granularities (granularity_name g) ≡ Some g
same_granularity Statement = refl
same_granularity Line = refl
same_granularity Instruction = refl

ascii_granularity : (g : Granularity) → are_ascii (granularity_name g) ≡ true
ascii_granularity Statement = refl
ascii_granularity Line = refl
ascii_granularity Instruction = refl

same_filter : (f : Filter) → first_named filter_name filters (filter_name f) ≡ Some f
same_filter Indexed = refl
same_filter Named = refl

ascii_filter : (f : Filter) → are_ascii (filter_name f) ≡ true
ascii_filter Indexed = refl
ascii_filter Named = refl

-- ---- objects

lawful_source : Lawful 2 arguments.source
lawful_source = lawful_made_of _ _ (λ x. refl) (λ y h. h) (lawful_object (lawful_optional refl refl lawful_text lawful_none))

lawful_source_breakpoint : Lawful 1 arguments.source_breakpoint
lawful_source_breakpoint =
    lawful_made_of (λ (b : SourceBreakpoint). (b.condition, (b.hit_condition, (b.line, (b.log_message, tt)))))
    (λ p. Some (record { condition = p.0; hit_condition = p.1.0; line = p.1.1.0; log_message = p.1.1.1.0 })) (λ x. refl) (λ y h. h)
    (lawful_object (lawful_optional refl refl lawful_text
    (lawful_optional refl refl lawful_text
    (lawful_field refl refl lawful_whole
    (lawful_optional refl refl lawful_text lawful_none)))))

lawful_function_breakpoint : Lawful 1 arguments.function_breakpoint
lawful_function_breakpoint =
    lawful_made_of (λ (b : FunctionBreakpoint). (b.condition, (b.hit_condition, (b.name, tt))))
    (λ p. Some (record { condition = p.0; hit_condition = p.1.0; name = p.1.1.0 })) (λ x. refl) (λ y h. h)
    (lawful_object (lawful_optional refl refl lawful_text
    (lawful_optional refl refl lawful_text
    (lawful_field refl refl lawful_text lawful_none))))

lawful_instruction_breakpoint : Lawful 1 arguments.instruction_breakpoint
lawful_instruction_breakpoint =
    lawful_made_of (λ (b : InstructionBreakpoint). (b.condition, (b.hit_condition, (b.instruction_reference, (b.offset, tt)))))
    (λ p. Some (record { condition = p.0; hit_condition = p.1.0; instruction_reference = p.1.1.0; offset = p.1.1.1.0 })) (λ x. refl) (λ y h. h)
    (lawful_object (lawful_optional refl refl lawful_text
    (lawful_optional refl refl lawful_text
    (lawful_field refl refl lawful_text
    (lawful_field refl refl lawful_signed lawful_none)))))

-- ---- arguments

-- members that stand in order, and nest little
pub record InOrder (members : Members) : Type 0 where
  pub ordered : are_members_ordered members ≡ true
  pub shallow : members_depth members ≤ 2

InOrder-fields : {A : Type 0} {fields : Fields A} → LawfulFields 2 fields → (x : A) → InOrder (fields.members x)
InOrder-fields h x = record { ordered = h.ordered x; shallow = h.shallow x }

thread : LawfulFields 2 arguments.thread
thread = lawful_field refl refl lawful_signed lawful_none

step : LawfulFields 2 arguments.step
step = lawful_field refl refl (lawful_one_of granularity_name granularities same_granularity ascii_granularity) thread

disconnect : LawfulFields 2 arguments.disconnect
disconnect = lawful_optional refl refl lawful_truth (lawful_optional refl refl lawful_truth lawful_none)

variables : LawfulFields 2 arguments.variables
variables =
    lawful_optional refl refl lawful_whole
    (lawful_optional refl refl (lawful_one_of filter_name filters same_filter ascii_filter)
    (lawful_field refl refl lawful_whole (lawful_field refl refl lawful_signed lawful_none)))

pub InOrder-members_of : (c : Command) → InOrder (members_of c)
InOrder-members_of (command.Initialize a) =
    InOrder-fields (lawful_fixed refl refl (omega arith) refl refl (IsUtf8-are_ascii _ refl)
    (lawful_field refl refl lawful_truth (lawful_field refl refl lawful_truth lawful_none))) _
InOrder-members_of (command.Launch a) =
    InOrder-fields (lawful_field refl refl lawful_text (lawful_field refl refl lawful_truth lawful_none)) _
InOrder-members_of (command.Cancel a) = InOrder-fields (lawful_optional refl refl lawful_signed lawful_none) _
InOrder-members_of (command.Disconnect a) = InOrder-fields disconnect (a.suspend_debuggee, (a.terminate_debuggee, tt))
InOrder-members_of (command.SetBreakpoints a) =
    InOrder-fields (lawful_field refl refl (lawful_list lawful_source_breakpoint) (lawful_field refl refl lawful_source lawful_none)) _
InOrder-members_of (command.SetFunctionBreakpoints a) =
    InOrder-fields (lawful_field refl refl (lawful_list lawful_function_breakpoint) lawful_none) _
InOrder-members_of (command.SetInstructionBreakpoints a) =
    InOrder-fields (lawful_field refl refl (lawful_list lawful_instruction_breakpoint) lawful_none) _
InOrder-members_of command.SetExceptionBreakpoints = record { ordered = refl; shallow = omega arith }
InOrder-members_of (command.Continue a) = InOrder-fields thread _
InOrder-members_of (command.Next a) = InOrder-fields step _
InOrder-members_of (command.StepIn a) = InOrder-fields step _
InOrder-members_of (command.StepOut a) = InOrder-fields step _
InOrder-members_of (command.StepBack a) = InOrder-fields step _
InOrder-members_of (command.ReverseContinue a) = InOrder-fields thread _
InOrder-members_of (command.Pause a) = InOrder-fields thread _
InOrder-members_of (command.StackTrace a) =
    InOrder-fields (lawful_optional refl refl lawful_whole (lawful_field refl refl lawful_whole thread)) _
InOrder-members_of (command.Scopes a) = InOrder-fields (lawful_field refl refl lawful_signed lawful_none) _
InOrder-members_of (command.Variables a) =
    InOrder-fields variables (a.count, (a.filter, (a.start, (a.variables_reference, tt))))
InOrder-members_of (command.SetVariable a) =
    InOrder-fields (lawful_field refl refl lawful_text
    (lawful_field refl refl lawful_text (lawful_field refl refl lawful_signed lawful_none))) _
InOrder-members_of (command.Evaluate a) =
    InOrder-fields (lawful_field refl refl lawful_text (lawful_optional refl refl lawful_signed lawful_none)) _
InOrder-members_of (command.Disassemble a) =
    InOrder-fields (lawful_field refl refl lawful_whole
    (lawful_field refl refl lawful_signed
    (lawful_field refl refl lawful_text (lawful_field refl refl lawful_signed lawful_none)))) _
InOrder-members_of (command.ReadMemory a) =
    InOrder-fields (lawful_field refl refl lawful_whole
    (lawful_field refl refl lawful_text (lawful_field refl refl lawful_signed lawful_none))) _
InOrder-members_of (command.WriteMemory a) =
    InOrder-fields (lawful_field refl refl lawful_truth
    (lawful_field refl refl lawful_encoded_bytes
    (lawful_field refl refl lawful_text (lawful_field refl refl lawful_signed lawful_none)))) _
InOrder-members_of _ = record { ordered = refl; shallow = omega arith }
