-- The text of a message is no longer than is said of its kind.
--
-- What a value is written in computes: the names of members, and numbers of twenty digits. So each entry of a list, each body
-- and each event is compared as it stands, but for texts and lists.
use Rattle.text_laws.proofs.Common.{[], and_parts, are_bytes, arith, codes, Data, false, Form, is_in_if, is_word, items_of, length, List, member, member_if, most_bytes, most_of_body, most_of_event, most_of_frame, most_of_instruction, most_of_instruction_breakpoint, most_of_outcome, most_of_source, most_of_source_breakpoint, most_of_variable, nat_le, no_members, None, number, object, Option, put, refl, Some, string, subst, sym, TextsAreBounded, true, unsigned, whole, written_length, written_length_if, ℕ, ◌&&◌, ◌*◌, ◌+◌, ◌<◌, ◌^◌, ◌∷◌, ◌≡◌, ◌≤◌}
use Rattle.std.proofs.Common.{IfSome, leb-true}
use Rattle.std.proofs.lemmas.List.Sums.{sum_by-le}
use Rattle.json.specs.Print.{escape_byte}
use Rattle.message_parts.specs.Addresses.{address_text}
use Rattle.message_parts.specs.Disassemble as disassembly
use Rattle.message_parts.specs.InstructionBytes.{bytes_text}
use Rattle.message_parts.specs.Output.{category_name}
use Rattle.message_parts.specs.ReadMemory.{unless_0}
use Rattle.message_parts.specs.Scopes.{scope}
use Rattle.message_parts.specs.SetBreakpoints.{source_breakpoint}
use Rattle.message_parts.specs.SetInstructionBreakpoints.{instruction_breakpoint}
use Rattle.message_parts.specs.StackTrace.{source, stack_frame}
use Rattle.message_parts.specs.Stopped.{reason_name, stopped}
use Rattle.message_parts.specs.Variables.{variable}
use Rattle.message_parts.specs.Written.{HasSmallNumbers}
use Rattle.message_parts.specs.declared.disassemble.Instruction.{Instruction}
use Rattle.message_parts.specs.declared.disassemble.Instruction.TheVariants as entry
use Rattle.message_parts.specs.declared.output.Category.{Category}
use Rattle.message_parts.specs.declared.output.Category.TheVariants.{Console, Stdout}
use Rattle.message_parts.specs.declared.scopes.Scope.{Scope}
use Rattle.message_parts.specs.declared.scopes.Scope.TheVariants as group
use Rattle.message_parts.specs.declared.set_breakpoints.SourceBreakpoint.{SourceBreakpoint}
use Rattle.message_parts.specs.declared.set_breakpoints.SourceBreakpoint.TheVariants as at_line
use Rattle.message_parts.specs.declared.set_instruction_breakpoints.InstructionBreakpoint.{InstructionBreakpoint}
use Rattle.message_parts.specs.declared.set_instruction_breakpoints.InstructionBreakpoint.TheVariants as at_instruction
use Rattle.message_parts.specs.declared.stack_trace.Source.{Source}
use Rattle.message_parts.specs.declared.stack_trace.StackFrame.{StackFrame}
use Rattle.message_parts.specs.declared.stopped.Reason.{Reason}
use Rattle.message_parts.specs.declared.stopped.Reason.TheVariants as why
use Rattle.message_parts.specs.declared.variables.Variable.{Variable}
use Rattle.message_parts.proofs.Simple.{IsPlain-is_simple}
use Rattle.message_parts.proofs.Texts.{HasSmallNumbers-IsPlain}
use Rattle.protocol.specs.Refusals.{id_of, name_of}
use Rattle.protocol.specs.declared.refusal.Refusal.{Refusal}
use Rattle.replies.specs.Bodies.{Row, body_data, has_numbers}
use Rattle.replies.specs.Events.{IsProperEvent, event_body, event_members, event_name}
use Rattle.replies.specs.Messages.{IsNumber, IsProper, message_data}
use Rattle.replies.specs.Responses.{IsOutcomeOf, format_of, outcome_data, shared_members}
use Rattle.replies.specs.declared.event.Event.{Event}
use Rattle.replies.specs.declared.event.Event.TheVariants as event
use Rattle.replies.specs.declared.message.Message.{Message}
use Rattle.replies.specs.declared.message.Message.TheVariants as message
use Rattle.replies.specs.declared.response.Outcome.{Outcome}
use Rattle.replies.specs.declared.response.Outcome.TheVariants.{Done, Refused}
use Rattle.replies.specs.declared.response.ResponseBody.{ResponseBody}
use Rattle.replies.specs.declared.response.ResponseBody.TheVariants as kind
use Rattle.replies.proofs.ByBody.{by_body}
use Rattle.replies.proofs.HasForm.{HasForm, IsAlways}
use Rattle.replies.proofs.LawfulEvents.{lawful_exited, lawful_output, lawful_stopped}
use Rattle.replies.proofs.Refusals.{of_each, small-id_of}
use Rattle.text_laws.proofs.Encoded.{encoded_fits}
use Rattle.text_laws.proofs.Sizes.{items_size, items_size-items_of, length-compact_text, members_size, size, texts_are_escaped}

-- ---- the entries of lists, each with its comma

source_fits : (found : Option Source) → members_size (member_if (codes "source") source.value found no_members) ≤ 200 + most_of_source found
unfolding escape_byte
source_fits None = omega arith
source_fits (Some s) = omega arith

frame_fits : (f : StackFrame) → 1 + size (stack_frame.value f) ≤ most_of_frame f
unfolding escape_byte
frame_fits f = omega (arith, texts_are_escaped (address_text f.instruction_pointer_reference), source_fits f.source)

line_fits : (b : SourceBreakpoint) → 1 + size (source_breakpoint.value b) ≤ most_of_source_breakpoint b
unfolding escape_byte
line_fits (at_line.Verified id address line) = omega (arith, texts_are_escaped (address_text address))
line_fits (at_line.Unverified line message) = omega arith

address_fits : (b : InstructionBreakpoint) → 1 + size (instruction_breakpoint.value b) ≤ most_of_instruction_breakpoint b
unfolding escape_byte
address_fits (at_instruction.Verified id address) = omega (arith, texts_are_escaped (address_text address))
address_fits (at_instruction.Unverified message) = omega arith

scope_fits : (s : Scope) → 1 + size (scope.value s) ≤ 1000
unfolding escape_byte
scope_fits (group.Registers reference) = omega arith
scope_fits (group.Stack reference) = omega arith

variable_fits : (v : Variable) → 1 + size (variable.value v) ≤ most_of_variable v
unfolding escape_byte
variable_fits v = omega (arith, texts_are_escaped (address_text v.value))

instruction_fits : (i : Instruction) → 1 + size (disassembly.instruction.value i) ≤ most_of_instruction i
unfolding escape_byte
instruction_fits (entry.Valid address instruction word) =
    omega (arith, texts_are_escaped (address_text address), texts_are_escaped (bytes_text word))
instruction_fits (entry.Invalid address) = omega (arith, texts_are_escaped (address_text address))

-- as many bytes for each entry
even : {A : Type 0} (value : A → Data) (each : ℕ) → ((x : A) → 1 + size (value x) ≤ each) → (xs : List A)
    → items_size (items_of value xs) ≤ length xs * each
even {A} value each fits xs =
    let sum = items_size-items_of value (λ (x : A). each) fits xs in
    let all = sum_by-le (λ (x : A). each) each xs (λ k d below. omega arith) in omega (arith, sum, all)

-- ---- responses

missing_fits : (found : Option ℕ) → members_size (member_if (codes "unreadableBytes") whole.value found no_members) ≤ 100
unfolding escape_byte
missing_fits None = omega arith
missing_fits (Some n) = omega arith

body_fits : (body : ResponseBody) → has_numbers body ≡ true → IfSome (body_data body) (λ d. size d ≤ most_of_body body)
unfolding escape_byte
body_fits (kind.SetBreakpoints b) h =
    omega (arith, items_size-items_of source_breakpoint.value most_of_source_breakpoint line_fits b.breakpoints)
body_fits (kind.SetFunctionBreakpoints b) h =
    omega (arith, items_size-items_of instruction_breakpoint.value most_of_instruction_breakpoint address_fits b.breakpoints)
body_fits (kind.SetInstructionBreakpoints b) h =
    omega (arith, items_size-items_of instruction_breakpoint.value most_of_instruction_breakpoint address_fits b.breakpoints)
body_fits (kind.StackTrace b) h = omega (arith, items_size-items_of stack_frame.value most_of_frame frame_fits b.stack_frames)
body_fits (kind.Scopes b) h = omega (arith, even scope.value 1000 scope_fits b.scopes)
body_fits (kind.Variables b) h = omega (arith, items_size-items_of variable.value most_of_variable variable_fits b.variables)
body_fits (kind.SetVariable b) h = omega (arith, texts_are_escaped (address_text b.value))
body_fits (kind.Evaluate b) h = omega (arith, texts_are_escaped (address_text b.result))
body_fits (kind.Disassemble b) h =
    omega (arith, items_size-items_of disassembly.instruction.value most_of_instruction instruction_fits b.instructions)
body_fits (kind.ReadMemory b) h =
    let address = and_parts (is_word b.address) (are_bytes b.bytes && (is_in_if is_word (unless_0 b.unreadable_bytes) && true)) h in
    let bytes = and_parts (are_bytes b.bytes) (is_in_if is_word (unless_0 b.unreadable_bytes) && true) address.1 in
    omega (
      arith,
      texts_are_escaped (address_text b.address),
      encoded_fits b.bytes bytes.0,
      missing_fits (unless_0 b.unreadable_bytes),
    )
body_fits kind.Empty h = tt
body_fits _ h = omega arith

abbrev HasSmallValue : Row → Type 0
HasSmallValue r = r.has_numbers ≡ true → IfSome r.value HasSmallNumbers

abbrev HasSmallBody : ResponseBody → Type 0
HasSmallBody body = has_numbers body ≡ true → IfSome (body_data body) HasSmallNumbers

small_always : {command : List ℕ} {value : Data} (body : ResponseBody) → IsAlways command value body → HasSmallBody body
small_always {value = value} body h =
    subst HasSmallValue (sym h.is_row) (λ numbers. HasSmallNumbers-IsPlain value (IsPlain-is_simple value h.simple))

small_in_form : {n : ℕ} {command : List ℕ} {A : Type 0} {form : Form A} {make : A → ResponseBody} → HasForm n command form make → (x : A)
    → HasSmallBody (make x)
small_in_form h x = subst HasSmallValue (sym (h.is_row x)) (λ numbers. h.lawful.small x numbers)

small_body : (body : ResponseBody) → HasSmallBody body
small_body body = by_body HasSmallBody (record { always = small_always; in_form = small_in_form; empty = λ numbers. tt }) body

-- a value with small numbers that is written in at most this many bytes
abbrev Fits : ℕ → Data → Type 0
Fits most d = HasSmallNumbers d × (size d ≤ most)

done_fits : (seq request_seq : ℕ) (command : List ℕ) (body : Option Data) (n : ℕ) → IfSome body HasSmallNumbers
    → IfSome body (λ d. size d ≤ n) → seq < 2 ^ 31 → request_seq < 2 ^ 32
    → Fits (1000 + written_length command + n)
    (object (member_if (codes "body") (λ d. d) body (shared_members seq request_seq command true)))
unfolding escape_byte
done_fits seq request_seq command None n small h i j = omega arith
done_fits seq request_seq command (Some d) n small h i j = ((small, omega arith), omega (arith, h))

refused_fits : (seq request_seq id : ℕ) (command format name : List ℕ) → id < 2 ^ 64 → seq < 2 ^ 31 → request_seq < 2 ^ 32
    → Fits (500 + written_length command + written_length format + written_length name)
    (object (put (codes "body")
    (object (member (codes "error")
    (object (member (codes "format") (string format) (member (codes "id") (number (unsigned id)) no_members))) no_members))
    (put (codes "message") (string name) (shared_members seq request_seq command false))))
unfolding escape_byte
refused_fits seq request_seq id command format name h i j = omega arith

name_fits : (refusal : Refusal) → written_length (name_of refusal) ≤ 242
name_fits refusal =
    let few = leb-true (length (name_of refusal)) 40 (of_each (λ r. nat_le (length (name_of r)) 40) refl refusal) in
    omega (arith, few, texts_are_escaped (name_of refusal))

format_fits : (refusal : Refusal) (text : Option (List ℕ)) → written_length (format_of refusal text) ≤ 242 + written_length_if text
format_fits refusal None = name_fits refusal
format_fits refusal (Some text) = omega arith

outcome_fits : (seq request_seq : ℕ) (command : List ℕ) (outcome : Outcome) → IsOutcomeOf command outcome → seq < 2 ^ 31
    → request_seq < 2 ^ 32 → Fits (1000 + written_length command + most_of_outcome outcome) (outcome_data seq request_seq command outcome)
outcome_fits seq request_seq command (Done body) proper h i =
    done_fits seq request_seq command (body_data body) (most_of_body body) (small_body body proper.1) (body_fits body proper.1) h i
outcome_fits seq request_seq command (Refused refusal text) proper h i =
    let fits = refused_fits seq request_seq (id_of refusal) command (format_of refusal text) (name_of refusal) (small-id_of refusal) h i in
    (fits.0, omega (arith, fits.1, name_fits refusal, format_fits refusal text))

-- ---- events

reason_fits : (r : Reason) → written_length (reason_name r) ≤ 134
unfolding escape_byte
reason_fits why.Entry = omega arith
reason_fits _ = omega arith

stopped_fits : (ids : List ℕ) (reason : Reason) (text : Option (List ℕ))
    → size (stopped.value (record { hit_breakpoint_ids = ids; reason = reason; text = text }))
    ≤ 1000 + 21 * length ids + written_length_if text
unfolding escape_byte
stopped_fits [] reason None = omega (arith, reason_fits reason)
stopped_fits [] reason (Some text) = omega (arith, reason_fits reason)
stopped_fits (id ∷ ids) reason None = omega (arith, reason_fits reason, even whole.value 21 (λ n. omega arith) ids)
stopped_fits (id ∷ ids) reason (Some text) = omega (arith, reason_fits reason, even whole.value 21 (λ n. omega arith) ids)

category_fits : (c : Category) → written_length (category_name c) ≤ 44
unfolding escape_byte
category_fits Console = omega arith
category_fits Stdout = omega arith

event_fits : (event : Event) → IsProperEvent event → IfSome (event_body event) (Fits (most_of_event event))
unfolding escape_byte
event_fits event.Initialized h = tt
event_fits (event.Stopped body) h = (lawful_stopped.small body h, stopped_fits body.hit_breakpoint_ids body.reason body.text)
event_fits event.Continued h = omega arith
event_fits (event.Output body) h = (lawful_output.small body h, omega (arith, category_fits body.category))
event_fits (event.Exited body) h = (lawful_exited.small body h, omega arith)
event_fits event.Terminated h = tt

event_name_fits : (event : Event) → written_length (event_name event) ≤ 68
unfolding escape_byte
event_name_fits event.Initialized = omega arith
event_name_fits _ = omega arith

with_body_fits : (seq : ℕ) (name : List ℕ) (body : Option Data) (n : ℕ) → IfSome body (Fits n) → seq < 2 ^ 31
    → Fits (500 + written_length name + n) (object (member_if (codes "body") (λ d. d) body (event_members seq name)))
unfolding escape_byte
with_body_fits seq name None n h i = omega arith
with_body_fits seq name (Some d) n h i = ((h.0, omega arith), omega (arith, h.1))

-- ---- messages

message_fits : (seq : ℕ) (m : Message) → IsNumber seq → IsProper m → Fits (most_bytes m) (message_data seq m)
message_fits seq (message.Response r) h proper = outcome_fits seq r.request_seq r.command r.outcome proper.1 h.1 proper.0
message_fits seq (message.Event e) h proper =
    let fits = with_body_fits seq (event_name e) (event_body e) (most_of_event e) (event_fits e proper) h.1 in
    (fits.0, omega (arith, fits.1, event_name_fits e))

pub texts_are_bounded : TextsAreBounded
texts_are_bounded seq m h proper =
    let fits = message_fits seq m h proper in omega (arith, length-compact_text (message_data seq m) fits.0, fits.1)
