-- What is written for a request is read as that request.
use Rattle.std.proofs.Common.{[], ap, arith, Bool, cond, false, List, None, Ok, Option, option_map, refl, Result, Some, true, ℕ, ℤ, ◌∙◌, ◌∷◌, ◌≡◌, ◌≤◌}
use Rattle.std.proofs.lemmas.Bool.{and_parts}
use Rattle.std.specs.List.{list_all}
use Rattle.std.specs.Prelude.{codes, ok_or, if◌then◌else◌, ◌&&◌}
use Rattle.serde_json.specs.Data.{Data, depth, Members, member, no_members, members_depth, number, object, string, unsigned}
use Rattle.serde_json.specs.Read.{max_depth}
use Rattle.message_parts.proofs.EncodedBytes.{decoded_of-encode_of}
use Rattle.message_parts.proofs.Lawful.{lawful_signed}
use Rattle.message_parts.specs.EncodedBytes.{are_bytes}
use Rattle.message_parts.specs.Forms.{Form, is_in_if, is_signed_word, items_of, member_if, signed, text}
use Rattle.message_parts.specs.Order.{is_ordered}
use Rattle.protocol.specs.Arguments.{each}
use Rattle.protocol.specs.Commands.{command_of, execution_requests, inspection_requests, name_of}
use Rattle.protocol.specs.Cancel.{cancel_arguments}
use Rattle.protocol.specs.Disassemble.{disassemble_arguments}
use Rattle.protocol.specs.Disconnect.{disconnect_arguments}
use Rattle.protocol.specs.Evaluate.{evaluate_arguments}
use Rattle.protocol.specs.Json.{json_of}
use Rattle.protocol.specs.Properties.{integer}
use Rattle.protocol.specs.ReadMemory.{read_memory_arguments}
use Rattle.protocol.specs.Reading.{incoming_of, received, value_means}
use Rattle.protocol.specs.Scopes.{scopes_arguments}
use Rattle.protocol.specs.SetBreakpoints as lines
use Rattle.protocol.specs.SetFunctionBreakpoints as functions
use Rattle.protocol.specs.SetInstructionBreakpoints as instructions
use Rattle.protocol.specs.SetVariable.{set_variable_arguments}
use Rattle.protocol.specs.StackTrace.{stack_trace_arguments}
use Rattle.protocol.specs.StepArguments.{step_arguments}
use Rattle.protocol.specs.ThreadArguments.{thread_arguments}
use Rattle.protocol.specs.Variables.{variables_arguments}
use Rattle.protocol.specs.WriteMemory.{write_memory_arguments}
use Rattle.protocol.specs.declared.command.Command.{Command}
use Rattle.protocol.specs.declared.command.Command.TheVariants as command
use Rattle.protocol.specs.declared.filter.Filter.{Filter}
use Rattle.protocol.specs.declared.filter.Filter.TheVariants.{Indexed, Named}
use Rattle.protocol.specs.declared.granularity.Granularity.{Granularity}
use Rattle.protocol.specs.declared.granularity.Granularity.TheVariants.{Statement, Line, Instruction}
use Rattle.protocol.specs.declared.refusal.Refusal.{Refusal}
use Rattle.protocol.specs.declared.refusal.Refusal.TheVariants.{BadArguments}
use Rattle.protocol.specs.declared.request.Incoming.TheVariants.{Request}
use Rattle.protocol.specs.declared.set_breakpoints.Source.{Source}
use Rattle.protocol.specs.declared.set_breakpoints.SourceBreakpoint.{SourceBreakpoint}
use Rattle.protocol.specs.declared.set_function_breakpoints.FunctionBreakpoint.{FunctionBreakpoint}
use Rattle.protocol.specs.declared.set_instruction_breakpoints.InstructionBreakpoint.{InstructionBreakpoint}
use Rattle.requests.specs.Arguments.{has_arguments, members_of}
use Rattle.requests.specs.Arguments as arguments
use Rattle.requests.specs.Requests.{arguments_of, is_in_range, is_natural, request_data}
use Rattle.requests.proofs.Lawful.{InOrder-members_of}

-- ---- single arguments

signed_back : (z : ℤ) → is_signed_word z ≡ true → integer (signed.value z) ≡ Some z
signed_back z h = (lawful_signed {n = 0}).back z h

-- ---- lists

each_back : {A : Type 0} (value : A → Data) (meaning : Data → Option A) (is_in : A → Bool)
    → ((x : A) → is_in x ≡ true → meaning (value x) ≡ Some x) → (xs : List A) → list_all is_in xs ≡ true
    → each meaning (items_of value xs) ≡ Some xs
each_back value meaning is_in back [] h = refl
each_back value meaning is_in back (x ∷ xs) h =
    let p = and_parts _ _ h in rw (back x p.0, each_back value meaning is_in back xs p.1) refl

all_true : {A : Type 0} (xs : List A) → list_all (λ (x : A). true) xs ≡ true
all_true [] = refl
all_true (x ∷ xs) = all_true xs

source_back : (path : Option (List ℕ)) → lines.source_of (arguments.source.value (record { path = path })) ≡ Some (record { path = path })
source_back None = refl
source_back (Some path) = refl

line_back : (line : ℕ) (condition hits log : Option (List ℕ)) → is_natural line ≡ true
    → lines.source_breakpoint (arguments.source_breakpoint.value (record { line = line; condition = condition; hit_condition = hits; log_message = log }))
    ≡ Some (record { line = line; condition = condition; hit_condition = hits; log_message = log })
line_back line None None None h = rw h refl
line_back line None None (Some log) h = rw h refl
line_back line None (Some hits) None h = rw h refl
line_back line None (Some hits) (Some log) h = rw h refl
line_back line (Some condition) None None h = rw h refl
line_back line (Some condition) None (Some log) h = rw h refl
line_back line (Some condition) (Some hits) None h = rw h refl
line_back line (Some condition) (Some hits) (Some log) h = rw h refl

function_back : (name : List ℕ) (condition hits : Option (List ℕ))
    → functions.function_breakpoint (arguments.function_breakpoint.value (record { name = name; condition = condition; hit_condition = hits }))
    ≡ Some (record { name = name; condition = condition; hit_condition = hits })
function_back name None None = refl
function_back name None (Some hits) = refl
function_back name (Some condition) None = refl
function_back name (Some condition) (Some hits) = refl

instruction_back : (place : List ℕ) (offset : ℤ) (condition hits : Option (List ℕ)) → is_signed_word offset ≡ true
    → instructions.instruction_breakpoint (arguments.instruction_breakpoint.value (record { instruction_reference = place; offset = offset; condition = condition; hit_condition = hits }))
    ≡ Some (record { instruction_reference = place; offset = offset; condition = condition; hit_condition = hits })
instruction_back place offset None None h = rw (signed_back offset h) refl
instruction_back place offset None (Some hits) h = rw (signed_back offset h) refl
instruction_back place offset (Some condition) None h = rw (signed_back offset h) refl
instruction_back place offset (Some condition) (Some hits) h = rw (signed_back offset h) refl

-- ---- the arguments of each kind

step_back : (g : Granularity) (z : ℤ) → is_signed_word z ≡ true
    → step_arguments (arguments.step.members (g, (z, tt))) ≡ Some (record { granularity = g; thread_id = z })
step_back Statement z h = rw (signed_back z h) refl
step_back Line z h = rw (signed_back z h) refl
step_back Instruction z h = rw (signed_back z h) refl

thread_back : (z : ℤ) → is_signed_word z ≡ true → thread_arguments (arguments.thread.members (z, tt)) ≡ Some (record { thread_id = z })
thread_back z h = rw (signed_back z h) refl

cancel_back : (o : Option ℤ) → is_in_if is_signed_word o ≡ true
    → cancel_arguments (arguments.cancel.members (o, tt)) ≡ Some (record { request_id = o })
cancel_back None h = refl
cancel_back (Some z) h = rw (signed_back z h) refl

disconnect_back : (suspend terminate : Option Bool)
    → disconnect_arguments (arguments.disconnect.members (suspend, (terminate, tt)))
    ≡ Some (record { suspend_debuggee = suspend; terminate_debuggee = terminate })
disconnect_back None None = refl
disconnect_back None (Some b) = refl
disconnect_back (Some a) None = refl
disconnect_back (Some a) (Some b) = refl

lines_back : (bs : List SourceBreakpoint) (s : Source) → list_all (λ (b : SourceBreakpoint). is_natural b.line) bs ≡ true
    → lines.set_breakpoints_arguments (arguments.set_breakpoints.members (bs, (s, tt))) ≡ Some (record { source = s; breakpoints = bs })
lines_back bs s h =
    let entries = each_back arguments.source_breakpoint.value lines.source_breakpoint (λ b. is_natural b.line)
    (λ b n. line_back b.line b.condition b.hit_condition b.log_message n) bs h in
    rw (source_back s.path, entries) refl

functions_back : (bs : List FunctionBreakpoint)
    → functions.set_function_breakpoints_arguments (arguments.set_function_breakpoints.members (bs, tt)) ≡ Some (record { breakpoints = bs })
functions_back bs =
    let entries = each_back arguments.function_breakpoint.value functions.function_breakpoint (λ b. true)
    (λ b n. function_back b.name b.condition b.hit_condition) bs (all_true bs) in
    rw entries refl

instructions_back : (bs : List InstructionBreakpoint) → list_all (λ (b : InstructionBreakpoint). is_signed_word b.offset) bs ≡ true
    → instructions.set_instruction_breakpoints_arguments (arguments.set_instruction_breakpoints.members (bs, tt))
    ≡ Some (record { breakpoints = bs })
instructions_back bs h =
    let entries = each_back arguments.instruction_breakpoint.value instructions.instruction_breakpoint (λ b. is_signed_word b.offset)
    (λ b n. instruction_back b.instruction_reference b.offset b.condition b.hit_condition n) bs h in
    rw entries refl

stack_back : (levels : Option ℕ) (start : ℕ) (z : ℤ) → is_in_if is_natural levels && (is_natural start && is_signed_word z) ≡ true
    → stack_trace_arguments (arguments.stack_trace.members (levels, (start, (z, tt))))
    ≡ Some (record { thread_id = z; start_frame = start; levels = levels })
stack_back None start z h = let p = and_parts (is_natural start) (is_signed_word z) h in rw (p.0, signed_back z p.1) refl
stack_back (Some n) start z h =
    let p = and_parts (is_natural n) (is_natural start && is_signed_word z) h in
    let q = and_parts (is_natural start) (is_signed_word z) p.1 in rw (p.0, q.0, signed_back z q.1) refl

variables_back : (count : Option ℕ) (filter : Option Filter) (start : ℕ) (z : ℤ)
    → is_in_if is_natural count && (is_natural start && is_signed_word z) ≡ true
    → variables_arguments (arguments.variables.members (count, (filter, (start, (z, tt)))))
    ≡ Some (record { variables_reference = z; filter = filter; start = start; count = count })
variables_back None None start z h = let p = and_parts (is_natural start) (is_signed_word z) h in rw (p.0, signed_back z p.1) refl
variables_back None (Some Indexed) start z h = let p = and_parts (is_natural start) (is_signed_word z) h in rw (p.0, signed_back z p.1) refl
variables_back None (Some Named) start z h = let p = and_parts (is_natural start) (is_signed_word z) h in rw (p.0, signed_back z p.1) refl
variables_back (Some n) filter start z h =
    let p = and_parts (is_natural n) (is_natural start && is_signed_word z) h in
    let q = and_parts (is_natural start) (is_signed_word z) p.1 in counted filter p.0 q.0 q.1 where
      counted : (filter : Option Filter) → is_natural n ≡ true → is_natural start ≡ true → is_signed_word z ≡ true
          → variables_arguments (arguments.variables.members (Some n, (filter, (start, (z, tt)))))
          ≡ Some (record { variables_reference = z; filter = filter; start = start; count = Some n })
      counted None a b c = rw (a, b, signed_back z c) refl
      counted (Some Indexed) a b c = rw (a, b, signed_back z c) refl
      counted (Some Named) a b c = rw (a, b, signed_back z c) refl

set_variable_back : (name value : List ℕ) (z : ℤ) → is_signed_word z ≡ true
    → set_variable_arguments (arguments.set_variable.members (name, (value, (z, tt))))
    ≡ Some (record { variables_reference = z; name = name; value = value })
set_variable_back name value z h = rw (signed_back z h) refl

scopes_back : (z : ℤ) → is_signed_word z ≡ true → scopes_arguments (arguments.scopes.members (z, tt)) ≡ Some (record { frame_id = z })
scopes_back z h = rw (signed_back z h) refl

evaluate_back : (expression : List ℕ) (frame : Option ℤ) → is_in_if is_signed_word frame ≡ true
    → evaluate_arguments (arguments.evaluate.members (expression, (frame, tt))) ≡ Some (record { expression = expression; frame_id = frame })
evaluate_back expression None h = refl
evaluate_back expression (Some z) h = rw (signed_back z h) refl

disassemble_back : (count : ℕ) (more : ℤ) (place : List ℕ) (offset : ℤ)
    → is_natural count && (is_signed_word more && is_signed_word offset) ≡ true
    → disassemble_arguments (arguments.disassemble.members (count, (more, (place, (offset, tt)))))
    ≡ Some (record { memory_reference = place; offset = offset; instruction_offset = more; instruction_count = count })
disassemble_back count more place offset h =
    let p = and_parts (is_natural count) (is_signed_word more && is_signed_word offset) h in
    let q = and_parts (is_signed_word more) (is_signed_word offset) p.1 in rw (p.0, signed_back more q.0, signed_back offset q.1) refl

read_memory_back : (count : ℕ) (place : List ℕ) (offset : ℤ) → is_natural count && is_signed_word offset ≡ true
    → read_memory_arguments (arguments.read_memory.members (count, (place, (offset, tt))))
    ≡ Some (record { memory_reference = place; offset = offset; count = count })
read_memory_back count place offset h =
    let p = and_parts (is_natural count) (is_signed_word offset) h in rw (p.0, signed_back offset p.1) refl

write_memory_back : (partial : Bool) (bytes place : List ℕ) (offset : ℤ) → are_bytes bytes && is_signed_word offset ≡ true
    → write_memory_arguments (arguments.write_memory.members (partial, (bytes, (place, (offset, tt)))))
    ≡ Some (record { memory_reference = place; offset = offset; bytes = bytes; allow_partial = partial })
write_memory_back partial bytes place offset h =
    let p = and_parts (are_bytes bytes) (is_signed_word offset) h in rw (signed_back offset p.1, decoded_of-encode_of bytes p.0) refl

-- ---- each command

-- a command of these arguments, or bad ones
abbrev of : {A : Type 0} → (A → Command) → Option A → Result Command Refusal
of make o = ok_or (option_map make o) BadArguments

-- what is written for a command's arguments is read as that command
arguments_back : (c : Command) → is_in_range c ≡ true → command_of (name_of c) (option_map (λ ms. object ms) (arguments_of c)) ≡ Ok c
unfolding execution_requests inspection_requests
arguments_back (command.Initialize a) h = refl
arguments_back (command.Launch a) h = refl
arguments_back (command.Cancel a) h = ap (of (λ x. command.Cancel x)) (cancel_back a.request_id h)
arguments_back (command.Disconnect a) h =
    ap (of (λ x. command.Disconnect x)) (disconnect_back a.suspend_debuggee a.terminate_debuggee)
arguments_back (command.SetBreakpoints a) h = ap (of (λ x. command.SetBreakpoints x)) (lines_back a.breakpoints a.source h)
arguments_back (command.SetFunctionBreakpoints a) h = ap (of (λ x. command.SetFunctionBreakpoints x)) (functions_back a.breakpoints)
arguments_back (command.SetInstructionBreakpoints a) h =
    ap (of (λ x. command.SetInstructionBreakpoints x)) (instructions_back a.breakpoints h)
arguments_back (command.Continue a) h = ap (of (λ x. command.Continue x)) (thread_back a.thread_id h)
arguments_back (command.Next a) h = ap (of (λ x. command.Next x)) (step_back a.granularity a.thread_id h)
arguments_back (command.StepIn a) h = ap (of (λ x. command.StepIn x)) (step_back a.granularity a.thread_id h)
arguments_back (command.StepOut a) h = ap (of (λ x. command.StepOut x)) (step_back a.granularity a.thread_id h)
arguments_back (command.StepBack a) h = ap (of (λ x. command.StepBack x)) (step_back a.granularity a.thread_id h)
arguments_back (command.ReverseContinue a) h = ap (of (λ x. command.ReverseContinue x)) (thread_back a.thread_id h)
arguments_back (command.Pause a) h = ap (of (λ x. command.Pause x)) (thread_back a.thread_id h)
arguments_back (command.StackTrace a) h = ap (of (λ x. command.StackTrace x)) (stack_back a.levels a.start_frame a.thread_id h)
arguments_back (command.Scopes a) h = ap (of (λ x. command.Scopes x)) (scopes_back a.frame_id h)
arguments_back (command.Variables a) h =
    ap (of (λ x. command.Variables x)) (variables_back a.count a.filter a.start a.variables_reference h)
arguments_back (command.SetVariable a) h = ap (of (λ x. command.SetVariable x)) (set_variable_back a.name a.value a.variables_reference h)
arguments_back (command.Evaluate a) h = ap (of (λ x. command.Evaluate x)) (evaluate_back a.expression a.frame_id h)
arguments_back (command.Disassemble a) h =
    ap (of (λ x. command.Disassemble x)) (disassemble_back a.instruction_count a.instruction_offset a.memory_reference a.offset h)
arguments_back (command.ReadMemory a) h = ap (of (λ x. command.ReadMemory x)) (read_memory_back a.count a.memory_reference a.offset h)
arguments_back (command.WriteMemory a) h =
    ap (of (λ x. command.WriteMemory x)) (write_memory_back a.allow_partial a.bytes a.memory_reference a.offset h)
arguments_back _ h = refl

-- ---- a whole request

-- the number, the name and the arguments are found again
found : (seq : ℕ) (name : List ℕ) (o : Option Members) → is_natural seq ≡ true
    → value_means (object (member_if (codes "arguments") (λ ms. object ms) o
    (member (codes "command") (string name)
    (member (codes "seq") (number (unsigned seq))
    (member (codes "type") (string (codes "request")) no_members)))))
    ≡ Ok (received seq name (command_of name (option_map (λ ms. object ms) o)))
found seq name None h = rw h refl
found seq name (Some ms) h = rw h refl

-- a text with the value of a request is read as that request
pub incoming_of-request_data : (text : List ℕ) (seq : ℕ) (c : Command) → is_natural seq ≡ true → is_in_range c ≡ true
    → json_of text ≡ Some (request_data seq c) → incoming_of text ≡ Ok (Request (record { seq = seq; command = c }))
unfolding incoming_of
incoming_of-request_data text seq c small in_range is =
    rw is (found seq (name_of c) (arguments_of c) small ∙ ap (λ r. Ok (received seq (name_of c) r)) (arguments_back c in_range))

-- ---- its value as JSON

if_ordered : (seq : ℕ) (b : Bool) (c : Command)
    → is_ordered (object (member_if (codes "arguments") (λ ms. object ms) (if b then Some (members_of c) else None)
    (member (codes "command") (string (name_of c))
    (member (codes "seq") (number (unsigned seq))
    (member (codes "type") (string (codes "request")) no_members))))) ≡ true
if_ordered seq true c = rw (InOrder-members_of c).ordered refl
if_ordered seq false c = refl

pub is_ordered-request_data : (seq : ℕ) (c : Command) → is_ordered (request_data seq c) ≡ true
is_ordered-request_data seq c = if_ordered seq (has_arguments c) c

if_shallow : (seq : ℕ) (b : Bool) (c : Command)
    → depth (object (member_if (codes "arguments") (λ ms. object ms) (if b then Some (members_of c) else None)
    (member (codes "command") (string (name_of c))
    (member (codes "seq") (number (unsigned seq))
    (member (codes "type") (string (codes "request")) no_members))))) ≤ max_depth
if_shallow seq true c = let most = (InOrder-members_of c).shallow in omega (arith, most)
if_shallow seq false c = omega arith

pub depth-request_data : (seq : ℕ) (c : Command) → depth (request_data seq c) ≤ max_depth
depth-request_data seq c = if_shallow seq (has_arguments c) c
