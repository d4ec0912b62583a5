-- The texts of a request are in its body.
use Rattle.text_laws.proofs.Common.{[], All, All-cons, All-nil, ap, arith, bytes_eq, Data, Err, IfSome, IsTextWithin, item, Items, length, length-map, List, map, Members, no_items, None, Ok, ok_or, Option, option_and_then, option_map, refl, Result, Some, subst, suc, unwrap_or, ℕ, ⊤, ◌||◌, ◌∷◌, ◌≡◌, ◌≤◌}
use Rattle.std.proofs.lemmas.Option.{IfSome_then}
use Rattle.serde_json.specs.Find.{as_array, as_bool, as_object, as_str}
use Rattle.protocol.specs.Arguments.{arguments_members, each, list, optional, required}
use Rattle.protocol.specs.Commands.{command_of, execution_requests}
use Rattle.protocol.specs.Json.{json_of}
use Rattle.protocol.specs.Launch.{launch_arguments}
use Rattle.protocol.specs.Properties.{natural, property, sequence_number, text}
use Rattle.protocol.specs.Reading.{◌>>=◌, incoming_of, message_of, received, request_of, typed_message_of}
use Rattle.protocol.specs.SetBreakpoints.{asked, at_line, by_lines, or_by_lines, set_breakpoints_arguments, source_breakpoint, source_of}
use Rattle.protocol.specs.SetFunctionBreakpoints.{function_breakpoint, set_function_breakpoints_arguments}
use Rattle.protocol.specs.SetInstructionBreakpoints.{instruction_breakpoint, set_instruction_breakpoints_arguments}
use Rattle.protocol.specs.declared.command.Command.{Command}
use Rattle.protocol.specs.declared.command.Command.TheVariants.{Launch, SetBreakpoints, SetFunctionBreakpoints, SetInstructionBreakpoints}
use Rattle.protocol.specs.declared.launch.TheConstants.{PROGRAM, STOP_ON_ENTRY}
use Rattle.protocol.specs.declared.members.TheConstants.{ARGUMENTS, BREAKPOINTS, COMMAND, CONDITION, EVENT, HIT_CONDITION, REQUEST, RESPONSE, SEQ, TYPE}
use Rattle.protocol.specs.declared.refusal.Refusal.{Refusal}
use Rattle.protocol.specs.declared.refusal.Refusal.TheVariants.{BadArguments}
use Rattle.protocol.specs.declared.request.Incoming.{Incoming}
use Rattle.protocol.specs.declared.request.Incoming.TheVariants.{Ignored}
use Rattle.protocol.specs.declared.request.MessageError.{MessageError}
use Rattle.protocol.specs.declared.request.MessageError.TheVariants.{BadSeq, NotAMessage, NotJson}
use Rattle.protocol.specs.declared.set_breakpoints.SourceBreakpoint.{SourceBreakpoint}
use Rattle.protocol.specs.declared.set_breakpoints.TheConstants.{LINE, LINES, LOG_MESSAGE, SOURCE}
use Rattle.protocol.proofs.Requests.{read_by_its_name}
use Rattle.text_laws.specs.Requests.{AsksWithin, MeansWithin, RequestsHaveTexts, WritesWithin}
use Rattle.text_laws.proofs.Tokens.{either}
use Rattle.text_laws.proofs.Values.{AreItemsWithin, AreMembersWithin, IsWithin, as_array_within, as_object_within, as_str_within, count, json_within, map_holds, property_within, then_any, then_holds}

-- ---- arguments

-- an argument that has to be there
required_within : {A : Type 0} (most : ℕ) (P : A → Type 0) (meaning : Data → Option A) (name : List ℕ) (members : Members)
    → ((d : Data) → IsWithin most d → IfSome (meaning d) P) → AreMembersWithin most members
    → IfSome (required meaning (property name members)) P
required_within most P meaning name members on h =
    then_holds (IsWithin most) P (property name members) meaning (property_within most name members h) on

-- one that may be absent
optional_within : {A : Type 0} (most : ℕ) (P : A → Type 0) (meaning : Data → Option A) (name : List ℕ) (members : Members)
    → ((d : Data) → IsWithin most d → IfSome (meaning d) P) → AreMembersWithin most members
    → IfSome (optional meaning (property name members)) (λ found. IfSome found P)
optional_within {A} most P meaning name members on h = by (property name members) (property_within most name members h) where
  by : (value : Option Data) → IfSome value (IsWithin most) → IfSome (optional meaning value) (λ found. IfSome found P)
  by None within = tt
  by (Some d) within = map_holds P (λ found. IfSome found P) (λ a. Some a) (meaning d) (λ a held. held) (on d within)

-- a list has an entry for each item, and what holds of what each item means holds of each entry
each_within : {A : Type 0} (most : ℕ) (P : A → Type 0) (meaning : Data → Option A)
    → ((d : Data) → IsWithin most d → IfSome (meaning d) P) → (ds : Items) → AreItemsWithin most ds
    → IfSome (each meaning ds) (λ found. (length found ≡ count ds) × All P found)
each_within most P meaning on no_items h = (refl, All-nil P)
each_within most P meaning on (item d ds) h =
    then_holds P _ (meaning d) _ (on d h.0) (λ first p.
    then_holds _ _ (each meaning ds) _ (each_within most P meaning on ds h.1)
    (λ others q. (ap suc q.0, All-cons P first others p q.1)))

-- at most this many entries, and each is so
abbrev AreEntries : {A : Type 0} → ℕ → (A → Type 0) → List A → Type 0
AreEntries most P found = (length found ≤ most) × All P found

entries_within : {A : Type 0} (most : ℕ) (P : A → Type 0) (meaning : Data → Option A)
    → ((d : Data) → IsWithin most d → IfSome (meaning d) P) → (d : Data) → IsWithin most d → IfSome (list meaning d) (AreEntries most P)
entries_within most P meaning on d h =
    then_holds (λ ds. (count ds ≤ most) × AreItemsWithin most ds) (AreEntries most P) (as_array d) (each meaning)
    (as_array_within most d h) (λ ds held.
    IfSome_then (each meaning ds) (each_within most P meaning on ds held.1) (λ found e. (omega (arith, e.0, held.0), e.1)))

list_within : {A : Type 0} (most : ℕ) (meaning : Data → Option A) (d : Data) → IsWithin most d
    → IfSome (list meaning d) (λ found. length found ≤ most)
list_within {A} most meaning d h =
    IfSome_then (list meaning d) (entries_within most (λ (a : A). ⊤) meaning (λ one _. any (meaning one)) d h) (λ found e. e.0) where
      any : (found : Option A) → IfSome found (λ (a : A). ⊤)
      any None = tt
      any (Some a) = tt

-- ---- requests

launch_within : (most : ℕ) (members : Members) → AreMembersWithin most members
    → IfSome (launch_arguments members) (λ a. IsTextWithin most a.program)
launch_within most members h =
    then_holds (IsTextWithin most) (λ a. IsTextWithin most a.program) (required as_str (property PROGRAM.now members)) _
    (required_within most (IsTextWithin most) as_str PROGRAM.now members (as_str_within most) h) (λ program within.
    then_any (λ a. IsTextWithin most a.program) (optional as_bool (property STOP_ON_ENTRY.now members)) _ (λ stop. within))

-- what a breakpoint of a source writes is a text
source_breakpoint_within : (most : ℕ) (d : Data) → IsWithin most d → IfSome (source_breakpoint d) (WritesWithin most)
source_breakpoint_within most d h =
    then_holds (AreMembersWithin most) (WritesWithin most) (as_object d) _ (as_object_within most d h) (λ members within.
    then_any (WritesWithin most) (required natural (property LINE.now members)) _ (λ line.
    then_any (WritesWithin most) (optional as_str (property CONDITION.now members)) _ (λ condition.
    then_any (WritesWithin most) (optional as_str (property HIT_CONDITION.now members)) _ (λ hits.
    then_holds (λ found. IfSome found (IsTextWithin most)) (WritesWithin most)
    (optional as_str (property LOG_MESSAGE.now members)) _
    (optional_within most (IsTextWithin most) as_str LOG_MESSAGE.now members (as_str_within most) within) (λ log held. held)))))

-- at most this many breakpoints of a source, each of them writing such a text
abbrev AreSourceWithin : ℕ → List SourceBreakpoint → Type 0
AreSourceWithin most breakpoints = AreEntries most (WritesWithin most) breakpoints

write_nothing : (most : ℕ) (lines : List ℕ) → All (WritesWithin most) (map at_line lines)
write_nothing most [] = All-nil (WritesWithin most)
write_nothing most (line ∷ lines) = All-cons (WritesWithin most) (at_line line) (map at_line lines) tt (write_nothing most lines)

by_lines_within : (most : ℕ) (members : Members) → AreMembersWithin most members → IfSome (by_lines members) (AreSourceWithin most)
by_lines_within most members h =
    then_holds (λ found. IfSome found (λ lines. length lines ≤ most)) (AreSourceWithin most)
    (optional (list natural) (property LINES.now members)) _
    (optional_within most (λ lines. length lines ≤ most) (list natural) LINES.now members (list_within most natural) h) by
  where
    by : (lines : Option (List ℕ)) → IfSome lines (λ found. length found ≤ most) → AreSourceWithin most (map at_line (unwrap_or lines []))
    by None few = (omega arith, write_nothing most [])
    by (Some lines) few = (omega (arith, length-map lines at_line), write_nothing most lines)

asked_within : (most : ℕ) (members : Members) → AreMembersWithin most members → IfSome (asked members) (AreSourceWithin most)
asked_within most members h =
    then_holds (λ found. IfSome found (AreSourceWithin most)) (AreSourceWithin most)
    (optional (list source_breakpoint) (property BREAKPOINTS.now members)) _
    (optional_within most (AreSourceWithin most) (list source_breakpoint) BREAKPOINTS.now members
    (entries_within most (WritesWithin most) source_breakpoint (source_breakpoint_within most)) h)
    by
  where
    by : (found : Option (List SourceBreakpoint)) → IfSome found (AreSourceWithin most)
        → IfSome (or_by_lines found members) (AreSourceWithin most)
    by None held = by_lines_within most members h
    by (Some breakpoints) held = held

set_breakpoints_within : (most : ℕ) (members : Members) → AreMembersWithin most members
    → IfSome (set_breakpoints_arguments members) (λ a. AreSourceWithin most a.breakpoints)
set_breakpoints_within most members h =
    then_any (λ a. AreSourceWithin most a.breakpoints) (optional source_of (property SOURCE.now members)) _ (λ source.
    then_holds (AreSourceWithin most) (λ a. AreSourceWithin most a.breakpoints) (asked members) _
    (asked_within most members h) (λ breakpoints held. held))

-- breakpoints of another kind
breakpoints_within : {A : Type 0} (most : ℕ) (meaning : Data → Option A) (members : Members) → AreMembersWithin most members
    → IfSome (required (list meaning) (property BREAKPOINTS.now members)) (λ found. length found ≤ most)
breakpoints_within most meaning members h =
    required_within most (λ found. length found ≤ most) (list meaning) BREAKPOINTS.now members (list_within most meaning) h

function_breakpoints_within : (most : ℕ) (members : Members) → AreMembersWithin most members
    → IfSome (set_function_breakpoints_arguments members) (λ a. length a.breakpoints ≤ most)
function_breakpoints_within most members h =
    then_holds (λ breakpoints. length breakpoints ≤ most) (λ a. length a.breakpoints ≤ most) _ _
    (breakpoints_within most function_breakpoint members h) (λ breakpoints few. few)

instruction_breakpoints_within : (most : ℕ) (members : Members) → AreMembersWithin most members
    → IfSome (set_instruction_breakpoints_arguments members) (λ a. length a.breakpoints ≤ most)
instruction_breakpoints_within most members h =
    then_holds (λ breakpoints. length breakpoints ≤ most) (λ a. length a.breakpoints ≤ most) _ _
    (breakpoints_within most instruction_breakpoint members h) (λ breakpoints few. few)

-- ---- commands

-- what the arguments ask that a request finds in an object, its command asks
of_members_within : {A : Type 0} (most : ℕ) (make : A → Command) (arguments : Members → Option A) (found : Option Members)
    (command : Command) → IfSome found (AreMembersWithin most)
    → ((members : Members) → AreMembersWithin most members → IfSome (arguments members) (λ a. AsksWithin most (make a)))
    → ok_or (option_and_then (λ members. option_map make (arguments members)) found) BadArguments ≡ Ok command → AsksWithin most command
of_members_within most make arguments None command h on e = absurd cc
of_members_within {A} most make arguments (Some members) command h on e = by (arguments members) (on members h) e where
  by : (found : Option A) → IfSome found (λ a. AsksWithin most (make a)) → ok_or (option_map make found) BadArguments ≡ Ok command
      → AsksWithin most command
  by None p e = absurd cc
  by (Some a) p e = let same : make a ≡ command = cc in subst (AsksWithin most) same p

arguments_within : (most : ℕ) (value : Option Data) → IfSome value (IsWithin most)
    → IfSome (arguments_members value) (AreMembersWithin most)
arguments_within most None h = tt
arguments_within most (Some d) h = as_object_within most d h

command_within : (most : ℕ) (name : List ℕ) (arguments : Option Data) (command : Command) → IfSome arguments (IsWithin most)
    → command_of name arguments ≡ Ok command → AsksWithin most command
unfolding execution_requests
command_within most name arguments (Launch a) h e =
    of_members_within most (λ b. Launch b) launch_arguments (arguments_members arguments) (Launch a)
    (arguments_within most arguments h) (launch_within most) (read_by_its_name name arguments (Launch a) e)
command_within most name arguments (SetBreakpoints a) h e =
    of_members_within most (λ b. SetBreakpoints b) set_breakpoints_arguments (arguments_members arguments) (SetBreakpoints a)
    (arguments_within most arguments h) (set_breakpoints_within most) (read_by_its_name name arguments (SetBreakpoints a) e)
command_within most name arguments (SetFunctionBreakpoints a) h e =
    of_members_within most (λ b. SetFunctionBreakpoints b) set_function_breakpoints_arguments (arguments_members arguments)
    (SetFunctionBreakpoints a) (arguments_within most arguments h) (function_breakpoints_within most)
    (read_by_its_name name arguments (SetFunctionBreakpoints a) e)
command_within most name arguments (SetInstructionBreakpoints a) h e =
    of_members_within most (λ b. SetInstructionBreakpoints b) set_instruction_breakpoints_arguments (arguments_members arguments)
    (SetInstructionBreakpoints a) (arguments_within most arguments h) (instruction_breakpoints_within most)
    (read_by_its_name name arguments (SetInstructionBreakpoints a) e)
command_within most name arguments other h e = tt

-- ---- what is read

next_within : {A : Type 0} (most : ℕ) (P : A → Type 0) (found : Option A) (fault : MessageError) (next : A → Result Incoming MessageError)
    → IfSome found P → ((a : A) → P a → MeansWithin most (next a)) → MeansWithin most (ok_or found fault >>= next)
next_within most P None fault next h on = tt
next_within most P (Some a) fault next h on = on a h

next_any : {A : Type 0} (most : ℕ) (found : Option A) (fault : MessageError) (next : A → Result Incoming MessageError)
    → ((a : A) → MeansWithin most (next a)) → MeansWithin most (ok_or found fault >>= next)
next_any most None fault next on = tt
next_any most (Some a) fault next on = on a

received_within : (most seq : ℕ) (name : List ℕ) (found : Result Command Refusal) → IsTextWithin most name
    → ((command : Command) → found ≡ Ok command → AsksWithin most command) → MeansWithin most (Ok (received seq name found))
received_within most seq name (Ok command) text h = h command refl
received_within most seq name (Err refusal) text h = text

request_within : (most : ℕ) (members : Members) → AreMembersWithin most members → MeansWithin most (request_of members)
request_within most members h =
    next_within most (IsTextWithin most) (text (property COMMAND.now members)) NotAMessage _
    (required_within most (IsTextWithin most) as_str COMMAND.now members (as_str_within most) h) (λ name is_text.
    next_any most (sequence_number (property SEQ.now members)) BadSeq _ (λ seq.
    received_within most seq name _ is_text (λ command.
    command_within most name (property ARGUMENTS.now members) command (property_within most ARGUMENTS.now members h))))

typed_within : (most : ℕ) (kind : List ℕ) (members : Members) → AreMembersWithin most members
    → MeansWithin most (typed_message_of kind members)
typed_within most kind members h =
    either (MeansWithin most) (bytes_eq kind REQUEST.now) (request_of members) _ (request_within most members h)
    (either (MeansWithin most) (bytes_eq kind RESPONSE.now || bytes_eq kind EVENT.now) (Ok Ignored) (Err NotAMessage) tt tt)

message_within : (most : ℕ) (members : Members) → AreMembersWithin most members → MeansWithin most (message_of members)
message_within most members h =
    next_any most (text (property TYPE.now members)) NotAMessage _ (λ kind. typed_within most kind members h)

pub requests_have_texts : RequestsHaveTexts
unfolding incoming_of
requests_have_texts body =
    let most = length body in
    next_within most (IsWithin most) (json_of body) NotJson _ (json_within body) (λ value within.
    next_within most (AreMembersWithin most) (as_object value) NotAMessage _ (as_object_within most value within)
    (λ members h. message_within most members h))
