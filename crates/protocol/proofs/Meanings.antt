-- What holds of each meaning of a body.
use Rattle.std.proofs.Common.{◌≡◌, ◌≤◌, ◌⊎◌, map, option_map, inl, inr, ℕ, Bool, true, false, cond, leb, List, [], ◌∷◌, Option, Some, None, Result, Ok, Err, refl, sym, ap, ◌∙◌, ⊎_elim, arith}
use Rattle.std.proofs.lemmas.Bool.Decides.{nat_tests}
use Rattle.std.proofs.lemmas.List.Elements.{All-nil, All-cons, All-map}
use Rattle.std.specs.Prelude.{All, IfSome, ok_or, bytes_eq, option_and_then, unwrap_or, ◌||◌}
use Rattle.serde_json.specs.Data.{Data, Items, no_items, item, object, Members, put}
use Rattle.serde_json.specs.Find.{as_array, as_object, as_number, as_str, as_u64}
use Rattle.serde_json.proofs.Views.{get_member-put_other}
use Rattle.protocol.specs.Json.{json_of}
use Rattle.protocol.specs.Properties.{natural, property, text, sequence_number, within_i32_max, non_null}
use Rattle.protocol.specs.Arguments.{arguments_members, each, list, optional, required}
use Rattle.protocol.specs.Commands.{command_among, command_of, execution_requests, requests}
use Rattle.protocol.specs.Rows.{Row}
use Rattle.protocol.specs.Reading.{◌>>=◌, received, request_of, typed_message_of, message_of, incoming_of}
use Rattle.protocol.specs.SetBreakpoints.{asked, at_line, by_lines, or_by_lines, set_breakpoints_arguments, source_breakpoint, source_of}
use Rattle.protocol.proofs.Requests.{of_arguments, read_by_its_name}
use Rattle.protocol.specs.Laws.{AsksLinesWithin, IsOfType, IgnoresWhatIsNoRequest, PassesOverUnknownMembers}
use Rattle.protocol.specs.declared.command.Command.{Command}
use Rattle.protocol.specs.declared.command.Command.TheVariants.{SetBreakpoints}
use Rattle.protocol.specs.declared.set_breakpoints.SourceBreakpoint.{SourceBreakpoint}
use Rattle.protocol.specs.declared.set_breakpoints.TheConstants.{SOURCE, LINES, LINE, LOG_MESSAGE}
use Rattle.protocol.specs.declared.refusal.Refusal.{Refusal}
use Rattle.protocol.specs.declared.refusal.Refusal.TheVariants.{UnknownCommand, BadArguments}
use Rattle.protocol.specs.declared.request.Incoming.{Incoming}
use Rattle.protocol.specs.declared.request.Incoming.TheVariants.{Request, Bad, Ignored}
use Rattle.protocol.specs.declared.request.MessageError.{MessageError}
use Rattle.protocol.specs.declared.request.MessageError.TheVariants.{NotJson, NotAMessage, BadSeq, NoMemory}
use Rattle.protocol.specs.declared.members.TheConstants.{SEQ, TYPE, COMMAND, ARGUMENTS, REQUEST, RESPONSE, EVENT, BREAKPOINTS, CONDITION, HIT_CONDITION}

-- a refusal of a name or of arguments
abbrev pub IsOfNameOrArguments : Refusal → Type 0
IsOfNameOrArguments refusal = (refusal ≡ UnknownCommand) ⊎ (refusal ≡ BadArguments)

-- what holds of a meaning: its number and the lines that it asks for are within bounds, a refusal is of its name or
-- arguments, and it is not that memory ran out
abbrev pub IsSound : Result Incoming MessageError → Type 0
IsSound (Ok (Request request)) = (request.seq ≤ 2147483647) × AsksLinesWithin request.command
IsSound (Ok (Bad seq name refusal)) = (seq ≤ 2147483647) × IsOfNameOrArguments refusal
IsSound (Ok Ignored) = Unit {0}
IsSound (Err NoMemory) = ⊥
IsSound (Err NotJson) = Unit {0}
IsSound (Err NotAMessage) = Unit {0}
IsSound (Err BadSeq) = Unit {0}

sound_next : {A : Type 0} (found : Option A) (fault : MessageError)
    (next : A → Result Incoming MessageError)
    → IsSound (Err fault) → ((value : A) → found ≡ Some value → IsSound (next value))
    → IsSound (ok_or found fault >>= next)
sound_next None fault next at_fault at_next = at_fault
sound_next (Some value) fault next at_fault at_next = at_next value refl

sound_if : (b : Bool) (x y : Result Incoming MessageError) → IsSound x → IsSound y
    → IsSound (cond b x y)
sound_if true x y p q = p
sound_if false x y p q = q

-- ---- lines

-- what holds of a value that is read, and of what follows from each such value, holds of what follows
then_holds : {A B : Type 0} (P : A → Type 0) (Q : B → Type 0) (found : Option A) (next : A → Option B)
    → IfSome found P → ((a : A) → P a → IfSome (next a) Q) → IfSome (option_and_then next found) Q
then_holds P Q None next h on = tt
then_holds P Q (Some a) next h on = on a h

-- the same, of any value
then_any : {A B : Type 0} (Q : B → Type 0) (found : Option A) (next : A → Option B)
    → ((a : A) → IfSome (next a) Q) → IfSome (option_and_then next found) Q
then_any Q None next on = tt
then_any Q (Some a) next on = on a

max_holds : (n : ℕ) → IfSome (within_i32_max n) (λ k. k ≤ 2147483647)
max_holds n = by (leb n 2147483647) refl where
  by : (b : Bool) → leb n 2147483647 ≡ b → IfSome (cond b (Some n) None) (λ k. k ≤ 2147483647)
  by true e = grind (arith, nat_tests, e)
  by false e = tt

natural_holds : (value : Data) → IfSome (natural value) (λ n. n ≤ 2147483647)
natural_holds value = then_any (λ n. n ≤ 2147483647) (option_and_then as_u64 (as_number value)) within_i32_max max_holds

each_holds : {A : Type 0} (P : A → Type 0) (meaning : Data → Option A) → ((value : Data) → IfSome (meaning value) P)
    → (items : Items) → IfSome (each meaning items) (All P)
each_holds P meaning h no_items = All-nil P
each_holds P meaning h (item value rest) =
    then_holds P (All P) (meaning value) _ (h value) (λ first p.
    then_holds (All P) (All P) (each meaning rest) _ (each_holds P meaning h rest) (λ others q. All-cons P first others p q))

list_holds : {A : Type 0} (P : A → Type 0) (meaning : Data → Option A) → ((value : Data) → IfSome (meaning value) P)
    → (value : Data) → IfSome (list meaning value) (All P)
list_holds P meaning h value = then_any (All P) (as_array value) (each meaning) (each_holds P meaning h)

optional_holds : {A : Type 0} (P : A → Type 0) (meaning : Data → Option A) → ((value : Data) → IfSome (meaning value) P)
    → (value : Option Data) → IfSome (optional meaning value) (λ found. IfSome found P)
optional_holds P meaning h None = tt
optional_holds {A = A} P meaning h (Some value) = by (meaning value) (h value) where
  by : (found : Option A) → IfSome found P → IfSome (option_map (λ a. Some a) found) (λ f. IfSome f P)
  by None p = tt
  by (Some a) p = p

-- the line of a breakpoint is within bounds
abbrev IsLineWithin : SourceBreakpoint → Type 0
IsLineWithin b = b.line ≤ 2147483647

line_holds : (found : Option Data) → IfSome (required natural found) (λ n. n ≤ 2147483647)
line_holds None = tt
line_holds (Some value) = natural_holds value

breakpoint_holds : (value : Data) → IfSome (source_breakpoint value) IsLineWithin
breakpoint_holds value =
    then_any IsLineWithin (as_object value) _ (λ members.
    then_holds (λ n. n ≤ 2147483647) IsLineWithin (required natural (property LINE.now members)) _ (line_holds (property LINE.now members))
    (λ line h.
    then_any IsLineWithin (optional as_str (property CONDITION.now members)) _ (λ condition.
    then_any IsLineWithin (optional as_str (property HIT_CONDITION.now members)) _ (λ hits.
    then_any IsLineWithin (optional as_str (property LOG_MESSAGE.now members)) _ (λ log. h)))))

lines_hold : (lines : Option (List ℕ)) → IfSome lines (All (λ n. n ≤ 2147483647)) → All IsLineWithin (map at_line (unwrap_or lines []))
lines_hold None h = All-nil IsLineWithin
lines_hold (Some lines) h = All-map IsLineWithin at_line lines h

by_lines_holds : (members : Members) → IfSome (by_lines members) (All IsLineWithin)
by_lines_holds members =
    then_holds (λ found. IfSome found (All (λ n. n ≤ 2147483647))) (All IsLineWithin)
    (optional (list natural) (property LINES.now members)) _
    (optional_holds (All (λ n. n ≤ 2147483647)) (list natural) (list_holds (λ n. n ≤ 2147483647) natural natural_holds)
    (property LINES.now members))
    lines_hold

asked_holds : (members : Members) → IfSome (asked members) (All IsLineWithin)
asked_holds members =
    then_holds (λ found. IfSome found (All IsLineWithin)) (All IsLineWithin)
    (optional (list source_breakpoint) (property BREAKPOINTS.now members)) _
    (optional_holds (All IsLineWithin) (list source_breakpoint) (list_holds IsLineWithin source_breakpoint breakpoint_holds)
    (property BREAKPOINTS.now members))
    by
  where
    by : (found : Option (List SourceBreakpoint)) → IfSome found (All IsLineWithin) → IfSome (or_by_lines found members) (All IsLineWithin)
    by None h = by_lines_holds members
    by (Some breakpoints) h = h

set_breakpoints_holds : (members : Members) → IfSome (set_breakpoints_arguments members) (λ a. All IsLineWithin a.breakpoints)
set_breakpoints_holds members =
    then_any (λ a. All IsLineWithin a.breakpoints) (optional source_of (property SOURCE.now members)) _ (λ source.
    then_holds (All IsLineWithin) (λ a. All IsLineWithin a.breakpoints) (asked members) _ (asked_holds members) (λ breakpoints h. h))

-- ---- commands

-- only `setBreakpoints` asks for lines
lines_asked : (name : List ℕ) (arguments : Option Data) (command : Command)
    → command_of name arguments ≡ Ok command → AsksLinesWithin command
unfolding execution_requests
lines_asked name arguments (SetBreakpoints a) e =
    of_arguments (λ b. All IsLineWithin b.breakpoints) AsksLinesWithin (λ b. SetBreakpoints b)
    set_breakpoints_arguments (arguments_members arguments) (SetBreakpoints a)
    set_breakpoints_holds (λ b h. h) (read_by_its_name name arguments (SetBreakpoints a) e)
lines_asked name arguments other e = tt

-- a refusal is of the name or of the arguments
refused_at : (here : Bool) (found : Option Command) (rest : Result Command Refusal) (refusal : Refusal)
    → (rest ≡ Err refusal → IsOfNameOrArguments refusal)
    → cond here (ok_or found BadArguments) rest ≡ Err refusal → IsOfNameOrArguments refusal
refused_at true None rest refusal later e = let same : BadArguments ≡ refusal = cc in inr (sym same)
refused_at true (Some command) rest refusal later e = absurd (cc)
refused_at false found rest refusal later e = later e

refused_among : (rows : List Row) (name : List ℕ) (members : Option Members) (refusal : Refusal)
    → command_among rows name members ≡ Err refusal → IsOfNameOrArguments refusal
refused_among [] name members refusal e = let same : UnknownCommand ≡ refusal = cc in inl (sym same)
refused_among (r ∷ rs) name members refusal e =
    refused_at (bytes_eq name r.name) (option_and_then r.meaning members) (command_among rs name members) refusal
    (refused_among rs name members refusal) e

-- a command that asks within bounds, or a refusal of its name or its arguments
abbrev IsReadRightly : Result Command Refusal → Type 0
IsReadRightly (Ok command) = AsksLinesWithin command
IsReadRightly (Err refusal) = IsOfNameOrArguments refusal

read_rightly : (name : List ℕ) (arguments : Option Data) (found : Result Command Refusal)
    → command_of name arguments ≡ found → IsReadRightly found
read_rightly name arguments (Ok command) e = lines_asked name arguments command e
read_rightly name arguments (Err refusal) e = refused_among requests name (arguments_members arguments) refusal e

received-sound : (seq : ℕ) (name : List ℕ) (found : Result Command Refusal) → seq ≤ 2147483647
    → IsReadRightly found → IsSound (Ok (received seq name found))
received-sound seq name (Ok command) within right = (within, right)
received-sound seq name (Err refusal) within right = (within, right)

-- the numbers that a message may have
within_at : (b : Bool) (n m : ℕ) → leb n 2147483647 ≡ b → cond b (Some n) None ≡ Some m
    → m ≤ 2147483647
within_at true n m test e = let same : n ≡ m = cc in grind (arith, nat_tests)
within_at false n m test e = absurd (cc)

then_within : (found : Option ℕ) (m : ℕ) → option_and_then within_i32_max found ≡ Some m
    → m ≤ 2147483647
then_within None m e = absurd (cc)
then_within (Some n) m e = within_at _ n m refl e

sequence_number-within : (value : Option Data) (m : ℕ) → sequence_number value ≡ Some m
    → m ≤ 2147483647
sequence_number-within None m e = absurd (cc)
sequence_number-within (Some value) m e =
    then_within (option_and_then as_u64 (as_number value)) m e

request_of-sound : (members : Members) → IsSound (request_of members)
request_of-sound members =
    sound_next (text (property COMMAND.now members)) NotAMessage _ tt (λ name _.
    sound_next (sequence_number (property SEQ.now members)) BadSeq _ tt (λ seq is.
    received-sound seq name _ (sequence_number-within (property SEQ.now members) seq is)
    (read_rightly name (property ARGUMENTS.now members) _ refl)))

typed_message_of-sound : (kind : List ℕ) (members : Members)
    → IsSound (typed_message_of kind members)
typed_message_of-sound kind members =
    sound_if (bytes_eq kind REQUEST.now) _ _ (request_of-sound members)
    (sound_if (bytes_eq kind RESPONSE.now || bytes_eq kind EVENT.now) _ _ tt tt)

message_of-sound : (members : Members) → IsSound (message_of members)
message_of-sound members =
    sound_next (text (property TYPE.now members)) NotAMessage _ tt (λ kind _.
    typed_message_of-sound kind members)

-- the meaning of each body is sound
pub incoming_of-sound : (body : List ℕ) → IsSound (incoming_of body)
unfolding incoming_of
incoming_of-sound body =
    sound_next (json_of body) NotJson _ tt (λ value _.
    sound_next (as_object value) NotAMessage _ tt (λ members _. message_of-sound members))

property-put : (q k : List ℕ) (d : Data) (ms : Members) → (q ≡ k → ⊥)
    → property q (put k d ms) ≡ property q ms
property-put q k d ms other = ap (option_and_then non_null) (get_member-put_other q k d ms other)

-- a member of another name leaves the four that are looked at
pub message_of-put : PassesOverUnknownMembers
message_of-put ms k d t c s a =
    let same_type = property-put TYPE.now k d ms t in
    let same_command = property-put COMMAND.now k d ms c in
    let same_seq = property-put SEQ.now k d ms s in
    let same_arguments = property-put ARGUMENTS.now k d ms a in
    simp (same_type, same_command, same_seq, same_arguments)

-- what was found is passed on
next_is : {A : Type 0} (found : Option A) (value : A) (fault : MessageError)
    (next : A → Result Incoming MessageError)
    → found ≡ Some value → (ok_or found fault >>= next) ≡ next value
next_is found value fault next is = rw is

message_of-ignored : (ms : Members) → IsOfType RESPONSE.now ms ⊎ IsOfType EVENT.now ms
    → message_of ms ≡ Ok Ignored
message_of-ignored ms is_typed =
    let kind = text (property TYPE.now ms) in
    let next = λ (k : List ℕ). typed_message_of k ms in
    ⊎_elim (λ is. next_is kind RESPONSE.now NotAMessage next is)
    (λ is. next_is kind EVENT.now NotAMessage next is) is_typed

-- a response or an event is passed over
pub incoming_of-ignored : IgnoresWhatIsNoRequest
unfolding incoming_of
incoming_of-ignored body ms is_object is_typed =
    let next = λ (value : Data). ok_or (as_object value) NotAMessage >>= message_of in
    next_is (json_of body) (object ms) NotJson next is_object ∙ message_of-ignored ms is_typed
