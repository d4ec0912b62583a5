-- The bodies of successes, in one table.
--
-- A success of a request has one kind of body, which is that request's, or none (DAP specification, `Response.body`).
-- How each is written stands in the file of its name.
use Rattle.std.specs.Prelude.{ℕ, List, [], ◌∷◌, Bool, true, Option, Some, None, codes, if◌then◌else◌, bytes_eq}
use Rattle.std.specs.Prelude.{IsTrue, option_map}
use Rattle.std.specs.List.{list_any}
use Rattle.serde_json.specs.Data.{Data}
use Rattle.serde_json.specs.Find.{get}
use Rattle.message_parts.specs.Forms.{Form}
use Rattle.message_parts.specs.Initialize.{initialize_body}
use Rattle.message_parts.specs.Threads.{threads_body}
use Rattle.message_parts.specs.Continue.{continue_body}
use Rattle.message_parts.specs.SetBreakpoints.{set_breakpoints}
use Rattle.message_parts.specs.SetFunctionBreakpoints.{set_function_breakpoints}
use Rattle.message_parts.specs.SetInstructionBreakpoints.{set_instruction_breakpoints}
use Rattle.message_parts.specs.StackTrace.{stack_trace}
use Rattle.message_parts.specs.Scopes.{scopes}
use Rattle.message_parts.specs.Variables.{variables}
use Rattle.message_parts.specs.SetVariable.{set_variable}
use Rattle.message_parts.specs.Evaluate.{evaluate}
use Rattle.message_parts.specs.Disassemble.{disassemble}
use Rattle.message_parts.specs.ReadMemory.{read_memory}
use Rattle.message_parts.specs.WriteMemory.{write_memory}
use Rattle.protocol.specs.Properties.{◌>>=◌}
use Rattle.replies.specs.declared.response.ResponseBody.{ResponseBody}
use Rattle.replies.specs.declared.response.ResponseBody.TheVariants as kind

-- a body: the requests whose success has it, its JSON value if it has one, whether its numbers are in their ranges, and
-- its texts
pub record Row : Type 0 where
  pub commands : List (List ℕ)
  pub value : Option Data
  pub has_numbers : Bool
  pub texts : List (List ℕ)

-- one that is always the same
abbrev pub always : List ℕ → Data → Row
always command value = record { commands = command ∷ []; value = Some value; has_numbers = true; texts = [] }

-- one of this form
abbrev pub in_form : {A : Type 0} → List ℕ → Form A → A → Row
in_form command form x =
    record { commands = command ∷ []; value = Some (form.value x); has_numbers = form.is_in x; texts = form.texts x }

-- none, after any of these requests
abbrev pub none_after : List (List ℕ) → Row
none_after commands = record { commands = commands; value = None; has_numbers = true; texts = [] }

-- the requests whose success has no body
abbrev pub without_body : List (List ℕ)
without_body =
    codes "attach" ∷ codes "cancel" ∷ codes "configurationDone" ∷ codes "disconnect"
    ∷ codes "launch" ∷ codes "next" ∷ codes "pause" ∷ codes "restart"
    ∷ codes "reverseContinue" ∷ codes "setExceptionBreakpoints" ∷ codes "stepBack" ∷ codes "stepIn"
    ∷ codes "stepOut" ∷ codes "terminate" ∷ []

-- the table
abbrev pub row : ResponseBody → Row
row kind.Initialize = always (codes "initialize") initialize_body
row kind.Threads = always (codes "threads") threads_body
row kind.Continue = always (codes "continue") continue_body
row (kind.SetBreakpoints b) = in_form (codes "setBreakpoints") set_breakpoints b
row (kind.SetFunctionBreakpoints b) = in_form (codes "setFunctionBreakpoints") set_function_breakpoints b
row (kind.SetInstructionBreakpoints b) = in_form (codes "setInstructionBreakpoints") set_instruction_breakpoints b
row (kind.StackTrace b) = in_form (codes "stackTrace") stack_trace b
row (kind.Scopes b) = in_form (codes "scopes") scopes b
row (kind.Variables b) = in_form (codes "variables") variables b
row (kind.SetVariable b) = in_form (codes "setVariable") set_variable b
row (kind.Evaluate b) = in_form (codes "evaluate") evaluate b
row (kind.Disassemble b) = in_form (codes "disassemble") disassemble b
row (kind.ReadMemory b) = in_form (codes "readMemory") read_memory b
row (kind.WriteMemory b) = in_form (codes "writeMemory") write_memory b
row kind.Empty = none_after without_body

-- the body, if there is one
abbrev pub body_data : ResponseBody → Option Data
body_data body = (row body).value

-- the body is that of a success of this command
abbrev pub IsBodyOf : List ℕ → ResponseBody → Type 0
IsBodyOf command body = IsTrue (list_any (bytes_eq command) (row body).commands)

-- its numbers are values of their types
abbrev pub has_numbers : ResponseBody → Bool
has_numbers body = (row body).has_numbers

-- its texts
abbrev pub texts_in : ResponseBody → List (List ℕ)
texts_in body = (row body).texts

-- ---- for `exact` of `read_message` and private clauses: which body a message claims to have

-- after a success of this command: what the message is taken for
pub record Taken : Type 0 where
  pub command : List ℕ
  pub found : Data → Option ResponseBody

-- what has always the same body, or none
abbrev pub surely : ResponseBody → List ℕ → Taken
surely body command = record { command = command; found = λ _. Some body }

-- what has a body of this form
abbrev pub formed : {A : Type 0} → List ℕ → Form A → (A → ResponseBody) → Taken
formed command form body =
    record { command = command; found = λ message. option_map body (get (codes "body") message >>= form.found) }

abbrev pub all_taken : List Taken
all_taken =
    surely kind.Initialize (codes "initialize")
    ∷ surely kind.Threads (codes "threads")
    ∷ surely kind.Continue (codes "continue")
    ∷ formed (codes "setBreakpoints") set_breakpoints (λ b. kind.SetBreakpoints b)
    ∷ formed (codes "setFunctionBreakpoints") set_function_breakpoints (λ b. kind.SetFunctionBreakpoints b)
    ∷ formed (codes "setInstructionBreakpoints") set_instruction_breakpoints (λ b. kind.SetInstructionBreakpoints b)
    ∷ formed (codes "stackTrace") stack_trace (λ b. kind.StackTrace b)
    ∷ formed (codes "scopes") scopes (λ b. kind.Scopes b)
    ∷ formed (codes "variables") variables (λ b. kind.Variables b)
    ∷ formed (codes "setVariable") set_variable (λ b. kind.SetVariable b)
    ∷ formed (codes "evaluate") evaluate (λ b. kind.Evaluate b)
    ∷ formed (codes "disassemble") disassemble (λ b. kind.Disassemble b)
    ∷ formed (codes "readMemory") read_memory (λ b. kind.ReadMemory b)
    ∷ formed (codes "writeMemory") write_memory (λ b. kind.WriteMemory b)
    ∷ []

-- the first of them that is for the command, or no body where the request has none
abbrev pub taken_among : List Taken → List ℕ → Data → Option ResponseBody
taken_among [] command message = if list_any (bytes_eq command) without_body then Some kind.Empty else None
taken_among (t ∷ ts) command message =
    if bytes_eq command t.command then t.found message else taken_among ts command message

-- the body that a success of this command claims to have
abbrev pub body_in : List ℕ → Data → Option ResponseBody
body_in command message = taken_among all_taken command message
