-- The answer to a request that looks into the program, or sets something in it, case by case.
use Rattle.session.proofs.Common.{agreeing, Answering, arith, changing, Command, Debugged, Disassemble, Done, Evaluate, false, Given, Hart, has_room, has_text, if_keeps, initializes, issues, IsTrue, List, looks_in, looks_on, MatchResult, None, Numbers, Ok, Option, Program, ReadMemory, ReferencesExhausted, refl, Refusal, refusing, ResponseBody, Scopes, seen_in, set_in, set_variable, Setting, SetVariableArguments, shows_by, Some, StackTrace, start_by as written_from, sym, take, Terms, true, true≢false, Variables, with_hart, write_memory, WriteMemoryArguments, Writing, written, ℕ, ℤ, ⊤, ◌≡◌}
use Rattle.answers.specs.Disassemble.{disassembled, start_by as place_by}
use Rattle.answers.specs.Evaluate.{unless_refused, valued}
use Rattle.answers.specs.ReadMemory.{read, start_by as read_from}
use Rattle.numerals.specs.Words.{word_of}
use Rattle.answers.specs.Expressions.{expression_of}
use Rattle.answers.specs.Scopes.{body_by as scopes_by}
use Rattle.answers.specs.Targets.{frame_of, frame_refusal, target_of}
use Rattle.answers.specs.Variables.{body_by as variables_by, variables_in}
use Rattle.answers.specs.WriteMemory.{written as written_by}
use Rattle.breakpoints.specs.Trees.{Tree}
use Rattle.protocol.specs.declared.disassemble.DisassembleArguments.{DisassembleArguments}
use Rattle.protocol.specs.declared.read_memory.ReadMemoryArguments.{ReadMemoryArguments}
use Rattle.protocol.specs.declared.variables.VariablesArguments.{VariablesArguments}
use Rattle.replies.specs.declared.response.ResponseBody.TheVariants as body
use Rattle.handlers.specs.SetVariable.{sets_by, sets_on}
use Rattle.handlers.specs.WriteMemory.{writes_by, writes_on}
use Rattle.session.proofs.Breaking.{by_result, IsPlain}
use Rattle.variables.specs.Registers.{name_answer}

-- ---- refusals have no text of their own

scopes_plain : (numbers : Numbers) (id : ℤ) → IsPlain (scopes_by numbers (frame_of numbers id))
scopes_plain numbers id = grind arith

variables_plain : (machine : Debugged) (arguments : VariablesArguments) (numbers : Numbers) (number : ℤ)
    → IsPlain (variables_by arguments (variables_in machine (target_of numbers number)))
variables_plain machine arguments numbers number = grind arith

evaluated_plain : (numbers : Numbers) (id : Option ℤ) (tree : Option Tree) (hart : Hart) (memory : List ℕ)
    → IsPlain (unless_refused (frame_refusal numbers id) (valued tree hart memory))
evaluated_plain numbers id tree hart memory = grind arith

disassembled_plain : (memory : List ℕ) (arguments : DisassembleArguments) (reference : Option ℕ)
    → IsPlain (disassembled memory arguments.instruction_count (place_by arguments reference))
disassembled_plain memory arguments reference = grind arith

read_plain : (memory : List ℕ) (arguments : ReadMemoryArguments) (reference : Option ℕ)
    → IsPlain (read memory arguments.count (read_from memory arguments reference))
read_plain memory arguments reference = grind arith

-- a body is none of `initialize`, and a refusal has no text
pub look_is_plain : (p : Program) (given : Given) (terms : Terms) (command : Command) → IsTrue (looks_in command)
    → IsPlain (seen_in p given terms command).result
look_is_plain p given terms (StackTrace arguments) looks = refl
look_is_plain p given terms (Scopes arguments) looks = scopes_plain given.numbers arguments.frame_id
look_is_plain p given terms (Variables arguments) looks =
    variables_plain p.machine arguments given.numbers arguments.variables_reference
look_is_plain p given terms (Evaluate arguments) looks =
    evaluated_plain given.numbers arguments.frame_id (expression_of arguments.expression) p.machine.hart p.machine.memory
look_is_plain p given terms (Disassemble arguments) looks =
    disassembled_plain p.machine.memory arguments (word_of arguments.memory_reference)
look_is_plain p given terms (ReadMemory arguments) looks =
    read_plain p.machine.memory arguments (word_of arguments.memory_reference)
look_is_plain p given terms command looks = absurd (true≢false (sym looks))

-- ---- looking

-- What holds of each way in which such a request is answered holds of the answer.
pub by_look : (P : Answering → Type 0) (program : Option Program) (given : Given) (terms : Terms) (command : Command)
    → IsTrue (looks_in command)
    → (program ≡ None → P (agreeing given terms body.Empty))
    → ((refusal : Refusal) → has_text refusal ≡ false → P (refusing given terms refusal None))
    → ((p : Program) (b : ResponseBody) → program ≡ Some p → (seen_in p given terms command).result ≡ Ok b → initializes (Done b) ≡ 0 → has_room given.numbers (seen_in p given terms command).targets ≡ true
    → P (issues given terms b (seen_in p given terms command).targets))
    → P (looks_on program given terms command)
by_look P None given terms command looks none refuses shown = none refl
by_look P (Some p) given terms command looks none refuses shown =
    let targets = (seen_in p given terms command).targets in
    by_result (λ b. initializes (Done b) ≡ 0) (seen_in p given terms command).result (look_is_plain p given terms command looks)
    (λ result. P (shows_by given terms result targets)) refuses
    (λ b e plain. if_keeps P (has_room given.numbers targets) _ _ (shown p b refl e plain) (λ _. refuses ReferencesExhausted refl))

-- ---- setting

plain_name : (name : List ℕ) → MatchResult (name_answer name) (λ _. ⊤) (λ refusal. has_text refusal ≡ false)
plain_name name = grind arith

plain_set : (arguments : SetVariableArguments) (machine : Debugged) (numbers : Numbers) (number : ℤ)
    → MatchResult (set_in arguments machine (target_of numbers number)) (λ setting. initializes (Done setting.body) ≡ 0)
    (λ refusal. has_text refusal ≡ false)
plain_set arguments machine numbers number = let name = plain_name arguments.name in grind arith

-- What holds of each way in which `setVariable` is answered holds of the answer.
pub by_setting : (P : Answering → Type 0) (program : Option Program) (given : Given) (terms : Terms) (arguments : SetVariableArguments)
    → (program ≡ None → P (agreeing given terms body.Empty))
    → ((refusal : Refusal) → has_text refusal ≡ false → P (refusing given terms refusal None))
    → ((p : Program) (setting : Setting) → program ≡ Some p → set_variable arguments p.machine given.numbers ≡ Ok setting → initializes (Done setting.body) ≡ 0 → P (changing given terms (with_hart setting.hart) setting.body))
    → P (sets_on program given terms arguments)
by_setting P None given terms arguments none refuses set = none refl
by_setting P (Some p) given terms arguments none refuses set =
    by_result (λ setting. initializes (Done setting.body) ≡ 0) (set_variable arguments p.machine given.numbers)
    (plain_set arguments p.machine given.numbers arguments.variables_reference)
    (λ result. P (sets_by given terms result)) refuses (λ setting. set p setting refl)

plain_written : (memory : List ℕ) (arguments : WriteMemoryArguments) (reference : Option ℕ)
    → MatchResult (written_by memory arguments (written_from memory arguments reference))
    (λ writing. initializes (Done writing.body) ≡ 0) (λ refusal. has_text refusal ≡ false)
plain_written memory arguments reference = grind arith

-- and of `writeMemory`
pub by_writing : (P : Answering → Type 0) (program : Option Program) (given : Given) (terms : Terms) (arguments : WriteMemoryArguments)
    → (program ≡ None → P (agreeing given terms body.Empty))
    → ((refusal : Refusal) → has_text refusal ≡ false → P (refusing given terms refusal None))
    → ((p : Program) (writing : Writing) → program ≡ Some p → write_memory arguments p.machine.memory ≡ Ok writing → initializes (Done writing.body) ≡ 0 → P (changing given terms (written writing.address (take writing.count arguments.bytes)) writing.body))
    → P (writes_on program given terms arguments)
by_writing P None given terms arguments none refuses writes = none refl
by_writing P (Some p) given terms arguments none refuses writes =
    let memory = p.machine.memory in
    by_result (λ writing. initializes (Done writing.body) ≡ 0) (write_memory arguments memory)
    (plain_written memory arguments (word_of arguments.memory_reference))
    (λ result. P (writes_by given terms arguments.bytes result)) refuses (λ writing. writes p writing refl)
