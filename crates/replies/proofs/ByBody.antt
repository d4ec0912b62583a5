-- What holds of each kind of body holds of all: the one list of bodies in proofs.
use Rattle.replies.proofs.Common.{all_taken, AllByRecursion, arith, Data, Form, formed, List, refl, ResponseBody, surely, Taken, ℕ}
use Rattle.std.proofs.Common.{codes}
use Rattle.replies.specs.declared.response.ResponseBody.TheVariants as kind
use Rattle.message_parts.specs.Initialize.{initialize_body}
use Rattle.message_parts.specs.Threads.{threads_body}
use Rattle.message_parts.specs.Continue.{continue_body}
use Rattle.replies.proofs.HasForm.{HasForm, IsAlways}
use Rattle.replies.proofs.LawfulSetBreakpoints.{set_breakpoints_is}
use Rattle.replies.proofs.LawfulSetFunctionBreakpoints.{set_function_breakpoints_is}
use Rattle.replies.proofs.LawfulSetInstructionBreakpoints.{set_instruction_breakpoints_is}
use Rattle.replies.proofs.LawfulStackTrace.{stack_trace_is}
use Rattle.replies.proofs.LawfulScopes.{scopes_is}
use Rattle.replies.proofs.LawfulVariables.{variables_is}
use Rattle.replies.proofs.LawfulSetVariable.{set_variable_is}
use Rattle.replies.proofs.LawfulEvaluate.{evaluate_is}
use Rattle.replies.proofs.LawfulDisassemble.{disassemble_is}
use Rattle.replies.proofs.LawfulReadMemory.{read_memory_is}
use Rattle.replies.proofs.LawfulWriteMemory.{write_memory_is}

-- what has to be shown of each kind
pub record ByBody (Q : ResponseBody → Type 0) : Type 1 where
  pub always : {command : List ℕ} {value : Data} (body : ResponseBody) → IsAlways command value body → Q body
  pub in_form : {n : ℕ} {command : List ℕ} {A : Type 0} {form : Form A} {make : A → ResponseBody}
      → HasForm n command form make → (x : A) → Q (make x)
  pub empty : Q kind.Empty

initialize_is : IsAlways (codes "initialize") initialize_body kind.Initialize
initialize_is = record { simple = refl; shallow = omega arith; no_float = refl; ordered = refl; is_row = refl; is_taken = λ message. refl }

threads_is : IsAlways (codes "threads") threads_body kind.Threads
threads_is = record { simple = refl; shallow = omega arith; no_float = refl; ordered = refl; is_row = refl; is_taken = λ message. refl }

continue_is : IsAlways (codes "continue") continue_body kind.Continue
continue_is = record { simple = refl; shallow = omega arith; no_float = refl; ordered = refl; is_row = refl; is_taken = λ message. refl }

pub by_body : (Q : ResponseBody → Type 0) → ByBody Q → (body : ResponseBody) → Q body
by_body Q h kind.Initialize = h.always kind.Initialize initialize_is
by_body Q h kind.Threads = h.always kind.Threads threads_is
by_body Q h kind.Continue = h.always kind.Continue continue_is
by_body Q h (kind.SetBreakpoints b) = h.in_form set_breakpoints_is b
by_body Q h (kind.SetFunctionBreakpoints b) = h.in_form set_function_breakpoints_is b
by_body Q h (kind.SetInstructionBreakpoints b) = h.in_form set_instruction_breakpoints_is b
by_body Q h (kind.StackTrace b) = h.in_form stack_trace_is b
by_body Q h (kind.Scopes b) = h.in_form scopes_is b
by_body Q h (kind.Variables b) = h.in_form variables_is b
by_body Q h (kind.SetVariable b) = h.in_form set_variable_is b
by_body Q h (kind.Evaluate b) = h.in_form evaluate_is b
by_body Q h (kind.Disassemble b) = h.in_form disassemble_is b
by_body Q h (kind.ReadMemory b) = h.in_form read_memory_is b
by_body Q h (kind.WriteMemory b) = h.in_form write_memory_is b
by_body Q h kind.Empty = h.empty

-- what has to be shown of what a message is taken for, kind by kind
pub record ByTaken (P : Taken → Type 0) : Type 1 where
  pub always : {command : List ℕ} {value : Data} {body : ResponseBody} → IsAlways command value body → P (surely body command)
  pub in_form : {n : ℕ} {command : List ℕ} {A : Type 0} {form : Form A} {make : A → ResponseBody}
      → HasForm n command form make → P (formed command form make)

both : {A B : Type 0} → A → B → A × B
both a b = (a, b)

pub by_taken : (P : Taken → Type 0) → ByTaken P → AllByRecursion P all_taken
by_taken P h =
    both (h.always initialize_is)
    (both (h.always threads_is)
    (both (h.always continue_is)
    (both (h.in_form set_breakpoints_is)
    (both (h.in_form set_function_breakpoints_is)
    (both (h.in_form set_instruction_breakpoints_is)
    (both (h.in_form stack_trace_is)
    (both (h.in_form scopes_is)
    (both (h.in_form variables_is)
    (both (h.in_form set_variable_is)
    (both (h.in_form evaluate_is)
    (both (h.in_form disassemble_is)
    (both (h.in_form read_memory_is)
    (both (h.in_form write_memory_is)
    tt)))))))))))))
