-- What `setVariable` answers (DAP specification, `SetVariableRequest`), and the hart that it sets.
--
-- Of the registers, x1 to x31 can be set. The words of the stack are shown and cannot be set under their names; a request
-- that writes memory can change them.
use Rattle.std.specs.Prelude.{◌≡◌, ℕ, zero, suc, Bool, if◌then◌else◌, List, [], ◌∷◌, slice_index, slice_set, Option}
use Rattle.std.specs.Prelude.{Some, None, Result, Ok, Err, bytes_eq}
use Rattle.std.specs.List.{list_any}
use Rattle.message_parts.specs.declared.variables.Variable.{Variable}
use Rattle.protocol.specs.declared.refusal.Refusal.{Refusal}
use Rattle.protocol.specs.declared.refusal.Refusal.TheVariants.{BadValue, NotWritable, UnknownName, UnknownReference}
use Rattle.protocol.specs.declared.set_variable.SetVariableArguments.{SetVariableArguments}
use Rattle.replies.specs.declared.response.ResponseBody.TheVariants.{SetVariable}
use Rattle.rv32i.specs.declared.hart.Hart.{Hart}
use Rattle.stepping.specs.Ticks.{Debugged}
use Rattle.variables.specs.Numbers.{Numbers}
use Rattle.variables.specs.Registers.{name_answer}
use Rattle.variables.specs.Stack.{stack_words}
use Rattle.variables.specs.Values.{value_of}
use Rattle.variables.specs.declared.target.Target.{Target}
use Rattle.variables.specs.declared.target.Target.TheVariants.{Frame, Registers, Stack}
use Rattle.answers.specs.Targets.{target_of}
use Rattle.answers.specs.declared.set_variable.Setting.{Setting}

-- ---- a hart with another value in a register

-- x0 is 0 whatever another register is
pub zero_stays : (x : List ℕ) (number value : ℕ) → slice_index x 0 ≡ 0 → slice_index (slice_set x (suc number) value) 0 ≡ 0
zero_stays [] number value is = is
zero_stays (x0 ∷ x) number value is = is

-- it, where a value for x0 is dropped
abbrev pub with_register : Hart → ℕ → ℕ → Hart
with_register hart zero value = hart
with_register hart (suc number) value = record {
  pc = hart.pc;
  x = slice_set hart.x (suc number) value;
  zero = zero_stays hart.x number value hart.zero;
}

-- ---- the answer

-- a register gets a value
abbrev pub setting_of : Hart → Result ℕ Refusal → Option ℕ → Result Setting Refusal
setting_of hart (Err refusal) value = Err refusal
setting_of hart (Ok number) None = Err BadValue
setting_of hart (Ok number) (Some value) =
    Ok (record { body = SetVariable (record { value = value }); hart = with_register hart number value })

-- whether a list has a variable of a name
abbrev pub has_name : List ℕ → List Variable → Bool
has_name name list = list_any (λ variable. bytes_eq variable.name name) list

-- in a scope
abbrev pub set_in : SetVariableArguments → Debugged → Result Target Refusal → Result Setting Refusal
set_in arguments machine (Ok (Frame index)) = Err UnknownReference
set_in arguments machine (Ok Registers) =
    setting_of machine.hart (name_answer arguments.name) (value_of arguments.value)
set_in arguments machine (Ok Stack) =
    Err (if has_name arguments.name (stack_words machine.hart machine.memory) then NotWritable else UnknownName)
set_in arguments machine (Err refusal) = Err refusal

-- the answer
abbrev pub set_variable : SetVariableArguments → Debugged → Numbers → Result Setting Refusal
set_variable arguments machine numbers =
    set_in arguments machine (target_of numbers arguments.variables_reference)
