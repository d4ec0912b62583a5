use Rattle.answers.proofs.Common.{ap, List, name_answer, registers_after, set_answer, ℕ, ◌∙◌}
use Rattle.variables.specs.Values.{value_of}
use Rattle.answers.proofs.Setting.{refused, set}
use Rattle.answers.proofs.set_variable.in_registers.Goals as goal

pub returns-in-Err : goal.returns-in-Err
returns-in-Err c =
    let name = c.args.arguments.now.name in
    refused c.args.hart (name_answer name) (value_of c.args.arguments.now.value) c.in-Err.refusal
    (c.in-Err.ensures.answer ∙ ap (λ (n : List ℕ). set_answer n c.as_str-2.result.now) c.as_str.ensures
    ∙ ap (set_answer name) c.as_str-2.ensures)

pub returns-in-Ok : goal.returns-in-Ok
returns-in-Ok c =
    let name = c.args.arguments.now.name in
    set c.args.hart c.set_register.new.hart name (value_of c.args.arguments.now.value) c.in-Ok.value
    (c.in-Ok.ensures.answer ∙ ap (λ (n : List ℕ). set_answer n c.as_str-2.result.now) c.as_str.ensures
    ∙ ap (set_answer name) c.as_str-2.ensures)
    (c.set_register.ensures.x ∙ ap (λ (n : List ℕ). registers_after n c.as_str-2.result.now c.args.hart.x) c.as_str.ensures
    ∙ ap (λ (v : List ℕ). registers_after name v c.args.hart.x) c.as_str-2.ensures) c.set_register.ensures.pc
