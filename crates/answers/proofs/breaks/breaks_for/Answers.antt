use Rattle.answers.proofs.Settable.{function_settable, instruction_settable, settable, source_settable}
use Rattle.answers.proofs.breaks.breaks_for.Goals as goal

pub returns-in-SetBreakpoints-clause-settable : goal.returns-in-SetBreakpoints-clause-settable
returns-in-SetBreakpoints-clause-settable c =
    settable c.answer.result _
    (source_settable c.args.image.now.lines c.args.view.now c.args.next_id c.in-SetBreakpoints.arguments) c.answer.ensures.answer

pub returns-in-SetFunctionBreakpoints-clause-settable : goal.returns-in-SetFunctionBreakpoints-clause-settable
returns-in-SetFunctionBreakpoints-clause-settable c =
    settable c.answer-in-SetFunctionBreakpoints.result _
    (function_settable c.args.image.now.lines c.size.result c.args.next_id c.in-SetFunctionBreakpoints.arguments) c.answer-in-SetFunctionBreakpoints.ensures.answer

pub returns-in-SetInstructionBreakpoints-clause-settable : goal.returns-in-SetInstructionBreakpoints-clause-settable
returns-in-SetInstructionBreakpoints-clause-settable c =
    settable c.answer-in-SetInstructionBreakpoints.result _
    (instruction_settable c.size-in-SetInstructionBreakpoints.result c.args.next_id c.in-SetInstructionBreakpoints.arguments) c.answer-in-SetInstructionBreakpoints.ensures.answer
