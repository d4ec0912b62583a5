use Rattle.answers.proofs.Common.{ap, Err, Parses, subst, sym, ◌∙◌}
use Rattle.breakpoints.specs.Nodes.{tree_of}
use Rattle.breakpoints.specs.declared.error.ExprError.{ExprError}
use Rattle.answers.specs.Evaluate.{valued}
use Rattle.answers.proofs.Reading.{expression_found, syntax, too_deep, too_long}
use Rattle.answers.proofs.evaluate.valued.Goals as goal

pub returns-in-Ok-clause-answer : goal.returns-in-Ok-clause-answer
returns-in-Ok-clause-answer c =
    c.if_valued.ensures ∙ sym
    (ap (λ found. valued found c.args.hart.now c.args.memory.now)
    (expression_found c.args.text.now (tree_of c.in-Ok.expression) c.in-Ok.ensures))

pub returns-in-Err-Syntax-clause-answer : goal.returns-in-Err-Syntax-clause-answer
returns-in-Err-Syntax-clause-answer c =
    sym (ap (λ found. valued found c.args.hart.now c.args.memory.now)
    (syntax c.args.text.now (subst (λ (x : ExprError). Parses c.args.text.now (Err x)) c.in-Err-Syntax.field-0-is c.in-Err-Syntax.ensures)))

pub returns-in-Err-TooDeep-clause-answer : goal.returns-in-Err-TooDeep-clause-answer
returns-in-Err-TooDeep-clause-answer c =
    sym (ap (λ found. valued found c.args.hart.now c.args.memory.now)
    (too_deep c.args.text.now
    (subst (λ (x : ExprError). Parses c.args.text.now (Err x)) c.in-Err-TooDeep.field-0-is c.in-Err-TooDeep.ensures)))

pub returns-in-Err-TooLong-clause-answer : goal.returns-in-Err-TooLong-clause-answer
returns-in-Err-TooLong-clause-answer c =
    sym (ap (λ found. valued found c.args.hart.now c.args.memory.now)
    (too_long c.args.text.now
    (subst (λ (x : ExprError). Parses c.args.text.now (Err x)) c.in-Err-TooLong.field-0-is c.in-Err-TooLong.ensures)))
