use Rattle.answers.proofs.Common.{ap, Err, if_expression, Parses, subst, sym}
use Rattle.breakpoints.specs.Nodes.{tree_of}
use Rattle.breakpoints.specs.declared.error.ExprError.{ExprError}
use Rattle.answers.proofs.Reading.{expression_found, syntax, too_deep, too_long}
use Rattle.answers.proofs.conditions.expression_of.Goals as goal

pub returns-in-Ok-clause-found : goal.returns-in-Ok-clause-found
returns-in-Ok-clause-found c = sym (ap if_expression (expression_found c.args.text.now (tree_of c.in-Ok.expression) c.in-Ok.ensures))

pub returns-in-Err-Syntax-clause-found : goal.returns-in-Err-Syntax-clause-found
returns-in-Err-Syntax-clause-found c =
    sym (ap if_expression
    (syntax c.args.text.now (subst (λ (x : ExprError). Parses c.args.text.now (Err x)) c.in-Err-Syntax.field-0-is c.in-Err-Syntax.ensures)))

pub returns-in-Err-TooDeep-clause-found : goal.returns-in-Err-TooDeep-clause-found
returns-in-Err-TooDeep-clause-found c =
    sym (ap if_expression
    (too_deep c.args.text.now
    (subst (λ (x : ExprError). Parses c.args.text.now (Err x)) c.in-Err-TooDeep.field-0-is c.in-Err-TooDeep.ensures)))

pub returns-in-Err-TooLong-clause-found : goal.returns-in-Err-TooLong-clause-found
returns-in-Err-TooLong-clause-found c =
    sym (ap if_expression
    (too_long c.args.text.now
    (subst (λ (x : ExprError). Parses c.args.text.now (Err x)) c.in-Err-TooLong.field-0-is c.in-Err-TooLong.ensures)))
