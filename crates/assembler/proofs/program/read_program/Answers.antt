use Rattle.assembler.proofs.Common.{ap, arith, length, line_at, lines, read_lines, read_text, refl, whole_error, ◌∙◌, ◌≡◌, ◌≤◌}
use Rattle.assembler.proofs.Reading.{a_text, no_text, too_long, whole_first, whole_none, whole_reported}
use Rattle.assembler.proofs.program.read_program.Goals as goal

pub returns-then-text-gt-TEXT_LIMIT-clause-answers : goal.returns-then-text-gt-TEXT_LIMIT-clause-answers
returns-then-text-gt-TEXT_LIMIT-clause-answers c =
    whole_first c.args.text.now _ (too_long c.args.text.now c.if-text-gt-TEXT_LIMIT.true)

pub returns-then-text-gt-TEXT_LIMIT-clause-whole : goal.returns-then-text-gt-TEXT_LIMIT-clause-whole
returns-then-text-gt-TEXT_LIMIT-clause-whole c =
    whole_reported (whole_error c.args.text.now) _ _ (too_long c.args.text.now c.if-text-gt-TEXT_LIMIT.true) refl

pub returns-in-Ok-clause-answers : goal.returns-in-Ok-clause-answers
returns-in-Ok-clause-answers c =
    let few : length c.args.text.now ≤ 1048576 = omega arith in
    let all : read_text c.args.text.now ≡ read_lines 1 (lines c.args.text.now) = a_text c.args.text.now few c.in-Ok.ensures.cases.1 in
    rw all c.read_lines.ensures

pub returns-in-Ok-clause-whole : goal.returns-in-Ok-clause-whole
returns-in-Ok-clause-whole c =
    let few : length c.args.text.now ≤ 1048576 = omega arith in whole_none c.args.text.now _ few c.in-Ok.ensures.cases.1

pub returns-in-Err-clause-answers : goal.returns-in-Err-clause-answers
returns-in-Err-clause-answers c =
    let few : length c.args.text.now ≤ 1048576 = omega arith in
    let index = c.valid_up_to.ensures ∙ c.in-Err.ensures.valid_len in
    whole_first c.args.text.now _
    (no_text c.args.text.now c.line_at.result few c.in-Err.ensures.cases.0 (c.line_at.ensures ∙ ap (line_at c.args.text.now) index))

pub returns-in-Err-clause-whole : goal.returns-in-Err-clause-whole
returns-in-Err-clause-whole c =
    let few : length c.args.text.now ≤ 1048576 = omega arith in
    let index = c.valid_up_to.ensures ∙ c.in-Err.ensures.valid_len in
    whole_reported (whole_error c.args.text.now) _ _
    (no_text c.args.text.now c.line_at.result few c.in-Err.ensures.cases.0 (c.line_at.ensures ∙ ap (line_at c.args.text.now) index)) refl
