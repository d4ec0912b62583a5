use Rattle.std.proofs.Common.{sym, ap, ◌∙◌, ◌∷◌}
use Rattle.assembler.proofs.Reading.{first_of_lines, only_line}
use Rattle.std.specs.Str.Lines.{lines}
use Rattle.assembler.proofs.program.first_line.Goals as goal

pub returns-in-Some-clause-lines : goal.returns-in-Some-clause-lines
returns-in-Some-clause-lines c =
    first_of_lines c.args.text.now _ _ (sym c.in-Some.ensures.parts)
    ∙ ap (λ line. line ∷ lines c.in-Some.after.now) (sym c.without_carriage_return.ensures)

pub returns-in-None-clause-lines : goal.returns-in-None-clause-lines
returns-in-None-clause-lines c = only_line c.args.text.now c.requires (sym c.in-None.ensures.parts)
