use Rattle.std.proofs.lemmas.Bool.{false_from_ne_true}
use Rattle.std.proofs.lemmas.Str.{IsUtf8-from_is_utf8, is_utf8-from_IsUtf8}
use Rattle.std.specs.Str.{is_utf8}
use Rattle.scripts.proofs.Paths.{a_path, no_path}
use Rattle.scripts.proofs.step.with_path.Goals as goal

pub returns-in_ok-of-in-Ok : goal.returns-in_ok-of-in-Ok
returns-in_ok-of-in-Ok c =
    let same = c.in-Ok.ensures.cases.0 in
    a_path c.args.path.now c.in_ok-of-in-Ok.field-0 (is_utf8-from_IsUtf8 _ c.in-Ok.ensures.cases.1) (rw same at c.in_ok-of-in-Ok.ensures)

pub returns-in-Err : goal.returns-in-Err
returns-in-Err c =
    no_path c.args.path.now (false_from_ne_true (is_utf8 c.args.path.now) (λ e. c.in-Err.ensures.cases.0 (IsUtf8-from_is_utf8 _ e)))
