use Rattle.std.proofs.Common.{refl}
use Rattle.course.specs.declared.calls.Called.TheVariants.{Nothing}

pub returns-in-false-false-clause-notes : Rattle.course.proofs.machine.note_jump.Goals.returns-in-false-false-clause-notes
returns-in-false-false-clause-notes c = record { called = Nothing; back = refl; notes = λ made log e. e }
