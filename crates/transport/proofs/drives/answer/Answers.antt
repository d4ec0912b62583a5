use Rattle.std.proofs.Common.{refl}
use Rattle.transport.proofs.RoundLemmas.{found_ok, found_err}
use Rattle.transport.proofs.Driving.{answers_over, answers_none, reads_none}
use Rattle.transport.proofs.drives.answer.Goals as goal

pub returns-in_default-clause-went : goal.returns-in_default-clause-went
returns-in_default-clause-went g c line = reads_none _ line c.args.session.now c.requires c.in_default.ensures.reads

pub returns-in-Ok-turn_with-clause-went : goal.returns-in-Ok-turn_with-clause-went
returns-in-Ok-turn_with-clause-went g c line =
    answers_over _ _ line c.args.session.now c.in-Ok.file c.turn_with.result c.requires c.in-Ok.ensures.given c.in-Ok.ensures.reads
    c.turn_with.ensures.stands (found_ok c.in-Ok-turn_with.is) c.turn_with.ensures.told

pub returns-in-NoMemory-clause-went : goal.returns-in-NoMemory-clause-went
returns-in-NoMemory-clause-went g c line =
    rw c.in-Err.ensures.err
    (answers_none _ _ line c.args.session.now c.in-Ok.file c.turn_with.result c.in-Err.error c.requires c.in-Ok.ensures.given
    c.in-Ok.ensures.reads c.in-Err.is c.in-NoMemory.is c.turn_with.ensures.told)

pub returns-in_default-error : goal.returns-in_default-error
returns-in_default-error g c = record {
  went =
      λ line. answers_over _ _ line c.args.session.now c.in-Ok.file c.turn_with.result c.requires c.in-Ok.ensures.given
      c.in-Ok.ensures.reads c.turn_with.ensures.stands (found_err c.in-Err.is c.in_default-error.not-NoMemory) c.turn_with.ensures.told;
  same = refl;
}
