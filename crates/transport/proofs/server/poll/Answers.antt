use Rattle.std.proofs.Common.{arith}
use Rattle.transport.proofs.ServerLemmas.{gives, listens_on, ends_reading, read_fails, reads_too_often}
use Rattle.transport.proofs.server.poll.Goals as goal

pub returns-in-Ok-Some-clause-polls : goal.returns-in-Ok-Some-clause-polls
returns-in-Ok-Some-clause-polls g c heard s =
    gives (λ h. cc) (c.reading.invariant.listens heard s) (rw c.in-Ok-Some.field-0-is at c.in-Ok-Some.ensures.polled)

pub returns-in-Err-clause-polls : goal.returns-in-Err-clause-polls
returns-in-Err-clause-polls g c heard s = gives (λ h. cc) (c.reading.invariant.listens heard s) c.in-Err.ensures.polled

pub returns-in-Ok-false-clause-polls : goal.returns-in-Ok-false-clause-polls
returns-in-Ok-false-clause-polls g c heard s =
    ends_reading (c.reading.invariant.listens heard s) (rw c.in-Ok-None.field-0-is at c.in-Ok-None.ensures.polled)
    (rw c.in-Ok-false.field-0-test at c.in-Ok-false.ensures.reads)

pub returns-in-Err-read-clause-polls : goal.returns-in-Err-read-clause-polls
returns-in-Err-read-clause-polls g c heard s =
    read_fails (c.reading.invariant.listens heard s) (rw c.in-Ok-None.field-0-is at c.in-Ok-None.ensures.polled)
    c.in-Err-read.error c.in-Err-read.ensures.reads

pub reading-preserved : goal.reading-preserved
reading-preserved g c = record {
  few = omega (arith, c.in-Ok-true.ensures.counts, c.reading-test.true);
  listens =
      λ heard s. listens_on (c.reading.invariant.listens heard s) (rw c.in-Ok-None.field-0-is at c.in-Ok-None.ensures.polled)
      (rw c.in-Ok-true.field-0-test at c.in-Ok-true.ensures.reads);
}

pub returns-in-Ok-Some-next-clause-polls : goal.returns-in-Ok-Some-next-clause-polls
returns-in-Ok-Some-next-clause-polls g c heard s =
    gives (λ h. cc) (c.reading.invariant.listens heard s) (rw c.in-Ok-Some-next.field-0-is at c.in-Ok-Some-next.ensures.polled)

pub returns-in-Ok-None-next-clause-polls : goal.returns-in-Ok-None-next-clause-polls
returns-in-Ok-None-next-clause-polls g c heard s =
    reads_too_often (c.reading.invariant.listens heard s) (rw c.in-Ok-None-next.field-0-is at c.in-Ok-None-next.ensures.polled)

pub returns-in-Err-next-clause-polls : goal.returns-in-Err-next-clause-polls
returns-in-Err-next-clause-polls g c heard s = gives (λ h. cc) (c.reading.invariant.listens heard s) c.in-Err-next.ensures.polled
