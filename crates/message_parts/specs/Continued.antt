-- The body of the event `continued`: every thread continues (DAP specification, `ContinuedEvent`). There is one, the
-- hart, whose number is 1.
use Rattle.std.specs.Prelude.{true, codes}
use Rattle.serde_json.specs.Data.{Data, boolean, number, unsigned, object, no_members, member}

abbrev pub continued_body : Data
continued_body =
    object (member (codes "allThreadsContinued") (boolean true)
    (member (codes "threadId") (number (unsigned 1)) no_members))
