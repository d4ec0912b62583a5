-- The body that answers `continue`: every thread continues (DAP specification, `ContinueResponse`). There is one.
use Rattle.std.specs.Prelude.{true, codes}
use Rattle.serde_json.specs.Data.{Data, boolean, object, no_members, member}

abbrev pub continue_body : Data
continue_body = object (member (codes "allThreadsContinued") (boolean true) no_members)
