-- The body that answers `threads`: which threads there are.
--
-- The machine has one hardware thread, a hart. Its id is 1 and its name is `hart 0` (DAP specification,
-- `ThreadsResponse`).
use Rattle.std.specs.Prelude.{codes}
use Rattle.serde_json.specs.Data.{Data, number, unsigned, string, array, object, no_items, item, no_members, member}

-- the one thread
abbrev pub hart : Data
hart = object (member (codes "id") (number (unsigned 1)) (member (codes "name") (string (codes "hart 0")) no_members))

-- the body
abbrev pub threads_body : Data
threads_body = object (member (codes "threads") (array (item hart no_items)) no_members)
