use Rattle.byte_strings.proofs.Divided.{searched}
use Rattle.byte_strings.proofs.fields.index_of.Goals as goal

pub returns : goal.returns
returns c = searched c.args.byte c.args.text.now c.memchr.result c.memchr.ensures
