use Rattle.std.proofs.Common.{sym}
use Rattle.byte_strings.proofs.Divided.{fields_none, fields_some}
use Rattle.byte_strings.proofs.fields.first_field.Goals as goal

pub returns-in-Some-clause-fields : goal.returns-in-Some-clause-fields
returns-in-Some-clause-fields c = fields_some c.args.byte c.args.text.now _ _ (sym c.in-Some.ensures.parts)

pub returns-in-None-clause-fields : goal.returns-in-None-clause-fields
returns-in-None-clause-fields c = fields_none c.args.byte _ (sym c.in-None.ensures.parts)
