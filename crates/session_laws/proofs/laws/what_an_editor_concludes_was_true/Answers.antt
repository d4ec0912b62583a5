use Rattle.session_laws.proofs.Headline.Mirrored.{mirrors_hold}
use Rattle.session_laws.proofs.Headline.Referring.{references_were_good}
use Rattle.session_laws.proofs.Messages.Readable.{messages_are_readable}
use Rattle.session_laws.proofs.laws.what_an_editor_concludes_was_true.Goals as goal

pub returns-clause-facts : goal.returns-clause-facts
returns-clause-facts c = λ from events path. mirrors_hold from events (messages_are_readable from events path)

pub returns-clause-references : goal.returns-clause-references
returns-clause-references c = references_were_good
