use Rattle.replies.specs.Messages.{text_of}
use Rattle.replies.proofs.Finding.{reading_of-message_data}
use Rattle.replies.proofs.Values.{json_of-text_of}
use Rattle.replies.proofs.laws.written_is_read.Goals as goal

pub returns-clause-value : goal.returns-clause-value
returns-clause-value c = json_of-text_of

pub returns-clause-message : goal.returns-clause-message
returns-clause-message c =
    λ seq message in_range proper texts. reading_of-message_data (text_of seq message) seq message in_range proper
    (json_of-text_of seq message in_range proper texts)
