-- The message that a body is.
use Rattle.std.proofs.Common.{◌≡◌, ℕ, List, Result, Ok, Err, ◌⊎◌, inl, inr, ap, sym, ◌∙◌}
use Rattle.mirror.specs.Streams.{message_of, without_number}
use Rattle.protocol.specs.declared.request.MessageError.{MessageError}
use Rattle.protocol.specs.declared.request.MessageError.TheVariants.{NoMemory}
use Rattle.replies.specs.Reading.{reading_of}
use Rattle.replies.specs.declared.message.Message.{Message}

pub read_as : (body : List ℕ) (r : Result (ℕ × Message) MessageError) (found : ℕ × Message) → (r ≡ reading_of body) ⊎ (r ≡ Err NoMemory)
    → r ≡ Ok found → message_of body ≡ Ok found.1
read_as body r found (inl exact) is = ap without_number (sym exact ∙ is)
read_as body r found (inr none) is = absurd (let no : (let o : Result (ℕ × Message) MessageError = Ok found in o) ≡ Err NoMemory = sym is ∙ none in cc)
