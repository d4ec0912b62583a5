-- What a value is read as is the message that it is, and none where it is none.
use Rattle.replies.proofs.Common.{ap, Bool, cond, Data, false, IsNumber, IsProper, json_of, List, Message, message_data, None, Ok, Option, refl, Some, sym, true, ℕ, ◌∙◌, ◌≡◌}
use Rattle.protocol.specs.declared.request.MessageError.TheVariants.{NotAMessage}
use Rattle.std.specs.Option.{ok_or}
use Rattle.replies.specs.Claims.{kept_if, claim_in}
use Rattle.replies.specs.Reading.{IsMessage, ReadsAs, message_in, reading_in, reading_of}
use Rattle.replies.proofs.Claiming.{claim_in-message_data, claim_in-proper}
use Rattle.replies.proofs.Sameness.{same_from, same_itself}
use Rattle.replies.proofs.Values.{has_float-message_data}

-- a value that is a message is found to be it
pub message_in-IsMessage : (value : Data) (seq : ℕ) (message : Message) → IsMessage value seq message
    → message_in value ≡ Some (seq, message)
message_in-IsMessage value seq message h =
    rw (h.2, claim_in-message_data seq message h.0 h.1, same_itself (message_data seq message) (has_float-message_data seq message)) refl

kept_at : {A : Type 0} (test : A → Bool) (b a : A) (t : Bool) → test b ≡ t → cond t (Some b) None ≡ Some a
    → (Some b ≡ Some a) × (test a ≡ true)
kept_at test b a true is e = let same : b ≡ a = cc in (e, ap test (sym same) ∙ is)
kept_at test b a false is e = absurd cc

kept : {A : Type 0} (test : A → Bool) (o : Option A) (a : A) → kept_if test o ≡ Some a → (o ≡ Some a) × (test a ≡ true)
kept test None a e = absurd cc
kept test (Some b) a e = kept_at test b a (test b) refl e

-- what is found is a message
pub IsMessage-message_in : (value : Data) (seq : ℕ) (message : Message) → message_in value ≡ Some (seq, message)
    → IsMessage value seq message
IsMessage-message_in value seq message e =
    let h = kept _ (claim_in value) (seq, message) e in
    let proper = claim_in-proper value seq message h.0 in
    (proper.0, proper.1, same_from value (message_data seq message) h.1)

-- ---- bytes

pub reading_of-value : (bytes : List ℕ) (value : Data) (found : Option (ℕ × Message)) → json_of bytes ≡ Some value
    → message_in value ≡ found → reading_of bytes ≡ ok_or found NotAMessage
reading_of-value bytes value found json e = rw json (ap (λ f. ok_or f NotAMessage) e)

found_at : (bytes : List ℕ) (value : Data) (found : Option (ℕ × Message)) → json_of bytes ≡ Some value → message_in value ≡ found
    → ReadsAs bytes (ok_or found NotAMessage)
found_at bytes value None json e = (
  rw json refl,
  λ seq message number proper other.
      let same : value ≡ message_data seq message = let both = sym json ∙ other in cc in
      let found = message_in-IsMessage value seq message (number, proper, same) in
      absurd (let none : None ≡ Some (seq, message) = sym e ∙ found in cc),
)
found_at bytes value (Some found) json e =
    let h = IsMessage-message_in value found.0 found.1 e in
    (h.0, h.1, json ∙ ap Some h.2)

read_at : (bytes : List ℕ) (o : Option Data) → json_of bytes ≡ o → ReadsAs bytes (reading_in o)
read_at bytes None json = json
read_at bytes (Some value) json = found_at bytes value (message_in value) json refl

-- what is read is right
pub ReadsAs-reading_of : (bytes : List ℕ) → ReadsAs bytes (reading_of bytes)
ReadsAs-reading_of bytes = read_at bytes (json_of bytes) refl

-- a body that is a message is read as it
pub reading_of-message_data : (bytes : List ℕ) (seq : ℕ) (message : Message) → IsNumber seq → IsProper message
    → json_of bytes ≡ Some (message_data seq message) → reading_of bytes ≡ Ok (seq, message)
reading_of-message_data bytes seq message number proper json =
    rw (json, message_in-IsMessage (message_data seq message) seq message (number, proper, refl)) refl

same_parts : (found other : ℕ × Message) → Some found ≡ Some other → (found.0 ≡ other.0) × (found.1 ≡ other.1)
same_parts found other e = let same : found ≡ other = cc in (ap (λ p. p.0) same, ap (λ p. p.1) same)

-- a value is at most one message
pub IsMessage-one : (value : Data) (seq other_seq : ℕ) (message other : Message) → IsMessage value seq message
    → IsMessage value other_seq other → (seq ≡ other_seq) × (message ≡ other)
IsMessage-one value seq other_seq message other h k =
    same_parts (seq, message) (other_seq, other)
    (sym (message_in-IsMessage value seq message h) ∙ message_in-IsMessage value other_seq other k)
