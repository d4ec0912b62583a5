-- What waits to be written (base protocol, "Content Part"; `ProtocolMessage.seq`).
--
-- A message is sent as a frame, with a number one above that of the message before it. What waits is frames and, after
-- a write that took a part, the rest of one.
use Rattle.std.specs.Prelude.{◌≡◌, ℕ, refl, List}
use Rattle.protocol.specs.declared.properties.TheConstants.{LAST_SEQ}

-- how many messages there were, and the bytes that still wait
pub record Queued : Type 0 where
  pub count : ℕ
  pub waiting : List ℕ

-- the greatest number of a message
greatest_number : LAST_SEQ ≡ 2147483647
greatest_number = refl
