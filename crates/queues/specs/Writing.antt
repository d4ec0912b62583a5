-- A message as it is written (base protocol, "Content Part"; `ProtocolMessage.seq`).
use Rattle.std.specs.Prelude.{ℕ, List}
use Rattle.framing.specs.Frames.{minimal_frame}
use Rattle.replies.specs.declared.message.Message.{Message}
use Rattle.replies.specs.Messages.{text_of}

-- the frame of a message with its number
unfoldable pub frame_of : ℕ → Message → List ℕ
frame_of seq message = minimal_frame (text_of seq message)
