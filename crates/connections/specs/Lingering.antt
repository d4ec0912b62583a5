-- How a connection ends that is to lose nothing of what was sent.
--
-- RFC 9293, section 3.6.1: where a socket is closed while bytes of the peer are unread, or where bytes come after that, the
-- connection is reset, and what was still to be sent is lost. So first nothing more is sent, which tells the peer the end, and what the
-- peer still sends is read and dropped. A peer can send for ever, or leave the connection open: so there is a bound to both.
use Rattle.std.specs.Prelude.{◌≡◌, ℕ, ◌+◌, ◌≤◌, nat_lt, Bool, true, false, List, length, Option, Result, Ok, Err, IsErr}
use Rattle.std.specs.Io.KnownBytes.{Consumes}
use Rattle.wires.specs.declared.wire.Received.{Received}
use Rattle.wires.specs.declared.wire.Received.TheVariants.{Bytes, Nothing, End}
use Rattle.wires.specs.declared.wire.WireFault.{WireFault}
use Rattle.connections.specs.declared.lingering.Finished.{Finished}
use Rattle.connections.specs.declared.lingering.Next.{Next}
use Rattle.connections.specs.declared.lingering.Next.TheVariants.{Look, Wait}

-- how many pieces are dropped before the last one
abbrev pub most_pieces : ℕ
most_pieces = 4096

-- how often it is waited for one
abbrev pub most_waits : ℕ
most_waits = 1000

-- what is next, where there may be more
abbrev pub IsNextIf : Bool → Next → Result Next Finished → Type 0
IsNextIf true next result = result ≡ Ok next
IsNextIf false next result = IsErr result

-- What is next after these numbers of pieces and waits, and a look: after a piece another look, where nothing came a wait, and else the
-- end. It is the end too where the number of pieces or waits is at its limit.
abbrev pub IsNext : ℕ → ℕ → Result Received WireFault → Result Next Finished → Type 0
IsNext pieces waits (Ok (Bytes n)) result = IsNextIf (nat_lt pieces most_pieces) Look result
IsNext pieces waits (Ok Nothing) result = IsNextIf (nat_lt waits most_waits) Wait result
IsNext pieces waits (Ok End) result = IsErr result
IsNext pieces waits (Err fault) result = IsErr result

-- how many pieces there were then
abbrev pub pieces_after : ℕ → Result Next Finished → ℕ
pieces_after pieces (Ok Look) = pieces + 1
pieces_after pieces (Ok Wait) = pieces
pieces_after pieces (Err finished) = pieces

-- how many waits
abbrev pub waits_after : ℕ → Result Next Finished → ℕ
waits_after waits (Ok Look) = waits
waits_after waits (Ok Wait) = waits + 1
waits_after waits (Err finished) = waits

-- A reader lost its next bytes, at most `most` of them.
pub record Dropped (old new : Option (List ℕ)) (most : ℕ) : Type 0 where
  pub bytes : List ℕ
  pub consumed : Consumes old new bytes
  pub few : length bytes ≤ most
