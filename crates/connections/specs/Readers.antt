-- What a look does to the bytes of a reader, and how a wire begins.
use Rattle.std.specs.Prelude.{◌≡◌, ℕ, List, [], take, Option, Result, Ok, Err}
use Rattle.std.specs.Io.KnownBytes.{Consumes, Keeps, IsAtEnd}
use Rattle.wires.specs.Wires.{Line}
use Rattle.wires.specs.declared.wire.Received.{Received}
use Rattle.wires.specs.declared.wire.Received.TheVariants.{Bytes, Nothing, End}
use Rattle.wires.specs.declared.wire.WireFault.{WireFault}

-- A look takes bytes out of those that are left, or it leaves them as they were.
abbrev pub LooksInto : Option (List ℕ) → Option (List ℕ) → Result Received WireFault → List ℕ → Type 0
LooksInto old new (Ok (Bytes n)) room = Consumes old new (take n room)
LooksInto old new (Ok Nothing) room = Keeps old new
LooksInto old new (Ok End) room = Consumes old new [] × IsAtEnd new
LooksInto old new (Err fault) room = Keeps old new

-- A wire begins with what its reader gives and its writer has, and with nothing counted.
pub record Begins (line : Line) (remaining contents : Option (List ℕ)) : Type 0 where
  pub remaining_is : line.remaining ≡ remaining
  pub contents_is : line.contents ≡ contents
  pub faults_is : line.faults ≡ 0
  pub idle_is : line.idle ≡ 0
  pub waits_is : line.waits ≡ 0
