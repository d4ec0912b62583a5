-- What a wire does: bytes come over it and are sent over it, a look for bytes finds none, and a call fails.
--
-- A wire may say which bytes it has left to give, and which it has taken (`Rattle.std.specs.Io.KnownBytes`); where it
-- does not say so, nothing is claimed of them. It counts the calls that failed, the looks that found nothing, and the waits
-- for bytes. A count that has reached its last value stays there, and a fault at that value counts as growth.
use Rattle.std.specs.Prelude.{◌≡◌, ℕ, ◌+◌, ◌<◌, ◌≤◌, nat_lt, Bool, if◌then◌else◌, List, [], length, take, Option, Result, Ok, Err}
use Rattle.std.specs.Io.KnownBytes.{Consumes, Appends, IsAtEnd}
use Rattle.wires.specs.declared.wire.Received.{Received}
use Rattle.wires.specs.declared.wire.Received.TheVariants.{Bytes, Nothing, End}
use Rattle.wires.specs.declared.wire.WireFault.{WireFault}

-- a wire, as it is seen: the bytes that it has left to give and those that it took, where they are known, how many calls
-- failed, how many looks found nothing, how many waits for bytes there were, and whether it can be looked at without waiting
pub record Line : Type 0 where
  pub remaining : Option (List ℕ)
  pub contents : Option (List ℕ)
  pub faults : ℕ
  pub idle : ℕ
  pub waits : ℕ
  pub polls : Bool

-- the last value of a count
abbrev pub last_count : ℕ
last_count = 18446744073709551615

-- a count that grows by one
abbrev pub one_more : ℕ → ℕ
one_more n = if nat_lt n last_count then n + 1 else n

-- Bytes were read and bytes were written, and the counts are these.
pub record Moved (old new : Line) (read written : List ℕ) (failed idled : ℕ) : Type 0 where
  pub consumed : Consumes old.remaining new.remaining read
  pub appended : Appends old.contents new.contents written
  pub faults : new.faults ≡ failed
  pub idle : new.idle ≡ idled
  pub polls : new.polls ≡ old.polls

-- nothing moved, and nothing was counted
abbrev pub Still : Line → Line → Type 0
Still old new = Moved old new [] [] old.faults old.idle

-- a call failed, after a part of these bytes was written
abbrev pub Failed : Line → Line → List ℕ → Type 0
Failed old new part = Moved old new [] part (one_more old.faults) old.idle

-- these bytes were read
abbrev pub Gave : Line → Line → List ℕ → Type 0
Gave old new read = Moved old new read [] old.faults old.idle

-- these bytes were written
abbrev pub Took : Line → Line → List ℕ → Type 0
Took old new written = Moved old new [] written old.faults old.idle

-- A look for bytes, into a room: it gives some, or it finds none and this is counted, or no more will come.
abbrev pub Looks : Line → Line → Result Received WireFault → List ℕ → Type 0
Looks old new (Ok (Bytes n)) room = Gave old new (take n room)
Looks old new (Ok Nothing) room = Moved old new [] [] old.faults (one_more old.idle)
Looks old new (Ok End) room = Still old new × IsAtEnd new.remaining
Looks old new (Err fault) room = Failed old new []

-- A wait for bytes: it gives some, or none where no more will come.
abbrev pub Waits : Line → Line → Result ℕ WireFault → List ℕ → Type 0
Waits old new (Ok n) room = Gave old new (take n room) × (n ≡ 0 → 0 < length room → IsAtEnd new.remaining)
Waits old new (Err fault) room = Failed old new []

-- A piece is sent: a prefix of it was taken, and some prefix also where the call failed.
abbrev pub Sends : Line → Line → Result ℕ WireFault → List ℕ → Type 0
Sends old new (Ok n) piece = Took old new (take n piece)
Sends old new (Err fault) piece = (n : ℕ) × Failed old new (take n piece)

-- what a look gives fits the room, and is at least one byte where there is room for one
abbrev pub IsWithin : Result Received WireFault → List ℕ → Type 0
IsWithin (Ok (Bytes n)) room = (n ≤ length room) × (0 < length room → 1 ≤ n)
IsWithin (Ok Nothing) room = Unit {0}
IsWithin (Ok End) room = Unit {0}
IsWithin (Err fault) room = Unit {0}
