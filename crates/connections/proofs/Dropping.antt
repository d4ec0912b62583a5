-- What is dropped of a connection's rest, look by look.
use Rattle.std.proofs.Common.{◌≡◌, ℕ, ◌+◌, ◌*◌, ◌<◌, ◌≤◌, nat_lt, Bool, true, false, List, [], ◌++◌, length, take, Option, Result, Ok, Err, refl, arith, rules, length-append}
use Rattle.std.proofs.Math.Nat.{mul-le-mul_left}
use Rattle.std.proofs.KnownBytes.{Consumes-nil, Consumes-trans, Consumes-kept}
use Rattle.std.proofs.lemmas.List.{length-take}
use Rattle.wires.specs.declared.wire.Received.{Received}
use Rattle.wires.specs.declared.wire.Received.TheVariants.{Bytes, Nothing, End}
use Rattle.wires.specs.declared.wire.WireFault.{WireFault}
use Rattle.connections.specs.Lingering.{most_pieces, most_waits, IsNext, IsNextIf, Dropped}
use Rattle.connections.specs.Readers.{LooksInto}
use Rattle.connections.specs.declared.lingering.Next.{Next}
use Rattle.connections.specs.declared.lingering.Next.TheVariants.{Look, Wait}

-- nothing was dropped yet
pub none_dropped : (old : Option (List ℕ)) (most : ℕ) → Dropped old old most
none_dropped old most = record { bytes = []; consumed = Consumes-nil old; few = omega arith }

-- a look drops one piece more
pub piece_dropped : (first old new : Option (List ℕ)) (most : ℕ) (found : Result Received WireFault) (room : List ℕ)
    → Dropped first old most
    → LooksInto old new found room → Dropped first new (most + length room)
piece_dropped first old new most (Ok (Bytes n)) room before looked = record {
  bytes = before.bytes ++ take n room;
  consumed = Consumes-trans first old new before.bytes (take n room) before.consumed looked;
  few = let few = before.few in
      let piece = length-take n room in
      let all = length-append before.bytes (take n room) in
      omega (arith, few, piece, all);
}
piece_dropped first old new most (Ok Nothing) room before looked = record {
  bytes = before.bytes;
  consumed = Consumes-kept first old new before.bytes before.consumed looked;
  few = let few = before.few in omega (arith, few);
}
piece_dropped first old new most (Ok End) room before looked = record {
  bytes = before.bytes ++ [];
  consumed = Consumes-trans first old new before.bytes [] before.consumed looked.0;
  few = let few = before.few in
      let all = length-append before.bytes [] in
      omega (arith, few, all);
}
piece_dropped first old new most (Err fault) room before looked = record {
  bytes = before.bytes;
  consumed = Consumes-kept first old new before.bytes before.consumed looked;
  few = let few = before.few in omega (arith, few);
}

-- what is next where a test says so
next_test : (b : Bool) (next result : Next) → IsNextIf b next (Ok result) → (b ≡ true) × (result ≡ next)
next_test true next result is = (refl, cc)
next_test false next result is = cc

-- where there is to be another look, there were not as many pieces as there may be
pub looks_on : (pieces waits : ℕ) (found : Result Received WireFault) → IsNext pieces waits found (Ok Look) → pieces < most_pieces
looks_on pieces waits (Ok (Bytes n)) next =
    let test = (next_test (nat_lt pieces most_pieces) Look Look next).0 in
    search (rules, test)
looks_on pieces waits (Ok Nothing) next =
    let test : Look ≡ Wait = (next_test (nat_lt waits most_waits) Wait Look next).1 in
    cc
looks_on pieces waits (Ok End) next = cc
looks_on pieces waits (Err fault) next = cc

-- one piece more, `now` of them in all
pub next_dropped : (first old new : Option (List ℕ)) (before now size : ℕ) (found : Result Received WireFault) (room : List ℕ)
    → now ≡ before + 1
    → length room ≡ size → Dropped first old (before * size) → LooksInto old new found room → Dropped first new (now * size)
next_dropped first old new before now size found room more long dropped looked =
    let next = piece_dropped first old new (before * size) found room dropped looked in
    record {
      bytes = next.bytes;
      consumed = next.consumed;
      few = let few = next.few in
          let sum : before * size + length room ≡ now * size = rw (more, long) (omega arith) in
          omega (arith, few, sum);
    }

-- as many pieces as there may be, and a last one
pub rest_dropped : (first old new : Option (List ℕ)) (pieces size : ℕ) (found : Result Received WireFault) (room : List ℕ)
    → pieces ≤ most_pieces
    → length room ≡ size → Dropped first old (pieces * size) → LooksInto old new found room → Dropped first new ((most_pieces + 1) * size)
rest_dropped first old new pieces size found room within long dropped looked =
    let last = piece_dropped first old new (pieces * size) found room dropped looked in
    record {
      bytes = last.bytes;
      consumed = last.consumed;
      few = let few = last.few in
          let more : size * pieces ≤ size * most_pieces = mul-le-mul_left size within in
          omega (arith, few, more, long);
    }
