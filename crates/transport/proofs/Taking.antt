-- What is due is taken.
use Rattle.transport.proofs.Common.{arith, Bool, due, IsOk, length, List, MayCome, nat_tests, None, Option, outcome, Recv, Send, Sent, Turn, ℕ, ◌<◌, ◌≡◌, ◌≤◌, ◌⊎◌}
use Rattle.session.specs.Acts.{Seen}

-- where bytes are to be sent, some wait
pub some_wait : (seen : Seen) → due seen ≡ Send → 0 < seen.waits
some_wait seen d = grind (arith, nat_tests)

-- bytes that wait are sent
pub takes_sent : (seen : Seen) (n : ℕ) → n ≤ seen.waits → (seen.now.link ≡ None) ⊎ IsOk (outcome seen (Sent n)).answer
takes_sent seen n few = grind (arith, nat_tests)

-- a request that waits is answered, or what is owed is told
pub takes_turn : (seen : Seen) (file : Option (List ℕ)) → (seen.now.link ≡ None) ⊎ IsOk (outcome seen (Turn file)).answer
takes_turn seen file = grind (arith, nat_tests)

-- a piece is received where nothing waits, so the session takes it
pub takes_piece : (polls : Bool) (seen : Seen) (piece : List ℕ) → MayCome polls (due seen) → length piece ≤ 65536
    → (seen.now.link ≡ None) ⊎ IsOk (outcome seen (Recv piece)).answer
takes_piece polls seen piece may few = grind (arith, nat_tests)
