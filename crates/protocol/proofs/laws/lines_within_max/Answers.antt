use Rattle.std.proofs.Common.{subst}
use Rattle.protocol.proofs.Meanings.{IsSound, incoming_of-sound}

pub returns : Rattle.protocol.proofs.laws.lines_within_max.Goals.returns
returns c = λ body request is. (subst IsSound is (incoming_of-sound body)).1
