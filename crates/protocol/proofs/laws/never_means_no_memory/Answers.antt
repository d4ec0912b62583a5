use Rattle.std.proofs.Common.{subst}
use Rattle.protocol.proofs.Meanings.{IsSound, incoming_of-sound}

pub returns : Rattle.protocol.proofs.laws.never_means_no_memory.Goals.returns
returns c = λ body is. subst IsSound is (incoming_of-sound body)
