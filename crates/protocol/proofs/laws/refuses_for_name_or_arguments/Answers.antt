use Rattle.std.proofs.Common.{subst}
use Rattle.protocol.proofs.Meanings.{IsSound, incoming_of-sound}

pub returns : Rattle.protocol.proofs.laws.refuses_for_name_or_arguments.Goals.returns
returns c = λ body seq name refusal is. (subst IsSound is (incoming_of-sound body)).1
