use Rattle.std.proofs.Common.{subst}
use Rattle.protocol.proofs.Meanings.{IsSound, incoming_of-sound}
use Rattle.protocol.proofs.laws.numbers_within_seq.Goals as goal

pub returns-clause-requests : goal.returns-clause-requests
returns-clause-requests c = λ body request is. (subst IsSound is (incoming_of-sound body)).0

pub returns-clause-refused : goal.returns-clause-refused
returns-clause-refused c = λ body seq name refusal is. (subst IsSound is (incoming_of-sound body)).0
