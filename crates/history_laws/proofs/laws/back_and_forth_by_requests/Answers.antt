use Rattle.history_laws.proofs.ByRequests.{prints_again, there_and_back}

pub returns : Rattle.history_laws.proofs.laws.back_and_forth_by_requests.Goals.returns
returns c = record { machine = there_and_back; printed = prints_again }
