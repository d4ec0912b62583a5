use Rattle.variables.proofs.Calls.{issued_are_found, numbers_stay}
use Rattle.variables.proofs.laws.issued_are_found.Goals as goal

pub returns-clause-found : goal.returns-clause-found
returns-clause-found c = issued_are_found

pub returns-clause-stay : goal.returns-clause-stay
returns-clause-stay c = numbers_stay
