-- References: the ids of frames and of the scopes of their variables (DAP specification, "Lifetime of Objects
-- References").
--
-- Their numbers are those of `variables`: they rise from 1 for as long as the server lives, and one of an earlier stop is
-- stale. A stop ends for them where the program continues, where it is loaded anew, and where an editor leaves or its
-- connection ends. So a reference is good in the stop and on the connection on which it was issued, and nowhere else.
--
-- What is kept is the numbers of the stop that lasts. They represent all references that were ever issued, each
-- with the stop and the connection.
use Rattle.std.specs.Prelude.{ℕ, ◌+◌, List, [], ◌∷◌, map, Option, Some, None}
use Rattle.variables.specs.Laws.{Call}
use Rattle.variables.specs.Laws.Call.{Issue, EndStop}
use Rattle.variables.specs.Numbers.{Numbers, at_next_stop, with_targets}
use Rattle.variables.specs.References.{Issued, Past, next_number, number_of}
use Rattle.variables.specs.declared.target.Target.{Target}

-- ---- the numbers that are kept

-- no number was issued yet
abbrev pub no_numbers : ℕ → Numbers
no_numbers last = record { first = 1; targets = []; last = last }

-- references are issued, or the stop ends, or nothing becomes of them
abbrev pub referred : Option Call → Numbers → Numbers
referred None numbers = numbers
referred (Some (Issue targets)) numbers = with_targets numbers targets
referred (Some EndStop) numbers = at_next_stop numbers

-- ---- all that was ever issued

-- a reference: its number, what it refers to, and the stop and the connection in which it was issued
pub record Reference : Type 0 where
  pub number : ℕ
  pub target : Target
  pub stop : ℕ
  pub connection : ℕ

-- which stop it is now, and all references that were ever issued, the newest first
pub record References : Type 0 where
  pub stop : ℕ
  pub issued : List Reference

-- none was issued yet
abbrev pub no_references : References
no_references = record { stop = 0; issued = [] }

-- a reference, without the connection that it was issued on
abbrev pub without_connection : Reference → Issued
without_connection r = record { number = r.number; target = r.target; stop = r.stop }

abbrev pub past_of : References → Past
past_of all = record { stop = all.stop; issued = map without_connection all.issued }

-- a target that has no number in this stop gets the next one, on this connection
abbrev pub unless_issued : Option ℕ → ℕ → References → Target → References
unless_issued (Some number) connection all target = all
unless_issued None connection all target = record all {
  issued = record {
    number = next_number (past_of all);
    target = target;
    stop = all.stop;
    connection = connection;
  } ∷ all.issued;
}

abbrev pub issued_one : ℕ → References → Target → References
issued_one connection all target = unless_issued (number_of (past_of all) target) connection all target

-- these targets, one after the other
abbrev pub issued_all : ℕ → References → List Target → References
issued_all connection all [] = all
issued_all connection all (target ∷ others) = issued_all connection (issued_one connection all target) others

-- the stop ends
abbrev pub ended : References → References
ended all = record all { stop = all.stop + 1 }

abbrev pub past_referred : ℕ → Option Call → References → References
past_referred connection None all = all
past_referred connection (Some (Issue targets)) all = issued_all connection all targets
past_referred connection (Some EndStop) all = ended all
