pub returns : Rattle.session_laws.proofs.laws.what_is_printed_runs.Goals.returns
returns c = Rattle.session_laws.proofs.Headline.Printed.what_is_printed_runs
