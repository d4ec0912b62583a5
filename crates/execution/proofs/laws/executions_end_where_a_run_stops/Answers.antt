pub returns : Rattle.execution.proofs.laws.executions_end_where_a_run_stops.Goals.returns
returns c = Rattle.execution.proofs.Ending.ends_where_a_run_stops
