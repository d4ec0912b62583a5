use Rattle.mirror.proofs.Common.{after_variables, register_in, take, ◌≡◌}

-- the variables so far are told
abbrev pub invariant-loop-variable : Rattle.mirror.proofs.registers.Registers.tell.Given.invariant-loop-variable
invariant-loop-variable l = register_in l.self ≡ after_variables (register_in l.initial.self) (take l.variable-index l.variables)
