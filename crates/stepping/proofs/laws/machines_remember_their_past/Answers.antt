use Rattle.stepping.proofs.Remembering.{loaded_remembers, ticks_remember}

pub returns : Rattle.stepping.proofs.laws.machines_remember_their_past.Goals.returns
returns c = record { loaded = loaded_remembers; ticks = ticks_remember }
