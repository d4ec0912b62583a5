use Rattle.range_laws.proofs.Debugging.{loaded_is_in_range, reloaded_is_in_range}

pub returns : Rattle.range_laws.proofs.laws.loaded_is_in_range.Goals.returns
returns c = record { loaded = loaded_is_in_range; anew = reloaded_is_in_range }
