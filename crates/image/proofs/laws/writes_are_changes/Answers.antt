use Rattle.image.proofs.Maps.{writes_bytes, keeps_below, keeps_above}

pub returns : Rattle.image.proofs.laws.writes_are_changes.Goals.returns
returns c = record { bytes = writes_bytes; below = keeps_below; above = keeps_above }
