use Rattle.image.proofs.Maps.{bytes_are_there, bytes_lie}

pub returns : Rattle.image.proofs.laws.bytes_lie_from_first.Goals.returns
returns c = record { one = bytes_lie; each = bytes_are_there }
