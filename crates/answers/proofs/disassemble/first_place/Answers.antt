use Rattle.answers.proofs.Common.{arith, ints}

pub returns-clause-place : Rattle.answers.proofs.disassemble.first_place.Goals.returns-clause-place
returns-clause-place c =
    omega (arith, ints, c.from.ensures, c.from-2.ensures, c.from-3.ensures, c.ranges.reference.fits, c.ranges.offset.sfits, c.ranges.instructions.sfits)
