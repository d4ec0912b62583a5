use Rattle.message_parts.proofs.Common.{ap, arith, ints, signed_decimal, subst, to_z-of_z, ◌∙◌, ◌≡◌}
use mir.Syntax.{w32, w64}
use mir.Val.{SFits, of_z, to_z}
use Rattle.json.specs.Token.{number as digits}
use Rattle.json.specs.Written.{Writes}
use Rattle.message_parts.proofs.Appending.{IsWritten-signed}

pub returns : Rattle.requests.proofs.entry.write_integer.Goals.returns
returns c =
    let fits : SFits w32 c.args.number = c.ranges.number in
    let wide : SFits w64 c.args.number = omega (arith, ints, fits) in
    let is : c.from.result ≡ c.args.number = c.from.ensures ∙ to_z-of_z w32 c.args.number fits in
    let passed : to_z w64 (of_z w64 c.from.result) ≡ c.args.number = ap (λ y. to_z w64 (of_z w64 y)) is ∙ to_z-of_z w64 c.args.number wide in
    IsWritten-signed c.args.number fits c.i64.result
    (subst (λ x. Writes c.i64.result c.args.out.now c.i64.new.self (digits (signed_decimal x))) passed c.i64.ensures)
