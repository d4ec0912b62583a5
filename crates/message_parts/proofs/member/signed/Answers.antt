use Rattle.message_parts.proofs.Common.{ap, arith, ints, signed_decimal, subst, to_z-of_z, ◌∙◌, ◌≡◌}
use mir.Syntax.{w32, w64}
use mir.Val.{SFits, of_z, to_z}
use Rattle.json.specs.Token.{number as digits}
use Rattle.json.specs.Written.{Writes}
use Rattle.message_parts.proofs.Appending.{member_if_written, IsWritten-signed}

pub returns : Rattle.message_parts.proofs.member.signed.Goals.returns
returns c =
    let fits : SFits w32 c.args.value = c.ranges.value in
    let wide : SFits w64 c.args.value = omega (arith, ints, fits) in
    let is : c.from.result ≡ c.args.value = c.from.ensures ∙ to_z-of_z w32 c.args.value fits in
    let passed : to_z w64 (of_z w64 c.from.result) ≡ c.args.value = ap (λ y. to_z w64 (of_z w64 y)) is ∙ to_z-of_z w64 c.args.value wide in
    member_if_written _ _ c.i64.result c.in_ok-key.ensures
    (IsWritten-signed c.args.value fits c.i64.result
    (subst (λ x. Writes c.i64.result c.key.new.self c.i64.new.self (digits (signed_decimal x))) passed c.i64.ensures))
