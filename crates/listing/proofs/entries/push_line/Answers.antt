use Rattle.std.proofs.Common.{[], ◌∷◌, string_bytes}
use Rattle.rv32i.specs.Texts.{eight_digits}
use Rattle.listing.proofs.Listed.{six_parts}

pub returns : Rattle.listing.proofs.entries.push_line.Goals.returns
unfolding lib.Utf8.encode
returns c =
    six_parts (string_bytes c.args.lines.now) (eight_digits c.args.address) (32 ∷ []) (eight_digits c.args.word) (32 ∷ []) c.args.text.now
    (10 ∷ []) (string_bytes c.push_digits.new.text) (string_bytes c.push.new.self) (string_bytes c.push_digits-2.new.text)
    (string_bytes c.push-2.new.self) (string_bytes c.push_str.new.self)
    (string_bytes c.push-3.new.self) c.in_ok-push_digits.ensures.ok c.in_ok-push.ensures.bytes c.in_ok-push_digits-2.ensures.ok c.in_ok-push-2.ensures.bytes c.in_ok-push_str.ensures.bytes c.in_ok-push-3.ensures.bytes
