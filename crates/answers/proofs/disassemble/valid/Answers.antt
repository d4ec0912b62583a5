use Rattle.std.proofs.Common.{ℕ, List, ap, ◌∙◌, string_bytes}
use Rattle.message_parts.specs.declared.disassemble.Instruction.TheVariants.{Valid}
use Rattle.rv32i.proofs.OneText.{one_text}
use Rattle.answers.specs.Texts.{text_at, text_at-is}

pub returns : Rattle.answers.proofs.disassemble.valid.Goals.returns
returns c =
    let text = string_bytes c.in_ok-text.text in
    ap (λ (t : List ℕ). Valid c.args.address t c.args.word)
    (c.from_string.ensures.value
    ∙ one_text c.args.word c.args.address text (text_at c.args.word c.args.address) c.in_ok-text.ensures
    (text_at-is c.args.word c.args.address))
