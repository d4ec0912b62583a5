use Rattle.std.proofs.Common.{◌∙◌}
use Rattle.rv32i.proofs.Texts.{joined_two}

pub returns : Rattle.rv32i.proofs.text.jump_text.Goals.returns
returns c =
    joined_two c.args.mnemonic.now c.name.result.now c.as_str.result.now _ _ _ c.in_ok-text.ensures c.name.ensures
    (c.as_str.ensures.value ∙ c.in_ok-target.ensures)
