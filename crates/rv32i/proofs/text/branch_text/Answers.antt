use Rattle.std.proofs.Common.{◌∙◌}
use Rattle.rv32i.proofs.Texts.{joined_three}

pub returns : Rattle.rv32i.proofs.text.branch_text.Goals.returns
returns c =
    joined_three c.args.mnemonic.now c.name.result.now c.name-2.result.now c.as_str.result.now _ _ _ _ c.in_ok-text.ensures c.name.ensures c.name-2.ensures (c.as_str.ensures.value ∙ c.in_ok-target.ensures)
