use Rattle.statements.proofs.Common.{ap, are_operands, meaning, mnemonic_of, None, OrNoMemory, refl, said, said_by, Some, subst, sym, true, ◌∙◌, ◌≡◌}
use Rattle.statements.proofs.Said.{said_named}
use Rattle.statements.proofs.reading.said.Goals as goal

pub returns-in-Some-mnemonic_of : goal.returns-in-Some-mnemonic_of
returns-in-Some-mnemonic_of c =
    let all : are_operands c.args.text.now ≡ true = c.in-Some-operands_in.ensures.blank.0 refl in
    let found : mnemonic_of c.in-Some.name ≡ Some c.in-Some-mnemonic_of.mnemonic = ap mnemonic_of (sym c.as_str.ensures)
    ∙ sym c.mnemonic_of.ensures ∙ c.in-Some-mnemonic_of.is in
    let same : said c.args.mnemonic.now c.args.text.now
    ≡ meaning c.in-Some-mnemonic_of.mnemonic c.in-Some-operands_in.operands c.args.text.now =
    said_named c.args.mnemonic.now c.in-Some.name c.args.text.now c.in-Some.ensures all ∙ ap (λ w. said_by w c.args.text.now) found
    ∙ ap (λ o. meaning c.in-Some-mnemonic_of.mnemonic o c.args.text.now) (sym c.in-Some-operands_in.ensures.some) in
    subst (λ s. OrNoMemory c.meaning.result s) (sym same) c.meaning.ensures

pub returns-in-None : goal.returns-in-None
returns-in-None c =
    let all : are_operands c.args.text.now ≡ true = c.in-Some-operands_in.ensures.blank.0 refl in
    let found : mnemonic_of c.in-Some.name ≡ None = ap mnemonic_of (sym c.as_str.ensures) ∙ sym c.mnemonic_of.ensures ∙ c.in-None.is in
    said_named c.args.mnemonic.now c.in-Some.name c.args.text.now c.in-Some.ensures all ∙ ap (λ w. said_by w c.args.text.now) found
