use Rattle.breakpoints.proofs.Common.{sym, true≢false, ◌∙◌}
use Rattle.std.proofs.lemmas.Slice.Eq.{bytes_eq-Decides}
use Rattle.breakpoints.proofs.Words.{word_or_not}

pub returns : Rattle.breakpoints.proofs.lexing.word_in.Goals.returns
returns c =
    let bytes = c.args.bytes.now in
    word_or_not bytes c.register_in.result c.requires
    (λ e. absurd (true≢false
    (sym ((bytes_eq-Decides bytes c.as_slice.result.now).1 (e ∙ sym c.as_slice.ensures)) ∙ sym c.eq.ensures ∙ c.if-eq.false)))
    (λ n h. c.in_default.not-Ok n (c.magnitude.ensures ∙ h)) c.register_in.ensures.names c.register_in.ensures.none
