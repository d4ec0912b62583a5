use Rattle.diagnostics.proofs.Common.{ap, length, map, option_map, refl, sym, ◌-◌, ◌∙◌}
use Rattle.std.proofs.lemmas.Option.{slice_get-map, slice_get_past, slice_get_read}
use Rattle.diagnostics.proofs.Lines.{numbered_at}
use Rattle.diagnostics.proofs.line_numbers.numbered.Goals as goal

pub returns-in-Some : goal.returns-in-Some
returns-in-Some c =
    let h = c.in-Some.ensures.lookup in
    let texts = c.args.texts.now in
    let index = c.args.number - 1 in
    ap (option_map (λ t. t.now)) (sym (slice_get_read texts (length texts) index c.in-Some.text.now refl h.3.0 h.1))
    ∙ sym (slice_get-map (λ t. t.now) texts index) ∙ sym (numbered_at (map (λ t. t.now) texts) c.args.number c.if-number-eq0.false)

pub returns-in-None : goal.returns-in-None
returns-in-None c =
    let h = c.in-None.ensures.lookup in
    let texts = c.args.texts.now in
    let index = c.args.number - 1 in
    ap (option_map (λ t. t.now)) (sym (slice_get_past texts index h.3))
    ∙ sym (slice_get-map (λ t. t.now) texts index) ∙ sym (numbered_at (map (λ t. t.now) texts) c.args.number c.if-number-eq0.false)
