use Rattle.assembler.proofs.Common.{content_error, end_of_line, first_address, labels_of, None, places, Reports, Some, subst, sym, ◌∙◌, ◌≡◌}
use Rattle.assembler.proofs.Filling.{filled_all, filled_at, filled_more, filled_within, filled_wrong}
use Rattle.assembler.proofs.Padded.{below, up_to_is}
use Rattle.assembler.proofs.fill.fill.Goals as goal

pub end_of_line-requires-clause-within : goal.end_of_line-requires-clause-within
end_of_line-requires-clause-within c =
    filled_at c.args.limit
    (labels_of c.args.labels.now.entries) c.args.program.now c.loop-source.source-index c.loop-source.bytes.items c.loop-source.address c.loop-source.invariant

pub unreachable-requires : goal.unreachable-requires
unreachable-requires c =
    let fits = filled_within c.args.limit
    (labels_of c.args.labels.now.entries) c.args.program.now c.loop-source.source-index c.source-item.result c.loop-source.bytes.items c.loop-source.address c.loop-source.invariant (c.loop-source-test.true, c.source-item.is) in
    let clash : None ≡ Some (end_of_line c.source-item.result c.loop-source.address) = sym c.in_default.is ∙ c.end_of_line.ensures
    ∙ below c.args.limit (end_of_line c.source-item.result c.loop-source.address) fits in
    cc

pub returns-in-Err : goal.returns-in-Err
returns-in-Err c =
    subst (λ e. Reports e (content_error (labels_of c.args.labels.now.entries) (places first_address c.args.program.now)))
    (sym c.reported_at.ensures)
    (filled_wrong c.args.limit
    (labels_of c.args.labels.now.entries) c.args.program.now c.loop-source.source-index c.source-item.result c.loop-source.bytes.items c.loop-source.address c.in-Err.kind c.loop-source.invariant (c.loop-source-test.true, c.source-item.is) c.in-Err.ensures)

pub loop-source-preserved : goal.loop-source-preserved
loop-source-preserved c =
    filled_more c.args.limit
    (labels_of c.args.labels.now.entries) c.args.program.now c.loop-source.source-index c.source-item.result c.loop-source.bytes.items c.fill_line.new.bytes.items c.loop-source.address c.in-Some.end c.loop-source.invariant (c.loop-source-test.true, c.source-item.is) c.in_default-fill_line.ensures (up_to_is c.args.limit (end_of_line c.source-item.result c.loop-source.address) c.in-Some.end c.in-Some.ensures)

pub returns : goal.returns
returns c =
    filled_all c.args.limit
    (labels_of c.args.labels.now.entries) c.args.program.now c.loop-source.source-index c.loop-source.bytes.items c.loop-source.address c.loop-source.invariant c.loop-source-test.false
