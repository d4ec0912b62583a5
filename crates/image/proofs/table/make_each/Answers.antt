use Rattle.image.proofs.Common.{ap, Global, IsPage, length, rules, subst, sym, Vec, ℕ, ◌<◌, ◌∙◌}
use Rattle.image.proofs.Flat.{page_at}
use Rattle.image.proofs.Tables.{on_err, page_kept, page_made, set_at}
use Rattle.image.proofs.table.make_each.Goals as goal

pub make-requires : goal.make-requires
make-requires c =
    let ps = c.loop-index.pages.items in
    let page = c.index_mut.result.now in
    let there : c.loop-index.index < length ps = search rules in
    subst (λ (v : Vec ℕ Global). IsPage v.items) (sym c.index_mut.ensures.value)
    (page_at ps c.loop-index.index page c.loop-index.invariant.keeps.each there)

pub returns-in_err-make-clause-lacks : goal.returns-in_err-make-clause-lacks
returns-in_err-make-clause-lacks c =
    let ps = c.loop-index.pages.items in
    let page = c.index_mut.result.now in
    let there : c.loop-index.index < length ps = search rules in
    on_err c.from_residual.result (record {
      at = c.loop-index.index;
      from = search rules;
      below = search rules;
      page = c.make.new.page;
      there = sym (set_at ps c.loop-index.index c.make.new.page c.make.new.page there);
      none = ap (λ (v : Vec ℕ Global). v.items) c.in_err-make.ensures.err ∙ c.in_err-make.ensures.needs;
    })

pub loop-index-preserved : goal.loop-index-preserved
loop-index-preserved c =
    let ps = c.loop-index.pages.items in
    let page = c.index_mut.result.now in
    let there : c.loop-index.index < length ps = search rules in
    record {
      keeps =
          page_kept c.args.pages.now.items ps c.loop-index.index page c.make.new.page c.loop-index.invariant.keeps there
          c.index_mut.ensures.value c.in_ok-make.ensures.ok;
      made =
          page_made ps c.loop-index.index c.args.first page c.make.new.page c.loop-index.invariant.keeps.each there
          c.index_mut.ensures.value c.in_ok-make.ensures.ok c.loop-index.invariant.made;
    }
