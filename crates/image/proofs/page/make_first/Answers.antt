pub returns-clause-ok : Rattle.image.proofs.page.make_first.Goals.returns-clause-ok
unfolding Rattle.image.specs.Private.Pages.zeros
returns-clause-ok c = c.in_ok-page.ensures
