use Rattle.std.proofs.lemmas.Result.{on_ok_weaker}
use Rattle.console.proofs.page.Page.say.Goals as goal

pub returns-clause-words : goal.returns-clause-words
returns-clause-words c = on_ok_weaker c.put.result (λ is. (c.in_ok-words.words, (c.in_ok-words.ensures.ok, is))) c.put.ensures.part
