use Rattle.transport.proofs.Common.{ap, fed, HasRead, subst, sym, take, ◌∙◌}
use Rattle.transport.proofs.ServerLemmas.{feeds}

pub returns-clause-ok : Rattle.transport.proofs.inbox.Inbox.feed.Goals.returns-clause-ok
returns-clause-ok c heard s =
    feeds (record { unframer = c.self.inside.unframer; pending = take c.self.inside.pending c.self.inside.room.items }) heard _
    (c.in_ok-feed.ensures.fed ∙ ap (λ l. fed c.self.inside.unframer (take c.self.inside.pending l)) c.deref.ensures.value)
    (subst (λ o. HasRead o heard) (sym c.self.view_is) s)
