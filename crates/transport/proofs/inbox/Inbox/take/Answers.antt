use Rattle.transport.proofs.Common.{ap, HasRead, subst, sym, take, Unread, ◌∙◌}
use Rattle.transport.proofs.ServerLemmas.{polls, emptied}
use Rattle.transport.proofs.inbox.Inbox.take.Goals as goal

pub returns-clause-polled : goal.returns-clause-polled
returns-clause-polled c heard s =
    let none = ap (λ (u : Unread). u.pending) c.self.view_is ∙ c.requires in
    rw c.polled.ensures
    (polls (record {
      unframer = c.self.inside.unframer;
      pending = take c.self.inside.pending c.self.inside.room.items;
    }) heard c.take_message-taken.result c.self.inside.is_faulty
    c.take_message-taken.new.unframer _ none none c.take_message-taken.ensures.tail c.self.invariant.1
    c.take_message-taken.ensures.takes c.take_message-taken.ensures.all
    (subst (λ o. HasRead o heard) (sym c.self.view_is) s))

pub returns-clause-emptied : goal.returns-clause-emptied
returns-clause-emptied c h =
    emptied c.self.inside.unframer c.take_message-taken.new.unframer c.take_message-taken.result c.self.inside.is_faulty _
    (ap (λ (u : Unread). u.pending) c.self.view_is ∙ c.requires) c.take_message-taken.ensures.tail c.self.invariant.1
    c.take_message-taken.ensures.all (sym c.polled.ensures ∙ h)
